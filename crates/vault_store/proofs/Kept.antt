-- What a store keeps, from step to step.
use Rattle.std.proofs.Common.{◌≡◌, ◌≢◌, ℕ, ◌+◌, ◌≤◌, IsTrue, Bool, false, cond, List, [], ◌++◌, length, Some, refl, sym, ◌∙◌, ap, subst, arith}
use Rattle.std.proofs.lemmas.Bool.{false≢true}
use Rattle.vault_model.specs.Said.{Effect}
use Rattle.vault_state.specs.Vault.{Vault}
use Rattle.vault_model.specs.After.{after}
use Rattle.vault_device.specs.Disk.{Disk}
use Rattle.vault_journal.specs.Spelling.{record_of, records_of, HasRecord}
use Rattle.vault_store.specs.declared.phase.Phase.{Phase}
use Rattle.vault_store.specs.declared.phase.Phase.TheVariants.{Idle, Written, Opening}
use Rattle.vault_format.specs.Files.{most_records, frame_bytes, IsFrame, IsSpare, applied}
use Rattle.vault_store.specs.Phases.{is_idle, is_snapshot}
use Rattle.vault_store.specs.State.{StoreState, with_effect}
use Rattle.vault_store.specs.OnDisk.{IsOnDisk}
use Rattle.vault_store.specs.Seen.{StoreSeen, Keeps, settled_reading}
use Rattle.vault_store.proofs.Asides.{still_aside}
use Rattle.vault_format.proofs.Named.{spelled_stays}
use Rattle.vault_store.proofs.Rests.{rest_kept}
use Rattle.vault_format.proofs.Frames.{applied_more, records_more, longer_front}

pub note_kept : {D : Type 0} (disk : D → Disk) (store : StoreSeen D) (s : StoreState) (effect : Effect) (next : Vault) → HasRecord effect → Keeps disk store s → after s.noted effect ≡ Some next
    → Keeps disk (record store { buffer = store.buffer ++ record_of effect }) (with_effect s effect next)
note_kept disk store s effect next has keeps e = record {
  phase = keeps.phase;
  broken = keeps.broken;
  spelled = keeps.spelled;
  sealing = keeps.sealing;
  few = keeps.few;
  sealed_bytes = keeps.sealed_bytes;
  under_way = keeps.under_way;
  none = keeps.none;
  sealed = keeps.sealed;
  buffer = records_more s.buffer effect store.buffer keeps.buffer has;
  noted = applied_more s.sealed s.noted next s.buffer effect keeps.noted e;
  renewal = keeps.renewal;
  files = keeps.files;
}

-- what a disk in one phase gives in another, whatever the front and the records
abbrev pub IsMove : Disk → Disk → ℕ → ℕ → Phase → Phase → Bool → Type 0
IsMove old new tail sealed p q broken = (front records : List ℕ) → length front ≡ tail → length records ≡ sealed → IsOnDisk old p false front records → IsOnDisk new q broken front records

module _ {D : Type 0} (disk : D → Disk) (old : StoreSeen D) (active : D) (same : (disk active).honest ≡ (disk old.active).honest) where
  honest_before : IsTrue (disk active).honest → IsTrue (disk old.active).honest
  honest_before honest = subst IsTrue same honest

  -- a step that changes the phase alone
  pub phase_kept : (s : StoreState) (p q : Phase) (broken : Bool) → is_idle p ≡ false → is_idle q ≡ false → is_snapshot p ≡ false → is_snapshot q ≡ false → (IsTrue (disk old.active).honest → IsMove (disk old.active) (disk active) old.tail old.sealed p q broken)
      → Keeps disk old (record s { phase = p; broken = false }) → Keeps disk (record old { active = active; phase = q; broken = broken }) (record s { phase = q; broken = broken })
  phase_kept s p q broken busy still of_p of_q move keeps = record {
    phase = refl;
    broken = refl;
    spelled = keeps.spelled;
    sealing = keeps.sealing;
    few = λ commit. keeps.few of_p;
    sealed_bytes = size ∙ ap (λ (b : Bool). cond b 0 (length (records_of s.sealing))) (sym of_q);
    under_way = λ is commit. keeps.under_way busy of_p;
    none = λ idle. absurd (false≢true (sym still ∙ idle));
    sealed = keeps.sealed;
    buffer = keeps.buffer;
    noted = keeps.noted;
    renewal = λ snapshot. absurd (false≢true (sym of_q ∙ snapshot));
    files = λ one two.
        let files = keeps.files (honest_before one) two in record {
          front = files.front;
          is_front = files.is_front;
          active = move (honest_before one) files.front (records_of s.sealing) (sym files.is_front.tail_is) (sym size) files.active;
          spare = still_aside (IsSpare old.generation) (disk old.spare) old.shut old.rest p q broken of_p of_q files.spare;
        };
  }
    where
      size : old.sealed ≡ length (records_of s.sealing)
      size = keeps.sealed_bytes ∙ ap (λ (b : Bool). cond b 0 (length (records_of s.sealing))) of_p

  -- the first step of a commit
  pub sealed_kept : (s : StoreState) (broken : Bool) → s.buffer ≢ [] → length old.buffer ≤ most_records
      → (IsTrue (disk old.active).honest → (front : List ℕ) → length front ≡ old.tail → IsOnDisk (disk old.active) Idle false front [] → IsOnDisk (disk active) Written broken front old.buffer)
      → Keeps disk old (record s { phase = Idle; broken = false })
      → Keeps disk (record old { active = active; buffer = []; sealed = length old.buffer; phase = Written; broken = broken })
      (record { settled = s.settled; sealed = s.noted; noted = s.noted; sealing = s.buffer; buffer = []; phase = Written; broken = broken })
  sealed_kept s broken some few move keeps = record {
    phase = refl;
    broken = refl;
    spelled = keeps.spelled;
    sealing = keeps.buffer.each;
    few = λ commit. omega (arith, few, ap length keeps.buffer.whole);
    sealed_bytes = ap length keeps.buffer.whole;
    under_way = λ is commit. some;
    none = λ idle. absurd (false≢true idle);
    sealed = subst (λ (w : Vault). applied w s.buffer ≡ Some s.noted) (sym settled_is) keeps.noted;
    buffer = record { each = tt; whole = refl };
    noted = refl;
    renewal = λ snapshot. absurd (false≢true snapshot);
    files = λ one two.
        let files = keeps.files (honest_before one) two in record {
          front = files.front;
          is_front = files.is_front;
          active = subst (λ (l : List ℕ). IsOnDisk (disk active) Written broken files.front l) keeps.buffer.whole (move (honest_before one) files.front (sym files.is_front.tail_is) files.active);
          spare = still_aside (IsSpare old.generation) (disk old.spare) old.shut old.rest Idle Written broken refl refl files.spare;
        };
  }
    where
      settled_is : s.settled ≡ s.sealed
      settled_is = let e = subst (λ (l : List Effect). applied s.settled l ≡ Some s.sealed) (keeps.none refl) keeps.sealed in cc

  -- the last step of a commit
  pub settled_kept : (s : StoreState) (tail journal_length : ℕ) → tail ≡ old.tail + (old.sealed + 5) → journal_length ≡ old.journal_length + (old.sealed + 5)
      → (IsTrue (disk old.active).honest → (front records : List ℕ) → length front ≡ old.tail → IsOnDisk (disk old.active) Opening false front records → IsOnDisk (disk active) Idle false (front ++ frame_bytes records) [])
      → Keeps disk old (record s { phase = Opening; broken = false })
      → Keeps disk (record old { active = active; tail = tail; journal_length = journal_length; sealed = 0; phase = Idle; broken = false })
      (record { settled = s.sealed; sealed = s.sealed; noted = s.noted; sealing = []; buffer = s.buffer; phase = Idle; broken = false })
  settled_kept s tail journal_length tail_is journal_is move keeps =
      rest_kept disk (record old { active = active; tail = tail; journal_length = journal_length; sealed = 0; phase = Idle; broken = false }) s.sealed s.noted s.buffer refl refl refl
      (spelled_stays s.settled s.sealed s.sealing keeps.spelled keeps.sealing keeps.sealed) keeps.buffer keeps.noted
      (λ one two.
      let files = keeps.files (honest_before one) two in record {
        front = files.front ++ frame_bytes (records_of s.sealing);
        is_front = longer_front files.front (settled_reading old s) s.sealing s.sealed tail journal_length files.is_front frame keeps.sealed (omega (arith, tail_is, keeps.sealed_bytes)) (omega (arith, journal_is, keeps.sealed_bytes));
        active = move (honest_before one) files.front (records_of s.sealing) (sym files.is_front.tail_is) files.active;
        spare = still_aside (IsSpare old.generation) (disk old.spare) old.shut old.rest Opening Idle false refl refl files.spare;
      })
    where
      frame : IsFrame s.sealing
      frame = record { some = keeps.under_way refl refl; each = keeps.sealing; few = keeps.few refl }
