-- The first call of a snapshot, and its last step, which exchanges the files.
use Rattle.std.proofs.Common.{◌≡◌, inr, ℕ, ◌+◌, ◌<◌, ◌^◌, IsTrue, Bool, false, cond, not, ◌&&◌, List, [], ◌∷◌, ◌++◌, length, Some, refl, sym, ◌∙◌, ap, subst, arith, length-append, Ok}
use Rattle.std.proofs.lemmas.Bool.{false≢true}
use Rattle.vault_model.specs.Said.{Effect}
use Rattle.vault_state.specs.Vault.{Vault}
use Rattle.vault_device.specs.Disk.{Disk, IsLawful, IsOneCall, IsSync, LeavesSince}
use Rattle.vault_device.specs.declared.device.Fault.{Fault}
use Rattle.vault_journal.specs.Spelling.{in_four, in_eight, records_of}
use Rattle.vault_store.specs.declared.opening.File.{File}
use Rattle.vault_store.specs.declared.opening.File.TheVariants.{First, Second}
use Rattle.vault_store.specs.declared.phase.Phase.{Phase}
use Rattle.vault_store.specs.declared.phase.Phase.TheVariants.{Idle, Start, SnapOpening}
use Rattle.vault_store.specs.declared.phase.Advanced.{Advanced}
use Rattle.vault_store.specs.declared.phase.Advanced.TheVariants as answers
use Rattle.vault_format.specs.Snapshot.{current_version, snapshot_of, HasSnapshot}
use Rattle.vault_format.specs.Files.{mark, version_number, current_head, snapshot_bytes, behind_gate, applied, Holds, IsFront, IsSpare, HasHead}
use Rattle.vault_store.specs.Phases.{is_idle, is_snapshot}
use Rattle.vault_store.specs.State.{StoreState, started}
use Rattle.vault_store.specs.OnDisk.{IsIdle}
use Rattle.vault_store.specs.Spares.{IsAside, IsSpareIn, IsSpareOn}
use Rattle.vault_store.specs.Seen.{StoreSeen, of_file, other, first_of, second_of, Keeps, IsRenewal, settled_reading, started_seen}
use Rattle.vault_store.specs.Sound.{IsReached, IsRest, IsActive, IsSoundStore}
use Rattle.vault_store.specs.Companions.{MayPrecede, IsOfOneVault}
use Rattle.vault_store.specs.Earlier.{IsEarlier}
use Rattle.vault_store.specs.Step.{IsAtMostOneCall, IsStep, MayBeLeft, IsAdvance}
use Rattle.vault_store.proofs.Advances.{moved_on}
use Rattle.vault_store.proofs.Asides.{torn_spare, renewed_front, length-behind}
use Rattle.vault_format.proofs.Named.{spelled_stays}
use Rattle.vault_store.proofs.Companions.{one_in, torn_precedes}
use Rattle.vault_store.proofs.Growing.{grown}
use Rattle.vault_store.proofs.TwoVaults.{one_led}
use Rattle.vault_store.proofs.Passes.{head_based}
use Rattle.vault_store.proofs.Placed.{calls_placed}
use Rattle.vault_store.proofs.Renewals.{idle_leaves, to_active}
use Rattle.vault_store.proofs.Rests.{rest_kept}
use Rattle.vault_store.proofs.Renewed.{IsInsideSpare, spare_called, leaves_renewed, snap_phase, snap_keeps}
use Rattle.vault_format.proofs.Rights.{holds_head, head_open, one_generation}
use Rattle.vault_format.proofs.Short.{spelled_short}

-- the same files, the other way round
exchanged : {D : Type 0} (which : File) (one two : D) → of_file (other which) one two ≡ of_file which two one
exchanged First one two = refl
exchanged Second one two = refl

-- what is noted has a spelling
pub noted_spelled : {D : Type 0} (disk : D → Disk) (store : StoreSeen D) (s : StoreState) → Keeps disk store s → HasSnapshot s.noted
noted_spelled disk store s keeps = spelled_stays s.sealed s.noted s.buffer (spelled_stays s.settled s.sealed s.sealing keeps.spelled keeps.sealing keeps.sealed) keeps.buffer.each keeps.noted

module _ {D : Type 0} (disk : D → Disk) (old : StoreSeen D) (v : Vault) (is : old.phase ≡ Idle) (unbroken : old.broken ≡ false) (fits : old.generation + 1 < 2 ^ 64) where
  -- a snapshot is begun
  pub started_sound : HasSnapshot v → IsSoundStore disk old → IsSoundStore disk (started_seen old v)
  started_sound has sound = record {
    reached = record { front = mark ++ in_four (version_number current_version) ++ in_eight (old.generation + 1) ++ snapshot_bytes current_version v; ends = refl; fits = fits };
    sealed_fits = sound.sealed_fits;
    bounded = tt;
    inside = sound.inside;
    short = let short : length (snapshot_of v) < 2 ^ 32 = spelled_short v has in omega (arith, short, length-behind (old.generation + 1) v);
    active = λ honest.
        let was : IsActive (disk old.active) old.tail old.sealed Idle false =
        subst (λ (p : Phase). IsActive (disk old.active) old.tail old.sealed p false) is (subst (λ (b : Bool). IsActive (disk old.active) old.tail old.sealed old.phase b) unbroken (sound.active honest)) in
        subst (λ (b : Bool). IsActive (disk old.active) old.tail old.sealed Start b) (sym unbroken) (record { front = was.front; records = was.records; stands = was.stands; size = was.size; on_disk = was.on_disk });
    spare = λ honest.
        let was : IsSpareIn (λ x. Unit {0}) (disk old.spare) Idle old.shut old.rest =
        subst (λ (p : Phase). IsSpareIn (λ x. Unit {0}) (disk old.spare) p old.shut old.rest) is (subst (λ (b : Bool). IsSpareOn (λ x. Unit {0}) (disk old.spare) old.phase b old.shut old.rest) unbroken (sound.spare honest)) in
        subst (λ (b : Bool). IsSpareOn (λ x. Unit {0}) (disk old.spare) Start b old.shut (behind_gate (old.generation + 1) v)) (sym unbroken) was;
  }

  -- files of one vault stay so
  pub started_one : IsOfOneVault disk old → IsOfOneVault disk (started_seen old v)
  started_one one_vault one two =
      let are = one_in disk old Idle false is unbroken one_vault one two in record {
        base = are.base;
        based = are.based;
        beside =
            subst (λ (b : Bool). IsSpareOn (MayPrecede old.generation are.base) (disk old.spare) Start b old.shut (behind_gate (old.generation + 1) v)) (sym unbroken) are.beside;
      }

  started_in : (s : StoreState) → Keeps disk old (record s { phase = Idle; broken = false }) → s.noted ≡ v → Keeps disk (record (started_seen old v) { broken = false }) (started (record s { phase = Idle; broken = false }))
  started_in s keeps noted = record {
    phase = refl;
    broken = refl;
    spelled = keeps.spelled;
    sealing = keeps.buffer.each;
    few = λ commit. absurd (false≢true (sym commit));
    sealed_bytes = keeps.sealed_bytes ∙ ap (λ (effects : List Effect). length (records_of effects)) (keeps.none refl);
    under_way = λ busy commit. absurd (false≢true (sym commit));
    none = λ idle. absurd (false≢true idle);
    sealed = subst (λ (w : Vault). applied w s.buffer ≡ Some s.noted) (sym settled_is) keeps.noted;
    buffer = record { each = tt; whole = refl };
    noted = refl;
    renewal = λ snapshot. record { spelled = noted_spelled disk old (record s { phase = Idle; broken = false }) keeps; fits = fits; bytes = ap (λ (w : Vault). behind_gate (old.generation + 1) w) (sym noted) };
    files = λ one two. let files = keeps.files one two in record { front = files.front; is_front = files.is_front; active = files.active; spare = files.spare };
  }
    where
      settled_is : s.settled ≡ s.sealed
      settled_is = let e = subst (λ (l : List Effect). applied s.settled l ≡ Some s.sealed) (keeps.none refl) keeps.sealed in cc

  pub started_kept : (s : StoreState) → Keeps disk old s → s.noted ≡ v → Keeps disk (started_seen old v) (started s)
  started_kept s keeps noted =
      subst (λ (b : Bool). Keeps disk (record (started_seen old v) { broken = b }) (started s)) (sym unbroken)
      (subst (λ (t : StoreState). Keeps disk (record (started_seen old v) { broken = false }) (started t)) same (started_in s (subst (Keeps disk old) (sym same) keeps) noted))
    where
      same : record s { phase = Idle; broken = false } ≡ s
      same = λ i. record s { phase = (sym is ∙ keeps.phase) i; broken = (sym unbroken ∙ keeps.broken) i }

module _ {D : Type 0} (disk : D → Disk) (old : StoreSeen D) (spare : D) (unbroken : old.broken ≡ false) (is : old.phase ≡ SnapOpening) (lawful : IsTrue (disk old.active).honest → IsLawful (disk old.active)) (lawful_spare : IsTrue (disk old.spare).honest → IsLawful (disk old.spare))
    (call : IsOneCall {A = Unit {0}} {E = Fault} (disk old.spare) (disk spare) (Ok tt)) (sync : IsTrue (disk old.spare).honest → IsSync {E = Fault} (Ok tt) (disk old.spare) (disk spare)) where
  -- the files exchanged
  abbrev pub exchanged_seen : Bool → StoreSeen D
  exchanged_seen broken = record {
    active = spare;
    spare = old.active;
    which = other old.which;
    buffer = old.buffer;
    sealed = 0;
    version = current_version;
    generation = old.generation + 1;
    tail = length old.rest;
    journal_length = 0;
    phase = Idle;
    broken = broken;
    shut = false;
    rest = [];
  }

  was_honest : IsTrue (disk spare).honest → IsTrue (disk old.spare).honest
  was_honest honest = subst IsTrue call.same_honesty honest

  pub exchanged_sound : IsSoundStore disk old → IsSoundStore disk (exchanged_seen false)
  exchanged_sound sound = record {
    reached = tt;
    sealed_fits = omega arith;
    bounded = λ some. omega (arith, sound.short);
    inside = omega arith;
    short = omega arith;
    active = λ honest. record {
      front = 1 ∷ rest.front;
      records = [];
      stands = omega (arith, ap length rest.ends, length-append rest.front (0 ∷ []));
      size = refl;
      on_disk =
          to_active (disk old.spare) (disk spare) old.rest (1 ∷ rest.front) (ap (λ (l : List ℕ). 1 ∷ l) (sym rest.ends)) (lawful_spare (was_honest honest))
          (subst (λ (p : Phase). IsSpareIn (λ x. Unit {0}) (disk old.spare) p old.shut old.rest) is (subst (λ (b : Bool). IsSpareOn (λ x. Unit {0}) (disk old.spare) old.phase b old.shut old.rest) unbroken (sound.spare (was_honest honest)))) (sync (was_honest honest));
    };
    spare = λ honest.
        let was : IsActive (disk old.active) old.tail old.sealed SnapOpening false =
        subst (λ (p : Phase). IsActive (disk old.active) old.tail old.sealed p false) is (subst (λ (b : Bool). IsActive (disk old.active) old.tail old.sealed old.phase b) unbroken (sound.active honest)) in
        record { settled = was.on_disk.settled; stands = tt; closed = λ e. absurd (false≢true e); torn = λ e y torn. tt };
  }
    where
      rest : IsRest old.generation old.rest
      rest = subst (λ (p : Phase). IsReached p old.generation old.rest) is sound.reached

  -- the old file stands beside the new one
  beside : (front : List ℕ) (s : StoreState) → IsFront front (settled_reading old s) → IsIdle (disk old.active) front → IsAside (IsSpare (old.generation + 1)) (disk old.active) false
  beside front s is_front idle = record {
    settled = idle.settled;
    stands = stands;
    closed = λ e. absurd (false≢true e);
    torn = λ e y. torn_spare (old.generation + 1) (disk old.active).shown y stands (λ closed. closed.shut (head_open (disk old.active).shown old.generation head).gate);
  }
    where
      head : HasHead old.version old.generation (disk old.active).shown
      head = holds_head (disk old.active).shown (settled_reading old s) (record { front = front; is_front = is_front; ends = idle.ends })

      stands : IsSpare (old.generation + 1) (disk old.active).shown
      stands = inr (old.generation, omega arith, (old.version, head))

  exchanged_kept : (s : StoreState) → Keeps disk old (record s { phase = SnapOpening; broken = false })
      → Keeps disk (exchanged_seen false) (record { settled = s.sealed; sealed = s.sealed; noted = s.noted; sealing = []; buffer = s.buffer; phase = Idle; broken = false })
  exchanged_kept s keeps =
      rest_kept disk (exchanged_seen false) s.sealed s.noted s.buffer refl refl refl renewal.spelled keeps.buffer keeps.noted
      (λ one two.
      let files = keeps.files two (was_honest one) in record {
        front = current_head (old.generation + 1) ++ snapshot_bytes current_version s.sealed;
        is_front =
            subst (λ (n : ℕ). IsFront (current_head (old.generation + 1) ++ snapshot_bytes current_version s.sealed) (record { vault = s.sealed; version = current_version; generation = old.generation + 1; tail = n; journal_length = 0 })) (sym (ap length renewal.bytes ∙ length-behind (old.generation + 1) s.sealed))
            (renewed_front (old.generation + 1) s.sealed renewal.spelled (omega arith) renewal.fits);
        active =
            to_active (disk old.spare) (disk spare) old.rest (current_head (old.generation + 1) ++ snapshot_bytes current_version s.sealed) (ap (λ (l : List ℕ). 1 ∷ l) (sym renewal.bytes)) (lawful_spare (was_honest one)) files.spare (sync (was_honest one));
        spare = beside files.front (record s { phase = SnapOpening; broken = false }) files.is_front files.active;
      })
    where
      renewal : IsRenewal old.generation s.sealed old.rest
      renewal = keeps.renewal refl

  -- the old file, which leads to an earlier state of the new one's snapshot, stands beside that
  exchanged_one : (s : StoreState) → Keeps disk old (record s { phase = SnapOpening; broken = false }) → IsOfOneVault disk (exchanged_seen false)
  exchanged_one s keeps one two =
      let files = keeps.files two (was_honest one) in
      let holds : Holds (disk old.active).shown (settled_reading old s) = record { front = files.front; is_front = files.is_front; ends = files.active.ends } in
      let head = holds_head (disk old.active).shown (settled_reading old s) holds in
      let stands : MayPrecede (old.generation + 1) s.sealed (disk old.active).shown =
      λ older right.
      let same = one_generation (disk old.active).shown older old.generation right.1 head in (
        omega (arith, same),
        λ v leads later. later
            (subst (λ (w : Vault). IsEarlier w s.sealed) (one_led (disk old.active).shown old.generation older s.settled v (settled_reading old s, holds, refl, refl) leads) (grown s.settled s.sealed s.sealing keeps.sealed)),
      ) in record {
        base = s.sealed;
        based = λ x image.
            head_based (old.generation + 1) s.sealed x renewal.spelled (omega arith) renewal.fits
            (idle_leaves (disk spare) new_front []
            (to_active (disk old.spare) (disk spare) old.rest new_front (ap (λ (l : List ℕ). 1 ∷ l) (sym renewal.bytes)) (lawful_spare (was_honest one)) files.spare (sync (was_honest one))) x image);
        beside = record {
          settled = files.active.settled;
          stands = stands;
          closed = λ e. absurd (false≢true e);
          torn = λ e y. torn_precedes (old.generation + 1) s.sealed (disk old.active).shown y stands (λ closed. closed.shut (head_open (disk old.active).shown old.generation head).gate);
        };
      }
    where
      renewal : IsRenewal old.generation s.sealed old.rest
      renewal = keeps.renewal refl

      new_front : List ℕ
      new_front = current_head (old.generation + 1) ++ snapshot_bytes current_version s.sealed

  -- a crash inside leaves the old file, and the new one with its head gate open or closed
  exchanged_inside : (IsTrue (disk old.spare).honest → LeavesSince (disk old.spare) (disk spare) (disk old.spare).IsImage) → IsInsideSpare disk old spare
  exchanged_inside moments = leaves_renewed disk old spare SnapOpening is refl unbroken lawful refl (λ honest v renewing was. renewing.images v ((moments honest).each v was))

  -- of the files exchanged
  may_exchanged : (x y : List ℕ) → MayBeLeft (disk (first_of old)) (disk (second_of old)) (disk (of_file (other old.which) spare old.active)) (disk (of_file (other old.which) old.active spare)) x y
      → MayBeLeft (disk (first_of old)) (disk (second_of old)) (disk (of_file old.which old.active spare)) (disk (of_file old.which spare old.active)) x y
  may_exchanged x y may =
      subst (λ (d : D). MayBeLeft (disk (first_of old)) (disk (second_of old)) (disk d) (disk (of_file old.which spare old.active)) x y) (exchanged old.which spare old.active)
      (subst (λ (d : D). MayBeLeft (disk (first_of old)) (disk (second_of old)) (disk (of_file (other old.which) spare old.active)) (disk d) x y) (exchanged old.which old.active spare) may)

  -- the open head gate is synced
  pub head_settled : (IsTrue (disk old.spare).honest → LeavesSince (disk old.spare) (disk spare) (disk old.spare).IsImage) → IsAdvance disk old (exchanged_seen old.broken) (Ok answers.Settled)
  head_settled moments =
      subst (λ (b : Bool). IsAdvance disk old (exchanged_seen b) (Ok answers.Settled)) (sym unbroken) (record {
        step = λ s keeps.
            subst (λ (t : StoreState). IsStep disk old (exchanged_seen false) (Ok answers.Settled) t) (snap_phase disk old spare SnapOpening is refl unbroken lawful s keeps)
            (refl, exchanged_kept s (snap_keeps disk old spare SnapOpening is refl unbroken lawful s keeps));
        numbers = record {
          which = ap (λ (p : Phase). cond (is_snapshot p) (other old.which) old.which) (sym is);
          version = ap (λ (p : Phase). cond (is_snapshot p) current_version old.version) (sym is);
          generation = ap (λ (p : Phase). cond (is_snapshot p) (old.generation + 1) old.generation) (sym is);
          tail = ap (λ (p : Phase). cond (is_snapshot p) (length old.rest) (old.tail + (5 + old.sealed))) (sym is);
          journal_length = ap (λ (p : Phase). cond (is_snapshot p) 0 (old.journal_length + (5 + old.sealed))) (sym is);
          buffer = ap (λ (b : Bool). cond (b && not old.broken) [] old.buffer) (sym (ap is_idle is));
        };
        rests = λ idle. absurd (moved_on answers.Settled (λ e. cc) (λ e. cc) idle);
        calls =
            subst (λ (d : D). IsAtMostOneCall {A = Advanced} {E = Fault} (disk (first_of old)) (disk (second_of old)) (disk d) (disk (of_file (other old.which) old.active spare)) (Ok answers.Settled)) (sym (exchanged old.which spare old.active))
            (subst (λ (d : D). IsAtMostOneCall {A = Advanced} {E = Fault} (disk (first_of old)) (disk (second_of old)) (disk (of_file old.which old.active spare)) (disk d) (Ok answers.Settled)) (sym (exchanged old.which old.active spare))
            (calls_placed disk old.which old.active old.spare old.active spare (Ok answers.Settled) (spare_called (disk old.active) (disk old.spare) (disk spare) (Ok tt) (Ok answers.Settled) call (λ err. err))));
        moments = λ s x y keeps one two may. (exchanged_inside moments).moments s x y keeps one two (may_exchanged x y may);
        one_vault = λ s keeps one_vault. exchanged_one s (snap_keeps disk old spare SnapOpening is refl unbroken lawful s keeps);
        passes = λ s x y keeps one_vault one two may. (exchanged_inside moments).passes s x y keeps one_vault one two (may_exchanged x y may);
      })
