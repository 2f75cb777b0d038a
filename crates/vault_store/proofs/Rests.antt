-- What doesn't change while no step ends: the numbers of a store, and what it keeps at rest.
use Rattle.std.proofs.Common.{◌≡◌, ℕ, ◌+◌, IsTrue, Bool, false, not, ◌&&◌, cond, List, [], length, Some, refl, sym, ◌∙◌, ap, arith, Result}
use Rattle.std.proofs.lemmas.Bool.{false≢true}
use Rattle.vault_model.specs.Said.{Effect}
use Rattle.vault_state.specs.Vault.{Vault}
use Rattle.vault_device.specs.Disk.{Disk}
use Rattle.vault_device.specs.declared.device.Fault.{Fault}
use Rattle.vault_journal.specs.Rows.{AreRecordsOf}
use Rattle.vault_store.specs.declared.phase.Phase.{Phase}
use Rattle.vault_store.specs.declared.phase.Phase.TheVariants.{Idle}
use Rattle.vault_store.specs.declared.phase.Advanced.{Advanced}
use Rattle.vault_format.specs.Snapshot.{current_version, HasSnapshot}
use Rattle.vault_format.specs.Files.{applied}
use Rattle.vault_store.specs.Phases.{is_idle}
use Rattle.vault_store.specs.State.{StoreState}
use Rattle.vault_store.specs.Seen.{StoreSeen, Keeps, AreFiles, other, settled_reading}
use Rattle.vault_store.specs.Step.{renews, gained, AreNumbers}

-- a state in which all that was sealed is durable
abbrev pub resting : Vault → Vault → List Effect → StoreState
resting v noted buffer = record { settled = v; sealed = v; noted = noted; sealing = []; buffer = buffer; phase = Idle; broken = false }

pub rest_kept : {D : Type 0} (disk : D → Disk) (seen : StoreSeen D) (v noted : Vault) (buffer : List Effect) → seen.phase ≡ Idle → seen.broken ≡ false → seen.sealed ≡ 0
    → HasSnapshot v → AreRecordsOf buffer seen.buffer → applied v buffer ≡ Some noted
    → (IsTrue (disk seen.active).honest → IsTrue (disk seen.spare).honest
    → AreFiles (disk seen.active) (disk seen.spare) (settled_reading seen (resting v noted buffer)) Idle false [] seen.shut seen.rest)
    → Keeps disk seen (resting v noted buffer)
rest_kept disk seen v noted buffer idle whole none spelled records effects files = record {
  phase = idle;
  broken = whole;
  spelled = spelled;
  sealing = tt;
  few = λ commit. omega arith;
  sealed_bytes = none;
  under_way = λ busy commit. absurd (false≢true (sym busy));
  none = λ idle. refl;
  sealed = refl;
  buffer = records;
  noted = effects;
  renewal = λ snapshot. absurd (false≢true snapshot);
  files = files;
}

-- the numbers of a step that isn't the last
pub still_numbers : {D : Type 0} (old : StoreSeen D) (active spare : D) (buffer : List ℕ) (sealed : ℕ) (phase : Phase) (broken : Bool) (result : Result Advanced Fault)
    → renews old result ≡ false → gained old result ≡ 0 → buffer ≡ cond (is_idle old.phase && not old.broken) [] old.buffer
    → AreNumbers old (record old { active = active; spare = spare; buffer = buffer; sealed = sealed; phase = phase; broken = broken }) result
still_numbers old active spare buffer sealed phase broken result still none left = record {
  which = ap (λ (b : Bool). cond b (other old.which) old.which) (sym still);
  version = ap (λ (b : Bool). cond b current_version old.version) (sym still);
  generation = ap (λ (b : Bool). cond b (old.generation + 1) old.generation) (sym still);
  tail = let same : old.tail ≡ old.tail + gained old result = omega (arith, none) in same ∙ ap (λ (b : Bool). cond b (length old.rest) (old.tail + gained old result)) (sym still);
  journal_length = let same : old.journal_length ≡ old.journal_length + gained old result = omega (arith, none) in same ∙ ap (λ (b : Bool). cond b 0 (old.journal_length + gained old result)) (sym still);
  buffer = left;
}
