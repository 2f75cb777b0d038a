-- What one step of a store does, whatever it keeps. This project's own.
use Rattle.std.specs.Prelude.{◌≡◌, ◌≢◌, ◌⊎◌, ℕ, ◌+◌, ◌≤◌, IsTrue, Bool, false, not, ◌&&◌, if◌then◌else◌, List, [], length, Result, Ok, Err, IsErr}
use Rattle.vault_device.specs.Disk.{Disk}
use Rattle.vault_device.specs.declared.device.Fault.{Fault}
use Rattle.vault_store.specs.declared.phase.Advanced.{Advanced}
use Rattle.vault_store.specs.declared.phase.Advanced.TheVariants as answers
use Rattle.vault_format.specs.Snapshot.{current_version}
use Rattle.vault_format.specs.Files.{frame_extra}
use Rattle.vault_store.specs.Calls.{HasCause}
use Rattle.vault_store.specs.Companions.{IsOfOneVault}
use Rattle.vault_store.specs.Phases.{NoCall, is_idle, is_snapshot}
use Rattle.vault_store.specs.State.{StoreState, row_of, answer_of, advanced, failed}
use Rattle.vault_store.specs.Seen.{StoreSeen, other, first_of, second_of, Keeps, IsLeftInside}
use Rattle.vault_store.specs.TwoVaults.{AreOfTwoVaults}

-- what at most one call of the two devices leaves of their counts and of their honesty
pub record IsAtMostOneCall {A E : Type 0} (first second first_new second_new : Disk) (result : Result A E) : Type 0 where
  pub first_honest : first_new.honest ≡ first.honest
  pub second_honest : second_new.honest ≡ second.honest
  pub calls : first_new.calls + second_new.calls ≤ first.calls + second.calls + 1
  pub faults : (first.faults ≤ first_new.faults) × (second.faults ≤ second_new.faults)
  pub cause : IsErr result → HasCause first first_new ⊎ HasCause second second_new

-- a step that succeeded, or failed
abbrev pub IsStep : {D : Type 0} → (D → Disk) → StoreSeen D → StoreSeen D → Result Advanced Fault → StoreState → Type 0
IsStep disk old new (Ok answer) s = (answer ≡ answer_of s) × Keeps disk new (advanced s)
IsStep disk old new (Err fault) s = (s.broken ≡ false) × ((row_of s).call ≢ NoCall) × Keeps disk new (failed (row_of s) s)

-- whether a step makes the spare the active file: the last one of a snapshot does
abbrev pub renews : {D : Type 0} → StoreSeen D → Result Advanced Fault → Bool
renews old (Ok answers.Settled) = is_snapshot old.phase
renews old _ = false

-- how many bytes of frames a step adds: the whole frame under way, if the step makes it durable
abbrev pub gained : {D : Type 0} → StoreSeen D → Result Advanced Fault → ℕ
gained old (Ok answers.Settled) = frame_extra + old.sealed
gained old _ = 0

-- The active file, its version and its numbers after a step: the last one of a commit moves the tail gate behind the frame; the last
-- one of a snapshot exchanges the files, the new active one is of today's version, and its tail gate stands behind the snapshot; the
-- first one of a commit empties the buffer, also if its device call fails; no other changes them.
pub record AreNumbers {D : Type 0} (old new : StoreSeen D) (result : Result Advanced Fault) : Type 0 where
  pub which : new.which ≡ (if renews old result then other old.which else old.which)
  pub version : new.version ≡ (if renews old result then current_version else old.version)
  pub generation : new.generation ≡ (if renews old result then old.generation + 1 else old.generation)
  pub tail : new.tail ≡ (if renews old result then length old.rest else old.tail + gained old result)
  pub journal_length : new.journal_length ≡ (if renews old result then 0 else old.journal_length + gained old result)
  pub buffer : new.buffer ≡ (if is_idle old.phase && not old.broken then [] else old.buffer)

-- what a crash inside a step may leave of two devices
abbrev pub MayBeLeft : Disk → Disk → Disk → Disk → List ℕ → List ℕ → Type 0
MayBeLeft first second first_new second_new x y = first_new.WasImage first.moment x × second_new.WasImage second.moment y

-- what one step does: to what is kept, to the numbers, to the devices' counts, and to files of one vault; and what a crash inside leaves
pub record IsAdvance {D : Type 0} (disk : D → Disk) (old new : StoreSeen D) (result : Result Advanced Fault) : Type 0 where
  pub step : (s : StoreState) → Keeps disk old s → IsStep disk old new result s
  pub numbers : AreNumbers old new result
  pub rests : (result ≡ Ok answers.Idle) ⊎ (result ≡ Ok answers.Broken) → new ≡ old
  pub calls : IsAtMostOneCall (disk (first_of old)) (disk (second_of old)) (disk (first_of new)) (disk (second_of new)) result
  pub moments : (s : StoreState) (x y : List ℕ) → Keeps disk old s → IsTrue (disk (first_of old)).honest
      → IsTrue (disk (second_of old)).honest
      → MayBeLeft (disk (first_of old)) (disk (second_of old)) (disk (first_of new)) (disk (second_of new)) x y → IsLeftInside old s x y
  pub one_vault : (s : StoreState) → Keeps disk old s → IsOfOneVault disk old → IsOfOneVault disk new
  pub passes : (s : StoreState) (x y : List ℕ) → Keeps disk old s → IsOfOneVault disk old → IsTrue (disk (first_of old)).honest
      → IsTrue (disk (second_of old)).honest
      → MayBeLeft (disk (first_of old)) (disk (second_of old)) (disk (first_of new)) (disk (second_of new)) x y → AreOfTwoVaults x y → ⊥
