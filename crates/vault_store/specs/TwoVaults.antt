-- Two files that are of two vaults. This project's own.
use Rattle.std.specs.Prelude.{◌≡◌, ◌≢◌, ◌⊎◌, ℕ, ◌+◌, ◌<◌, Bool, true, false, List, [], ◌++◌, Option, Some, None}
use Rattle.vault_model.specs.Said.{Effect}
use Rattle.vault_state.specs.Vault.{Vault}
use Rattle.vault_device.specs.Disk.{Disk, IsTorn}
use Rattle.vault_format.specs.declared.version.FileVersion.{FileVersion}
use Rattle.vault_format.specs.Snapshot.{HasSpelling}
use Rattle.vault_format.specs.Files.{head_of, snapshot_bytes, applied, Reading, Holds, IsClosedFile, HasHead, HasRightHead}
use Rattle.vault_store.specs.declared.body.BodyError.{BodyError}
use Rattle.vault_store.specs.declared.body.BodyError.TheVariants.{Device, NoMemory}
use Rattle.vault_store.specs.declared.phase.Phase.{Phase}
use Rattle.vault_store.specs.declared.phase.Phase.TheVariants.{Writing, Filled, Ready, SnapOpening}
use Rattle.vault_store.specs.Laws.{AreHonest}
use Rattle.vault_store.specs.Seen.{StoreSeen, first_of, second_of, Keeps}
use Rattle.vault_store.specs.State.{StoreState}
use Rattle.vault_store.specs.Calls.{HasCause, IsQuiet, AreQuiet}
use Rattle.vault_store.specs.Earlier.{IsEarlier}

-- a file of this generation leads to this vault, with its frames
abbrev pub LeadsTo : ℕ → List ℕ → Vault → Type 0
LeadsTo generation file vault = (reading : Reading) × Holds file reading × (reading.generation ≡ generation) × (reading.vault ≡ vault)

-- the snapshot of a file of this generation is of this vault, and a byte stands behind it
pub record IsBasedOn (generation : ℕ) (file : List ℕ) (base : Vault) : Type 0 where
  pub version : FileVersion
  pub rest : List ℕ
  pub head : HasHead version generation file
  pub spelled : HasSpelling version base
  pub some : rest ≢ []
  pub bytes : file ≡ (head_of version generation ++ snapshot_bytes version base) ++ rest

-- the older file, of the generation before, leads to a vault that is no earlier state of the newer one's snapshot
pub record AreUnrelated (older newer : List ℕ) : Type 0 where
  pub generation : ℕ
  pub vault : Vault
  pub base : Vault
  pub leads : LeadsTo generation older vault
  pub based : IsBasedOn (generation + 1) newer base
  pub not_earlier : IsEarlier vault base → ⊥

-- both are open, and a generation lies between theirs
pub record AreFarApart (older newer : List ℕ) : Type 0 where
  pub lower : ℕ
  pub higher : ℕ
  pub older_head : HasRightHead lower older
  pub newer_head : HasRightHead higher newer
  pub far : lower + 1 < higher

-- The older of two open files is not of the newer one's vault. If both files of one vault are open, their generations differ by one,
-- and the older one leads to an earlier vault. A file that can't be read decides nothing.
abbrev pub IsOfAnother : List ℕ → List ℕ → Type 0
IsOfAnother older newer = AreFarApart older newer ⊎ AreUnrelated older newer

-- Two files are of two vaults, in either order.
abbrev pub AreOfTwoVaults : List ℕ → List ℕ → Type 0
AreOfTwoVaults first second = IsOfAnother first second ⊎ IsOfAnother second first

-- the generation of a file whose head is right; none for any other
abbrev pub IsGenerationOf : List ℕ → Option ℕ → Type 0
IsGenerationOf file (Some generation) = HasRightHead generation file
IsGenerationOf file None = (generation : ℕ) → HasRightHead generation file → ⊥

-- the vault that a file with a right head leads to, if it leads to one
abbrev pub IsLedTo : List ℕ → Option Vault → Type 0
IsLedTo file (Some vault) = (generation : ℕ) → HasRightHead generation file → LeadsTo generation file vault
IsLedTo file None = (generation : ℕ) (vault : Vault) → LeadsTo generation file vault → ⊥

-- the vault of its snapshot, if it has one
abbrev pub IsBaseOf : List ℕ → Option Vault → Type 0
IsBaseOf file (Some base) = (generation : ℕ) → HasRightHead generation file → IsBasedOn generation file base
IsBaseOf file None = (generation : ℕ) (base : Vault) → IsBasedOn generation file base → ⊥

-- why a file was not read: a call failed, or an allocation was refused and no call failed
abbrev pub IsUnread : Disk → Disk → BodyError → Type 0
IsUnread old new Device = HasCause old new
IsUnread old new NoMemory = IsQuiet old new

-- the same for two files
abbrev pub AreUnread : Disk → Disk → Disk → Disk → BodyError → Type 0
AreUnread first second first_new second_new Device = HasCause first first_new ⊎ HasCause second second_new
AreUnread first second first_new second_new NoMemory = AreQuiet first second first_new second_new

-- Laws: the files of one vault pass.

-- two files pass if one is closed, as a creation leaves them
abbrev pub ClosedFilesPass : Type 0
ClosedFilesPass = (first second : List ℕ) → IsClosedFile first ⊎ IsClosedFile second → AreOfTwoVaults first second → ⊥

-- what stands behind the newer file's snapshot decides nothing, so a commit changes nothing
abbrev pub FramesLeaveIt : Type 0
FramesLeaveIt = (older newer longer : List ℕ) (generation : ℕ) (base : Vault) → IsBasedOn generation newer base
    → IsBasedOn generation longer base → (IsOfAnother older newer → IsOfAnother older longer) × (IsOfAnother older longer → IsOfAnother older newer)

-- nor does the first call of a snapshot, whatever a crash leaves of it
abbrev pub TornGatesPass : Type 0
TornGatesPass = (older newer torn : List ℕ) (generation : ℕ) → HasRightHead generation older → IsTorn 0 1 older torn
    → (AreOfTwoVaults older newer → ⊥) → AreOfTwoVaults torn newer → ⊥

-- whether the bytes of a snapshot are written behind a closed gate, or that gate is opened
abbrev pub is_renewing : Phase → Bool
is_renewing (Writing left) = true
is_renewing Filled = true
is_renewing Ready = true
is_renewing SnapOpening = true
is_renewing _ = false

-- whatever a crash leaves there passes: the older file leads to an earlier state of the new snapshot's vault
abbrev pub SnapshotsPass : {D : Type 0} → (D → Disk) → Type 0
SnapshotsPass {D} disk = (store : StoreSeen D) (s : StoreState) (x y : List ℕ) → Keeps disk store s → AreHonest disk store → s.broken ≡ false
    → is_renewing s.phase ≡ true → (disk (first_of store)).IsImage x → (disk (second_of store)).IsImage y → AreOfTwoVaults x y → ⊥

-- an effect takes nothing away that an earlier vault had
abbrev pub NothingIsTakenAway : Type 0
NothingIsTakenAway = (v w : Vault) (effects : List Effect) → applied v effects ≡ Some w → IsEarlier v w
