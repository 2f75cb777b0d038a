-- What the parts of an inspection answer. This project's own.
use Rattle.std.specs.Prelude.{◌≡◌, ℕ, ◌==◌, ◌<◌, ◌≤◌, length, nat_lt, if◌then◌else◌, List, Option, None, Some}
use Rattle.vault_state.specs.Vault.{Vault}
use Rattle.vault_store.specs.declared.front.Head.{Head}
use Rattle.vault_store.specs.declared.front.Head.TheVariants as heads
use Rattle.vault_store.specs.declared.body.BodyError.{BodyError}
use Rattle.vault_store.specs.declared.body.BodyError.TheVariants as body_errors
use Rattle.vault_format.specs.Faults.{IsBodyFault, snapshot_length}
use Rattle.vault_format.specs.Files.{header}
use Rattle.vault_store.specs.Parts.{IsWhole}
use Rattle.vault_inspector.specs.declared.report.FileState.{FileState}
use Rattle.vault_inspector.specs.declared.report.FileState.TheVariants.{Closed, Open, Older, Damaged}
use Rattle.vault_inspector.specs.declared.inspecting.Right.{Right}
use Rattle.vault_inspector.specs.declared.inspecting.Active.{Active}
use Rattle.vault_inspector.specs.declared.inspecting.Active.TheVariants.{Neither, First, Second}
use Rattle.vault_inspector.specs.declared.inspecting.InspectError.{InspectError}
use Rattle.vault_inspector.specs.declared.inspecting.InspectError.TheVariants as errors

-- why a body was not read, as an inspection reports it
abbrev pub told : BodyError → InspectError
told body_errors.Device = errors.Device
told body_errors.NoMemory = errors.NoMemory

-- what a head says, where it is right
abbrev pub right_in : Head → Option Right
right_in heads.Closed = None
right_in (heads.Open version generation) = Some (record { version = version; generation = generation })
right_in (heads.Damaged offset) = None

-- the file of the greater generation, and the first where both are equal
abbrev pub active_among : Option Right → Option Right → Active
active_among None None = Neither
active_among None (Some other) = Second other
active_among (Some own) None = First own
active_among (Some own) (Some other) = if nat_lt own.generation other.generation then Second other else First own

-- the state of a file by its head alone, where the head isn't right
abbrev pub head_state : Head → FileState
head_state heads.Closed = Closed
head_state (heads.Open version generation) = Closed
head_state (heads.Damaged offset) = Damaged offset

-- the state of a file by its head, where the other file is the active one and has this generation
abbrev pub beside : Head → ℕ → FileState
beside heads.Closed active = Closed
beside (heads.Open version generation) active = if generation == active then Damaged 12 else Older generation
beside (heads.Damaged offset) active = Damaged offset

-- the vault of the active file, or none where the other file is damaged
abbrev pub found : Option Vault → FileState → Option Vault
found vault Closed = vault
found vault (Open generation frames tail version) = vault
found vault (Older generation) = vault
found vault (Damaged offset) = None

-- what is read of an active file, whose head says this: it is whole and has a vault, or it has a fault and no vault
abbrev pub IsActiveRead : Right → List ℕ → FileState → Option Vault → Type 0
IsActiveRead right file (Open generation frames tail version) (Some vault) =
    (version ≡ right.version) × (generation ≡ right.generation) × IsWhole right.version right.generation file vault frames tail
IsActiveRead right file (Damaged offset) None = IsBodyFault right.version file offset
IsActiveRead right file _ _ = ⊥

-- how many bytes a file's snapshot has, by its header; or None, where the file has no whole header
abbrev pub IsSnapshotLength : List ℕ → Option ℕ → Type 0
IsSnapshotLength file None = length file < header
IsSnapshotLength file (Some n) = (header ≤ length file) × (n ≡ snapshot_length file)
