-- A new vault, and why none was made. This project's own.
use Rattle.std.specs.Prelude.{◌≡◌, ◌≢◌, ◌⊎◌, ℕ, IsTrue, List, [], ◌∷◌, ◌++◌}
use Rattle.vault_state.specs.Vault.{new_vault}
use Rattle.vault_device.specs.Disk.{Disk, LeavesOnly}
use Rattle.vault_store.specs.declared.creation.CreateError.{CreateError}
use Rattle.vault_store.specs.declared.creation.CreateError.TheVariants.{Exists, Device, NoMemory}
use Rattle.vault_format.specs.Snapshot.{current_version}
use Rattle.vault_format.specs.Files.{snapshot_bytes, current_head, IsClosedFile, StandFor}
use Rattle.vault_store.specs.Calls.{HasCause}
use Rattle.vault_store.specs.OnDisk.{IsSettled}
use Rattle.vault_store.specs.Opening.{AreSettled}
use Rattle.vault_store.specs.Step.{MayBeLeft}
use Rattle.vault_store.specs.TwoVaults.{AreOfTwoVaults}

-- the bytes of a new vault's file up to its tail gate
abbrev pub new_front : List ℕ
new_front = current_head 1 ++ snapshot_bytes current_version new_vault

-- the same with the closed tail gate: the whole file
abbrev pub new_file : List ℕ
new_file = new_front ++ 0 ∷ []

-- a read gives what it gave before
abbrev pub ShowTheSame : Disk → Disk → Disk → Disk → Type 0
ShowTheSame first second first_new second_new = (first_new.shown ≡ first.shown) × (second_new.shown ≡ second.shown)

-- Why no vault was made: a file isn't empty; a call failed; or an allocation was refused. The first and the last leave the files as
-- they were.
abbrev pub IsNotMade : Disk → Disk → Disk → Disk → CreateError → Type 0
IsNotMade first second first_new second_new Exists =
    IsTrue first.honest → IsTrue second.honest → ((first.shown ≢ []) ⊎ (second.shown ≢ [])) × ShowTheSame first second first_new second_new
IsNotMade first second first_new second_new Device = HasCause first first_new ⊎ HasCause second second_new
IsNotMade first second first_new second_new NoMemory =
    IsTrue first.honest → IsTrue second.honest → (first.shown ≡ []) × (second.shown ≡ []) × ShowTheSame first second first_new second_new

-- if no vault was made, what two devices show is durable, except after a device fault
abbrev pub AreSettledUnmade : Disk → Disk → CreateError → Type 0
AreSettledUnmade first second Device = Unit {0}
AreSettledUnmade first second _ = AreSettled first second

-- a file that was empty has these bytes now, and they are durable
pub record IsFilled (old new : Disk) (bytes : List ℕ) : Type 0 where
  pub was_empty : old.shown ≡ []
  pub shown : new.shown ≡ bytes
  pub settled : IsSettled new

-- a file that is closed, or a new vault's
abbrev pub IsClosedOrNew : List ℕ → Type 0
IsClosedOrNew file = IsClosedFile file ⊎ (file ≡ new_file)

-- What a crash at any moment of a creation leaves of two honest devices that were empty and durably so: no file is open, or they stand
-- for the new vault.
abbrev pub StopsInCreation : Disk → Disk → Disk → Disk → Type 0
StopsInCreation first second first_new second_new =
    IsTrue first.honest → IsTrue second.honest → LeavesOnly first [] → LeavesOnly second [] → (x y : List ℕ)
    → MayBeLeft first second first_new second_new x y
    → (IsClosedFile x × IsClosedFile y) ⊎ StandFor x y new_vault

-- and it isn't reported as the files of two vaults
abbrev pub PassesInCreation : Disk → Disk → Disk → Disk → Type 0
PassesInCreation first second first_new second_new =
    IsTrue first.honest → IsTrue second.honest → LeavesOnly first [] → LeavesOnly second [] → (x y : List ℕ)
    → MayBeLeft first second first_new second_new x y → AreOfTwoVaults x y → ⊥
