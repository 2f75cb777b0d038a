-- Why two files are not opened, and what opening leaves of their devices. This project's own.
use Rattle.std.specs.Prelude.{◌≡◌, ◌⊎◌, ℕ, IsTrue, List}
use Rattle.vault_device.specs.Disk.{Disk, LeavesSince}
use Rattle.vault_format.specs.declared.version.FileVersion.{FileVersion}
use Rattle.vault_store.specs.declared.opening.File.TheVariants.{First, Second}
use Rattle.vault_store.specs.declared.opening.OpenError.{OpenError}
use Rattle.vault_store.specs.declared.opening.OpenError.TheVariants.{NoVault, Damaged, Device, NoMemory}
use Rattle.vault_store.specs.Calls.{IsCalled}
use Rattle.vault_format.specs.Files.{IsClosedFile, IsSpare, HasHead, HasRightHead}
use Rattle.vault_format.specs.Faults.{IsDamagedHead, IsBodyFault}
use Rattle.vault_store.specs.OnDisk.{IsSettled}

-- no fault is in the head of a file: it is closed, or right
abbrev pub HasNoHeadFault : List ℕ → Type 0
HasNoHeadFault file = IsClosedFile file ⊎ ((generation : ℕ) × HasRightHead generation file)

-- the first of two files is the active one, and the other its spare
abbrev pub IsNewer : ℕ → List ℕ → List ℕ → Type 0
IsNewer generation first second = HasRightHead generation first × IsSpare generation second

-- the first file is the active one, and its body has a fault there
pub record IsActiveFault (first second : List ℕ) (at : ℕ) : Type 0 where
  pub version : FileVersion
  pub generation : ℕ
  pub head : HasHead version generation first
  pub spare : IsSpare generation second
  pub fault : IsBodyFault version first at

-- The first fault stands in the first file: in its head or, where it is the active one, in its body.
abbrev pub IsFirstFault : List ℕ → List ℕ → ℕ → Type 0
IsFirstFault first second at = IsDamagedHead first at ⊎ IsActiveFault first second at

-- The first fault stands in the second file: in its head; or both are open and of one generation; or, where it is the active one, in
-- its body.
abbrev pub IsSecondFault : List ℕ → List ℕ → ℕ → Type 0
IsSecondFault first second at =
    (HasNoHeadFault first × IsDamagedHead second at)
    ⊎ ((generation : ℕ) × HasRightHead generation first × HasRightHead generation second × (at ≡ 12))
    ⊎ IsActiveFault second first at

-- Why two files aren't opened: neither is open, or there is a fault, the first in the order in which they are read.
abbrev pub IsNotOpened : List ℕ → List ℕ → OpenError → Type 0
IsNotOpened first second NoVault = IsClosedFile first × IsClosedFile second
IsNotOpened first second (Damaged First offset) = IsFirstFault first second offset
IsNotOpened first second (Damaged Second offset) = IsSecondFault first second offset
IsNotOpened first second Device = Unit {0}
IsNotOpened first second NoMemory = Unit {0}

-- what opening finds in the files, not what kept it from reading them
abbrev pub IsFound : OpenError → Type 0
IsFound Device = ⊥
IsFound NoMemory = ⊥
IsFound _ = Unit {0}

-- A device that opening hands on: it shows what it showed, and a crash at any moment of it leaves only what it might have left before.
pub record IsHandedOn (old new : Disk) : Type 0 where
  pub called : IsCalled old new
  pub shown : IsTrue old.honest → new.shown ≡ old.shown
  pub moments : IsTrue old.honest → LeavesSince old new old.IsImage

-- what two honest devices show is durable
abbrev pub AreSettled : Disk → Disk → Type 0
AreSettled first second = IsTrue first.honest → IsTrue second.honest → IsSettled first × IsSettled second

-- the same after a refused opening, except after a device fault
abbrev pub AreLeftSettled : Disk → Disk → OpenError → Type 0
AreLeftSettled first second Device = Unit {0}
AreLeftSettled first second _ = AreSettled first second
