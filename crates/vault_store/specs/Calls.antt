-- What any number of device calls leave of a disk's counts. This project's own.
use Rattle.std.specs.Prelude.{◌≡◌, ◌⊎◌, ◌<◌, ◌≤◌, Result, IsErr, OnOk}
use Rattle.vault_device.specs.Disk.{Disk, last_count}

-- a fault was counted, or the count is full
abbrev pub HasCause : Disk → Disk → Type 0
HasCause old new = (old.faults < new.faults) ⊎ (new.faults ≡ last_count)

-- the disk is as honest as it was, and has no fewer faults
pub record IsCalled (old new : Disk) : Type 0 where
  pub same_honesty : new.honest ≡ old.honest
  pub no_fewer_faults : old.faults ≤ new.faults

-- no fault was counted
pub record IsQuiet (old new : Disk) : Type 0 where
  pub same_faults : new.faults ≡ old.faults

-- no fault was counted for either of two devices
abbrev pub AreQuiet : Disk → Disk → Disk → Disk → Type 0
AreQuiet first second first_new second_new = IsQuiet first first_new × IsQuiet second second_new

-- calls that fail only if a fault was counted or the count is full, and count one only if they fail
pub record AreCalls {A E : Type 0} (old new : Disk) (result : Result A E) : Type 0 where
  pub called : IsCalled old new
  pub cause : IsErr result → HasCause old new
  pub quiet : OnOk result (IsQuiet old new)
