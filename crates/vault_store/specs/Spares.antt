-- What the disk of the spare file holds in each phase. This project's own.
use Rattle.std.specs.Prelude.{◌≡◌, ◌≢◌, ℕ, ◌-◌, ◌<◌, Bool, true, false, List, length, take, drop, slice_index}
use Rattle.vault_device.specs.Disk.{Disk, IsTorn}
use Rattle.vault_journal.specs.Gate.{IsClosed, SameBut, StaysClosed}
use Rattle.vault_store.specs.declared.phase.Phase.{Phase}
use Rattle.vault_store.specs.declared.phase.Phase.TheVariants.{Closing, Writing, Filled, Ready, SnapOpening}
use Rattle.vault_store.specs.OnDisk.{IsSettled}

-- a closed file is among those that may stand beside the active one
abbrev pub ClosedMayStand : (List ℕ → Type 0) → Type 0
ClosedMayStand MayStand = (x : List ℕ) → IsClosed 0 x → MayStand x

-- the first n of these bytes stand behind the head gate
pub record HasFirst (n : ℕ) (bytes file : List ℕ) : Type 0 where
  pub within : n < length file
  pub same : take n (drop 1 file) ≡ take n bytes

-- No snapshot is written. The head gate is known to be closed, or a torn write of it leaves what may stand there.
pub record IsAside (MayStand : List ℕ → Type 0) (disk : Disk) (shut : Bool) : Type 0 where
  pub settled : IsSettled disk
  pub stands : MayStand disk.shown
  pub closed : shut ≡ true → IsClosed 0 disk.shown
  pub torn : shut ≡ false → (y : List ℕ) → IsTorn 0 1 disk.shown y → MayStand y

-- the head gate is closed, and that isn't durable yet
pub record IsShutting (MayStand : List ℕ → Type 0) (disk : Disk) : Type 0 where
  pub images : (x : List ℕ) → disk.IsImage x → MayStand x
  pub shut : IsClosed 0 disk.shown

-- behind the closed head gate n bytes are written
pub record IsFilling (disk : Disk) (n : ℕ) (bytes : List ℕ) : Type 0 where
  pub closed : StaysClosed 0 disk
  pub written : HasFirst n bytes disk.shown

-- all bytes are written and durable, behind the closed head gate
pub record IsReady (disk : Disk) (bytes : List ℕ) : Type 0 where
  pub settled : IsSettled disk
  pub closed : IsClosed 0 disk.shown
  pub written : HasFirst (length bytes) bytes disk.shown

-- only the head gate isn't durable yet: a read gives 1 there, and the durable byte isn't 1
pub record IsRenewing (disk : Disk) (bytes : List ℕ) : Type 0 where
  pub images : (x : List ℕ) → disk.IsImage x → HasFirst (length bytes) bytes x
  pub same : (x : List ℕ) → disk.IsImage x → SameBut 0 disk.shown x
  pub opened : slice_index disk.shown 0 ≡ 1
  pub was_shut : slice_index disk.settled 0 ≢ 1

-- What the disk holds in each phase, while no device call failed.
abbrev pub IsSpareIn : (List ℕ → Type 0) → Disk → Phase → Bool → List ℕ → Type 0
IsSpareIn MayStand disk Closing shut bytes = IsShutting MayStand disk
IsSpareIn MayStand disk (Writing left) shut bytes = IsFilling disk (length bytes - left) bytes
IsSpareIn MayStand disk Filled shut bytes = IsFilling disk (length bytes) bytes
IsSpareIn MayStand disk Ready shut bytes = IsReady disk bytes
IsSpareIn MayStand disk SnapOpening shut bytes = IsRenewing disk bytes
IsSpareIn MayStand disk _ shut bytes = IsAside MayStand disk shut

-- what a crash leaves in each phase
abbrev pub LeavesSpareIn : (List ℕ → Type 0) → Disk → Phase → List ℕ → Type 0
LeavesSpareIn MayStand disk SnapOpening bytes = (x : List ℕ) → disk.IsImage x → HasFirst (length bytes) bytes x
LeavesSpareIn MayStand disk _ bytes = (x : List ℕ) → disk.IsImage x → MayStand x

-- what the disk holds or, once a device call failed, what a crash leaves
abbrev pub IsSpareOn : (List ℕ → Type 0) → Disk → Phase → Bool → Bool → List ℕ → Type 0
IsSpareOn MayStand disk phase false shut bytes = IsSpareIn MayStand disk phase shut bytes
IsSpareOn MayStand disk phase true shut bytes = LeavesSpareIn MayStand disk phase bytes
