-- What the disk of the active file holds in each phase. This project's own.
use Rattle.std.specs.Prelude.{◌≡◌, ◌≢◌, ℕ, ◌+◌, Bool, true, false, List, ◌++◌, length, take, drop, slice_index}
use Rattle.vault_device.specs.Disk.{Disk, LeavesOnly}
use Rattle.vault_journal.specs.Gate.{body_of, SameBut}
use Rattle.vault_store.specs.declared.phase.Phase.{Phase}
use Rattle.vault_store.specs.declared.phase.Phase.TheVariants.{Written, Bodied, Opening}
use Rattle.vault_format.specs.Files.{frame_bytes, EndsBehind}

-- what a read gives is durable
pub record IsSettled (disk : Disk) : Type 0 where
  pub only : LeavesOnly disk disk.shown
  pub bytes : disk.settled ≡ disk.shown

-- the body of a frame stands behind the gate
abbrev pub HasBody : ℕ → List ℕ → List ℕ → Type 0
HasBody gate records file = take (length (body_of records)) (drop (gate + 1) file) ≡ body_of records

-- the front is durable, and its tail gate closed
pub record IsIdle (disk : Disk) (front : List ℕ) : Type 0 where
  pub settled : IsSettled disk
  pub ends : EndsBehind front disk.shown

-- the frame's body may be torn, behind the closed gate
pub record IsWritten (disk : Disk) (front records : List ℕ) : Type 0 where
  pub images : (x : List ℕ) → disk.IsImage x → EndsBehind front x
  pub body : HasBody (length front) records disk.shown

-- the body is durable, too
pub record IsBodied (disk : Disk) (front records : List ℕ) : Type 0 where
  pub settled : IsSettled disk
  pub ends : EndsBehind front disk.shown
  pub body : HasBody (length front) records disk.shown

-- with the gate open the frame counts, with any other byte there it doesn't
pub record IsEither (front records file : List ℕ) : Type 0 where
  pub opened : slice_index file (length front) ≡ 1 → EndsBehind (front ++ frame_bytes records) file
  pub shut : slice_index file (length front) ≢ 1 → EndsBehind front file

-- only the gate isn't durable yet: a read gives 1 there, and the durable byte isn't 1
pub record IsGated (disk : Disk) (front records : List ℕ) : Type 0 where
  pub images : (x : List ℕ) → disk.IsImage x → IsEither front records x
  pub same : (x : List ℕ) → disk.IsImage x → SameBut (length front) disk.shown x
  pub opened : slice_index disk.shown (length front) ≡ 1
  pub was_shut : slice_index disk.settled (length front) ≢ 1

-- What the disk holds in each phase, while no device call failed. A snapshot leaves it as it is.
abbrev pub IsInPhase : Disk → Phase → List ℕ → List ℕ → Type 0
IsInPhase disk Written front records = IsWritten disk front records
IsInPhase disk Bodied front records = IsBodied disk front records
IsInPhase disk Opening front records = IsGated disk front records
IsInPhase disk _ front records = IsIdle disk front

-- what a crash leaves in each phase
abbrev pub LeavesInPhase : Disk → Phase → List ℕ → List ℕ → Type 0
LeavesInPhase disk Opening front records = (x : List ℕ) → disk.IsImage x → IsEither front records x
LeavesInPhase disk _ front records = (x : List ℕ) → disk.IsImage x → EndsBehind front x

-- what the disk holds or, once a device call failed, what a crash leaves
abbrev pub IsOnDisk : Disk → Phase → Bool → List ℕ → List ℕ → Type 0
IsOnDisk disk phase false front records = IsInPhase disk phase front records
IsOnDisk disk phase true front records = LeavesInPhase disk phase front records
