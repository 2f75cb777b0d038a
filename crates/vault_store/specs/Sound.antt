-- What every store keeps, of its numbers and of the bytes of its files. This project's own.
use Rattle.std.specs.Prelude.{◌≡◌, ℕ, ◌+◌, ◌<◌, ◌≤◌, ◌^◌, IsTrue, Bool, List, [], ◌∷◌, ◌++◌, length}
use Rattle.vault_device.specs.Disk.{Disk}
use Rattle.vault_journal.specs.Gate.{frame_room}
use Rattle.vault_store.specs.declared.phase.Phase.{Phase}
use Rattle.vault_store.specs.declared.phase.Phase.TheVariants.{Idle, Written, Bodied, Opening, Start, Closing, Writing, Filled, Ready, SnapOpening}
use Rattle.vault_format.specs.Files.{frame_extra}
use Rattle.vault_store.specs.OnDisk.{IsOnDisk}
use Rattle.vault_store.specs.Spares.{IsSpareOn}
use Rattle.vault_store.specs.Seen.{StoreSeen, last_tail}

-- what a snapshot writes ends with a closed tail gate, and there is a next generation
pub record IsRest (generation : ℕ) (rest : List ℕ) : Type 0 where
  pub front : List ℕ
  pub ends : rest ≡ front ++ 0 ∷ []
  pub fits : generation + 1 < 2 ^ 64

-- what holds of the bytes of a snapshot under way; no more than these are left to write
abbrev pub IsReached : Phase → ℕ → List ℕ → Type 0
IsReached Start generation rest = IsRest generation rest
IsReached Closing generation rest = IsRest generation rest
IsReached (Writing left) generation rest = IsRest generation rest × (left ≤ length rest)
IsReached Filled generation rest = IsRest generation rest
IsReached Ready generation rest = IsRest generation rest
IsReached SnapOpening generation rest = IsRest generation rest
IsReached _ generation rest = Unit {0}

-- the bounds of a frame under way
abbrev pub IsBusy : ℕ → ℕ → Type 0
IsBusy waiting tail = (tail < last_tail + frame_room) × (0 < waiting → tail < last_tail)

-- If records wait or a frame is under way, the tail gate stands at most one frame behind the last offset where frames may
-- begin. While a frame is under way, records are noted only if its gate stands where frames may begin. A snapshot moves the
-- gate to the front.
abbrev pub IsBounded : Phase → ℕ → ℕ → Type 0
IsBounded Idle waiting tail = 0 < waiting → tail < last_tail + frame_room
IsBounded Written waiting tail = IsBusy waiting tail
IsBounded Bodied waiting tail = IsBusy waiting tail
IsBounded Opening waiting tail = IsBusy waiting tail
IsBounded _ waiting tail = Unit {0}

-- the active file is some front up to the tail gate, and the frame under way some records
pub record IsActive (disk : Disk) (tail sealed : ℕ) (phase : Phase) (broken : Bool) : Type 0 where
  pub front : List ℕ
  pub records : List ℕ
  pub stands : length front ≡ tail
  pub size : length records ≡ sealed
  pub on_disk : IsOnDisk disk phase broken front records

-- what every store keeps
pub record IsSoundStore {D : Type 0} (disk : D → Disk) (store : StoreSeen D) : Type 0 where
  -- invariants 1 to 7 of src/lib.rt, in this order
  pub reached : IsReached store.phase store.generation store.rest
  pub sealed_fits : store.sealed + frame_extra ≤ frame_room
  pub bounded : IsBounded store.phase (length store.buffer) store.tail
  pub inside : store.journal_length ≤ store.tail
  pub short : length store.rest < 2 ^ 33
  pub active : IsTrue (disk store.active).honest → IsActive (disk store.active) store.tail store.sealed store.phase store.broken
  pub spare : IsTrue (disk store.spare).honest → IsSpareOn (λ x. Unit {0}) (disk store.spare) store.phase store.broken store.shut store.rest
