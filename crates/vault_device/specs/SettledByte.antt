-- A byte that says whether the bytes behind it count, for a test of the disk model.
use Rattle.std.specs.Prelude.{◌≡◌, ◌≢◌, ◌⊎◌, ◌==◌, ◌+◌, ℕ, List, [], ◌++◌, length, take, drop, slice_index, if◌then◌else◌}
use Rattle.vault_device.specs.Disk.{Disk, LeavesOnly}

-- what a file stands for: what is before the byte, and what is behind it where the byte is 1
abbrev pub stands_for : ℕ → List ℕ → List ℕ
stands_for gate file = take gate file ++ (if slice_index file gate == 1 then drop (gate + 1) file else [])

-- the byte is the last, is not 1, and all is durable
pub record IsShut (gate : ℕ) (disk : Disk) : Type 0 where
  pub last : length disk.shown ≡ gate + 1
  pub shut : slice_index disk.shown gate ≢ 1
  pub settled : LeavesOnly disk disk.shown

-- a file stands for what the old one does, or for that and these bytes
abbrev pub IsOldOrNew : ℕ → List ℕ → List ℕ → List ℕ → Type 0
IsOldOrNew gate old bytes file = (stands_for gate file ≡ stands_for gate old) ⊎ (stands_for gate file ≡ stands_for gate old ++ bytes)
