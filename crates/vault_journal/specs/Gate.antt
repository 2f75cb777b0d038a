-- Frames, commit marks (gates), and what a crash leaves of them. This project's own.
use Rattle.std.specs.Prelude.{◌≡◌, ◌≢◌, ◌⊎◌, ℕ, ◌+◌, ◌<◌, List, [], ◌∷◌, ◌++◌, length, take, slice_index, slice_set}
use Rattle.vault_device.specs.Disk.{Disk, overwritten}
use Rattle.vault_journal.specs.Spelling.{in_four}
use Rattle.vault_journal.specs.declared.frame.TheConstants.{FRAME_ROOM}

-- the most bytes of a frame's records, their length and the commit mark behind them
abbrev pub frame_room : ℕ
frame_room = FRAME_ROOM

-- what a commit writes behind the commit mark: the records' length, the records and a closed mark
abbrev pub body_of : List ℕ → List ℕ
body_of records = in_four (length records) ++ records ++ 0 ∷ []

-- there is a byte at the offset, and it isn't 1
pub record IsClosed (gate : ℕ) (bytes : List ℕ) : Type 0 where
  pub stands : gate < length bytes
  pub shut : slice_index bytes gate ≢ 1

-- each crash leaves the commit mark closed
abbrev pub StaysClosed : ℕ → Disk → Type 0
StaysClosed gate disk = (x : List ℕ) → disk.IsImage x → IsClosed gate x

-- the commit mark is closed, and the bytes up to it, with it, are those that a crash of the old disk could leave
pub record IsBehind (gate : ℕ) (old : Disk) (x : List ℕ) : Type 0 where
  pub closed : IsClosed gate x
  pub front : (y : List ℕ) × old.IsImage y × (take (gate + 1) x ≡ take (gate + 1) y)

-- the same bytes, but for the one at the offset
abbrev pub SameBut : ℕ → List ℕ → List ℕ → Type 0
SameBut at bytes x = x ≡ slice_set bytes at (slice_index x at)

-- the old bytes but for the commit mark, which is open or closed
pub record IsOpening (gate : ℕ) (old x : List ℕ) : Type 0 where
  pub same : SameBut gate old x
  pub gate_is : (x ≡ slice_set old gate 1) ⊎ IsClosed gate x

-- the bytes after a crash during a commit: the commit mark is closed, or the whole body stands behind a mark that is open or closed
abbrev pub IsCommitting : ℕ → List ℕ → Disk → List ℕ → Type 0
IsCommitting gate body old x = IsBehind gate old x ⊎ IsOpening gate (overwritten old.shown (gate + 1) body) x
