-- What a frame's buffer holds.
use Rattle.std.specs.Prelude.{◌≡◌, ℕ, ◌+◌, ◌≤◌, List, length, take, drop}
use Rattle.vault_journal.specs.Gate.{body_of, frame_room}
use Rattle.vault_journal.specs.declared.frame.Frame.TheInside.{Inside}

-- the records that were pushed
abbrev pub records_in : {A : Type 0} → Inside A → List ℕ
records_in frame = take frame.used (drop 4 frame.buffer.items)

-- the buffer is whole, and begins with what a commit writes
pub record IsFrame {A : Type 0} (frame : Inside A) : Type 0 where
  -- invariants 1 to 3 of src/lib.rt, in this order
  pub whole : length frame.buffer.items ≡ frame_room
  pub room : frame.used + 5 ≤ frame_room
  pub sealed : take (frame.used + 5) frame.buffer.items ≡ body_of (records_in frame)
