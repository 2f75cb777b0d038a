use Rattle.std.proofs.Common.{◌≡◌, ◌≤◌, ◌-◌, List, ℕ, vec_capacity}
use Rattle.line_inlet.specs.Reading.{Gave}
use Rattle.line_inlet.specs.Incoming.{most_bytes, KeepsLine}
use Rattle.line_inlet.proofs.Bytes.{IsSoFar}
use Rattle.line_inlet.proofs.inlet.Inlet.next_line.Given as goal

-- a piece of the line came, whatever part of it was kept before
abbrev pub invariant-loop-is_longer : goal.invariant-loop-is_longer
invariant-loop-is_longer g l =
    (vec_capacity l.initial.line ≤ vec_capacity l.line)
    × ((part : List ℕ) → KeepsLine part l.initial.line.items l.initial.is_long
    → (given : List ℕ) × (piece : List ℕ)
    × Gave (g.C.Connection.reading l.initial.connection) (g.C.Connection.reading l.connection) given
    × IsSoFar l.initial.self given part piece l.line.items l.is_long l.self)
    × (g.C.Connection.contents l.connection ≡ g.C.Connection.contents l.initial.connection)
    × (g.C.Connection.names l.connection ≡ g.C.Connection.names l.initial.connection)

abbrev pub decreases-loop-is_longer : goal.decreases-loop-is_longer
decreases-loop-is_longer g l = most_bytes - l.self.taken
