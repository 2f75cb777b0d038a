use Rattle.std.proofs.Common.{◌≡◌, ℕ, ◌+◌, ◌-◌, length, take, drop}
use Rattle.std.specs.Io.KnownBytes.{Appends}
use Rattle.vault_desk.proofs.turn.tell.Given as goal

-- this many bytes more of the text were written
abbrev pub invariant-loop-telling : goal.invariant-loop-telling
invariant-loop-telling g l =
    (count : ℕ) × (l.telling.text.items ≡ l.initial.telling.text.items) × (l.telling.is_left ≡ l.initial.telling.is_left)
    × (l.telling.written ≡ l.initial.telling.written + count)
    × (g.C.Connection.reading l.connection ≡ g.C.Connection.reading l.initial.connection)
    × (g.C.Connection.names l.connection ≡ g.C.Connection.names l.initial.connection)
    × Appends (g.C.Connection.contents l.initial.connection) (g.C.Connection.contents l.connection) (take count (drop l.initial.telling.written l.initial.telling.text.items))

abbrev pub decreases-loop-telling : goal.decreases-loop-telling
decreases-loop-telling g l = length l.telling.text.items - l.telling.written
