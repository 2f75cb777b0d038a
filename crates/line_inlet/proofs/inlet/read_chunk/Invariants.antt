use Rattle.std.proofs.Common.{◌≡◌, ◌≤◌}
use Rattle.line_inlet.specs.Reading.{GaveNone}
use Rattle.line_inlet.proofs.inlet.read_chunk.Given as goal
use Rattle.line_inlet.specs.Incoming.{most_reads}

-- an interrupted read takes nothing
abbrev pub invariant-loop : goal.invariant-loop
invariant-loop g l = record {
  counted : l.reads ≤ most_reads;
  taken : GaveNone (g.C.Connection.reading l.initial.connection) (g.C.Connection.reading l.connection);
  same : (g.C.Connection.contents l.connection ≡ g.C.Connection.contents l.initial.connection) × (g.C.Connection.names l.connection ≡ g.C.Connection.names l.initial.connection);
}
