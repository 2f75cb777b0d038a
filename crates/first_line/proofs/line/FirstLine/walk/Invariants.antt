use Rattle.first_line.proofs.Own.{IsHeard, IsOwn}
use Rattle.first_line.proofs.line.FirstLine.walk.Given as goal

-- the bytes so far were heard, and are the connection's own
abbrev pub invariant-loop-count : goal.invariant-loop-count
invariant-loop-count l = record {
  heard : IsHeard l.fn.self l.bytes l.count l.line;
  own : IsOwn l.fn.self l.bytes l.count l.line;
}
