use Rattle.std.proofs.Common.{◌≡◌}
use Rattle.tcp_door.proofs.stream.throw_away.Given as goal

abbrev pub invariant-loop : goal.invariant-loop
invariant-loop g l = g.S.Stream.contents l.stream ≡ g.S.Stream.contents l.initial.stream
