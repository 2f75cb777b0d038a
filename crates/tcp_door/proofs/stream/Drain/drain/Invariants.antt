use Rattle.std.proofs.Common.{◌≡◌}
use Rattle.tcp_door.proofs.stream.Drain.drain.Given as goal

abbrev pub invariant-loop : goal.invariant-loop
invariant-loop g l = (l.self.number ≡ l.fn.self.number) × (g.S.Stream.contents l.self.stream ≡ g.S.Stream.contents l.fn.self.stream)
