use Rattle.libc.specs.Heap.{chunk-Keyless}
use Rattle.test_sessions.proofs.pair.come_to_that.Goals as goal

pub over-are_ended-requires-clause-frees : goal.over-are_ended-requires-clause-frees
over-are_ended-requires-clause-frees g c κs _ = record { frees = λ r τ p. chunk-Keyless τ p }
