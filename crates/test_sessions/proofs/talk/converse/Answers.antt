use Rattle.libc.specs.Heap.{chunk-Keyless}
use Rattle.test_sessions.proofs.talk.converse.Goals as goal

pub converse_over-requires-clause-frees : goal.converse_over-requires-clause-frees
converse_over-requires-clause-frees g c κs _ = record { frees = λ r τ p. chunk-Keyless τ p }
