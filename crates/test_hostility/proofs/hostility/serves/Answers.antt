use Rattle.libc.specs.Heap.{chunk-Keyless}
use Rattle.test_hostility.proofs.hostility.serves.Goals as goal

pub run_server_on-served-requires-clause-frees : goal.run_server_on-served-requires-clause-frees
run_server_on-served-requires-clause-frees g c κs _ = record { frees = λ r τ p. chunk-Keyless τ p }
