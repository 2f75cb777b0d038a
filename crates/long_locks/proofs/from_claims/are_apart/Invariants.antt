use Rattle.std.specs.Prelude.{take}
use Rattle.std.specs.List.{IsDistinct}
use Rattle.vault_state.specs.Claims.{same_id}
use Rattle.vault_state.proofs.Stays.{ids}
use Rattle.long_locks.proofs.from_claims.are_apart.Given as goal

abbrev pub invariant-loop-index : goal.invariant-loop-index
invariant-loop-index l = IsDistinct same_id (ids (take l.index l.claims))
