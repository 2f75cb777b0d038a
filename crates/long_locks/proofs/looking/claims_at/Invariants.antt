use Rattle.std.proofs.Common.{◌≡◌, take}
use Rattle.vault_state.specs.Claims.{claims_at}
use Rattle.long_locks.proofs.looking.claims_at.Given as goal

-- the ids so far are those of the first claims
abbrev pub invariant-loop-position : goal.invariant-loop-position
invariant-loop-position g l = l.ids.items ≡ claims_at l.tree (take l.position l.claims.claims) l.place
