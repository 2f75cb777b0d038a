use Rattle.std.specs.Prelude.{◌≡◌, drop}
use Rattle.vault_state.specs.Claims.{blocker}
use Rattle.vault_checkout.proofs.parts.is_apart.Given as goal

-- what is left decides
abbrev pub invariant-loop-claim : goal.invariant-loop-claim
invariant-loop-claim g l = blocker l.tree (drop l.claim-index l.claims) l.items ≡ blocker l.tree l.claims l.items
