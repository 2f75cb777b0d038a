use Rattle.vault_format.proofs.ClaimsRead.{AreClaimsSoFar}
use Rattle.vault_format.proofs.claims.read_claims.Given as goal

abbrev pub invariant-loop : goal.invariant-loop
invariant-loop g l = AreClaimsSoFar l.version l.counter l.claims.items l.drafts.items l.initial.rest l.rest
