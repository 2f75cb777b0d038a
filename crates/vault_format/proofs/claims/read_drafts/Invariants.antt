use Rattle.vault_format.proofs.DraftsRead.{AreDraftsSoFar}
use Rattle.vault_format.proofs.claims.read_drafts.Given as goal

abbrev pub invariant-loop : goal.invariant-loop
invariant-loop g l = AreDraftsSoFar l.counter l.drafts.items l.initial.rest l.rest
