use Rattle.std.specs.Prelude.{not}
use Rattle.std.proofs.Common.{ap, ◌∙◌, rules}
use Rattle.std.specs.Map.{values_of}
use Rattle.indexmap.proofs.CallerLemmas.{filter-RetainsPairs}
use Rattle.vault_state.specs.declared.claims.Claim.{Claim}
use Rattle.long_locks.specs.Lines.{ends}
use Rattle.long_locks.proofs.Keyed.{keyed_kept, values_kept}
use Rattle.long_locks.proofs.claims.Claims.remove_ending.Goals as goal

pub invariant_of-self : goal.invariant_of-self
invariant_of-self g c =
    let kept = filter-RetainsPairs _ _ _ (λ k v b w f call. search rules) _ _ c.retain.ensures.filtered in
    rw kept (keyed_kept (λ (x : Claim). not (ends c.args.ending x)) c.self.inside.by_id.entries c.self.invariant)

pub returns : goal.returns
returns g c =
    let kept = filter-RetainsPairs _ _ _ (λ k v b w f call. search rules) _ _ c.retain.ensures.filtered in
    rw (← c.self.view_is) (ap values_of kept ∙ values_kept (λ (x : Claim). not (ends c.args.ending x)) c.self.inside.by_id.entries)
