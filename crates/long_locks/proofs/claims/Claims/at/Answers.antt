use Rattle.std.proofs.Common.{◌∙◌, sym, ap}
use Rattle.std.specs.Option.{option_map}
use Rattle.vault_state.specs.declared.claims.Claim.{Claim}
use Rattle.vault_state.specs.declared.ids.ClaimId.{ClaimId}
use Rattle.long_locks.proofs.Keyed.{value_at}
use Rattle.long_locks.proofs.claims.Claims.at.Goals as goal

pub returns : goal.returns
returns g c =
    rw (← c.self.view_is, c.claim.ensures)
    (sym (value_at c.self.inside.by_id.entries c.args.position ∙ ap (option_map (λ (e : ClaimId × Claim). e.1)) (sym c.in_ok-kept.ensures.entry)))

pub returns-in_err-kept : goal.returns-in_err-kept
returns-in_err-kept g c =
    rw (← c.self.view_is, c.from_residual.ensures)
    (sym (value_at c.self.inside.by_id.entries c.args.position ∙ ap (option_map (λ (e : ClaimId × Claim). e.1)) (sym c.in_err-kept.ensures.entry)))
