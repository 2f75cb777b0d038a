use Rattle.std.proofs.Common.{◌∙◌, ap, sym}
use Rattle.std.specs.Option.{option_copied}
use Rattle.std.specs.Prelude.{slice_get}
use Rattle.vault_inspector.proofs.claims.claim_at.Goals as goal

pub returns : goal.returns
returns g c =
    sym (ap (λ claims. slice_get claims c.args.position) c.line.ensures.claims) ∙ sym c.at.ensures ∙ ap (λ r. option_copied {T = _} r) c.unwrap.ensures
