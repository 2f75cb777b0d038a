use Rattle.std.proofs.Common.{◌∙◌, [], sym}
use Rattle.vault_lines.proofs.Arguments.{passed_on, claims_asked, then_none, then_some}
use Rattle.vault_lines.proofs.reading.claims.Goals as goal

pub returns-in_err-path : goal.returns-in_err-path
returns-in_err-path g c =
    passed_on c.from_residual.result c.in_err-path.field-0.0 _ c.from_residual.ensures
    (λ bad. then_none _ _ _ (claims_asked (λ word. word.now) c.args.arguments.now (record { ref_ptr = (0, 0); now = [] })
    c.in-len1.len_at_least c.in-len1.len_below)
    (sym c.read.ensures ∙ c.in_err-path.ensures.ok_part))

pub returns : goal.returns
returns g c =
    then_some _ _ _ c.in_ok-path.path (claims_asked (λ word. word.now) c.args.arguments.now (record { ref_ptr = (0, 0); now = [] })
    c.in-len1.len_at_least c.in-len1.len_below)
    (sym c.read.ensures ∙ c.in_ok-path.ensures.ok_part)
