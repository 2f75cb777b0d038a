use Rattle.std.proofs.Common.{◌∙◌, [], sym}
use Rattle.vault_lines.proofs.Arguments.{passed_on, awaited, then_none, then_some}
use Rattle.vault_lines.proofs.reading.wait.Goals as goal

pub returns-in_err-claim : goal.returns-in_err-claim
returns-in_err-claim g c =
    passed_on c.from_residual.result c.in_err-claim.field-0.0 _ c.from_residual.ensures
    (λ bad. then_none _ _ _ (awaited (λ word. word.now) c.args.arguments.now (record { ref_ptr = (0, 0); now = [] })
    c.in-len1.len_at_least c.in-len1.len_below)
    (sym c.read_claim.ensures ∙ c.in_err-claim.ensures.ok_part))

pub returns : goal.returns
returns g c =
    then_some _ _ _ c.in_ok-claim.claim (awaited (λ word. word.now) c.args.arguments.now (record { ref_ptr = (0, 0); now = [] })
    c.in-len1.len_at_least c.in-len1.len_below)
    (sym c.read_claim.ensures ∙ c.in_ok-claim.ensures.ok_part)
