use Rattle.std.proofs.Common.{◌∙◌, [], arith, sym}
use Rattle.vault_lines.proofs.Arguments.{passed_on, extended, then_none, then_some}
use Rattle.vault_lines.proofs.reading.extend.Goals as goal

pub returns-in_err-claim : goal.returns-in_err-claim
returns-in_err-claim g c =
    passed_on c.from_residual.result c.in_err-claim.field-0.0 _ c.from_residual.ensures
    (λ bad. then_none _ _ _ (extended (λ word. word.now) c.args.arguments.now (record { ref_ptr = (0, 0); now = [] }) (omega arith))
    (sym c.read_claim.ensures ∙ c.in_err-claim.ensures.ok_part))

pub returns : goal.returns
returns g c =
    then_some _ _ _ c.in_ok-read_items.field-0
    (then_some _ _ _ c.in_ok-claim.claim (extended (λ word. word.now) c.args.arguments.now (record { ref_ptr = (0, 0); now = [] }) (omega arith))
    (sym c.read_claim.ensures ∙ c.in_ok-claim.ensures.ok_part)) c.in_ok-read_items.ensures
