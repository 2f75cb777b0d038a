use Rattle.std.proofs.Common.{◌∙◌, sym}
use Rattle.vault_lines.proofs.Arguments.{passed_on, no_claim_given, no_designer, all_given}
use Rattle.vault_lines.proofs.reading.give.Goals as goal

pub returns-in_err-claim : goal.returns-in_err-claim
returns-in_err-claim g c =
    passed_on c.from_residual.result c.in_err-claim.field-0.0 _ c.from_residual.ensures
    (λ bad. no_claim_given (λ word. word.now) c.args.arguments.now _ c.in-len2.len_at_least c.in-len2.len_below
    (sym c.read_long.ensures ∙ c.in_err-claim.ensures.ok_part))

pub returns-in_err-designer : goal.returns-in_err-designer
returns-in_err-designer g c =
    passed_on c.from_residual-in_err-designer.result c.in_err-designer.field-0.0 _ c.from_residual-in_err-designer.ensures
    (λ bad. no_designer (λ word. word.now) c.args.arguments.now _ c.in-len2.len_at_least c.in-len2.len_below c.in_ok-claim.claim
    (sym c.read_long.ensures ∙ c.in_ok-claim.ensures.ok_part) (sym c.read.ensures ∙ c.in_err-designer.ensures.ok_part))

pub returns : goal.returns
returns g c =
    all_given (λ word. word.now) c.args.arguments.now _ c.in-len2.len_at_least c.in-len2.len_below c.in_ok-claim.claim
    (sym c.read_long.ensures ∙ c.in_ok-claim.ensures.ok_part) c.in_ok-designer.designer
    (sym c.read.ensures ∙ c.in_ok-designer.ensures.ok_part)
