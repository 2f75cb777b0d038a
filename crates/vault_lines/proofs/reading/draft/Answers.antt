use Rattle.std.proofs.Common.{◌∙◌, sym}
use Rattle.vault_lines.proofs.Arguments.{passed_on, no_claim_read, no_part, draft_asked}
use Rattle.vault_lines.proofs.reading.draft.Goals as goal

pub returns-in_err-claim : goal.returns-in_err-claim
returns-in_err-claim g c =
    passed_on c.from_residual.result c.in_err-claim.field-0.0 _ c.from_residual.ensures
    (λ bad. no_claim_read (λ word. word.now) c.args.arguments.now _ c.in-len2.len_at_least c.in-len2.len_below
    (sym c.read_long.ensures ∙ c.in_err-claim.ensures.ok_part))

pub returns-in_err-path : goal.returns-in_err-path
returns-in_err-path g c =
    passed_on c.from_residual-in_err-path.result c.in_err-path.field-0.0 _ c.from_residual-in_err-path.ensures
    (λ bad. no_part (λ word. word.now) c.args.arguments.now _ c.in-len2.len_at_least c.in-len2.len_below c.in_ok-claim.claim
    (sym c.read_long.ensures ∙ c.in_ok-claim.ensures.ok_part) (sym c.read.ensures ∙ c.in_err-path.ensures.ok_part))

pub returns : goal.returns
returns g c =
    draft_asked (λ word. word.now) c.args.arguments.now _ c.in-len2.len_at_least c.in-len2.len_below c.in_ok-claim.claim
    (sym c.read_long.ensures ∙ c.in_ok-claim.ensures.ok_part) c.in_ok-path.path
    (sym c.read.ensures ∙ c.in_ok-path.ensures.ok_part)
