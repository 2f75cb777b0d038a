use Rattle.std.proofs.Common.{◌∙◌, sym}
use Rattle.vault_lines.proofs.Arguments.{passed_on, no_claim, no_path, all_saved}
use Rattle.vault_lines.proofs.reading.save.Goals as goal

pub returns-in_err-claim : goal.returns-in_err-claim
returns-in_err-claim g c =
    passed_on c.from_residual.result c.in_err-claim.field-0.0 _ c.from_residual.ensures
    (λ bad. no_claim (λ word. word.now) c.args.arguments.now _ c.in-len3.len_at_least c.in-len3.len_below
    (sym c.read_long.ensures ∙ c.in_err-claim.ensures.ok_part))

pub returns-in_err-path : goal.returns-in_err-path
returns-in_err-path g c =
    passed_on c.from_residual-in_err-path.result c.in_err-path.field-0.0 _ c.from_residual-in_err-path.ensures
    (λ bad. no_path (λ word. word.now) c.args.arguments.now _ c.in-len3.len_at_least c.in-len3.len_below c.in_ok-claim.claim
    (sym c.read_long.ensures ∙ c.in_ok-claim.ensures.ok_part)
    (sym c.read.ensures ∙ c.in_err-path.ensures.ok_part))

pub returns : goal.returns
returns g c =
    all_saved (λ word. word.now) c.args.arguments.now _ c.in-len3.len_at_least c.in-len3.len_below c.in_ok-claim.claim
    (sym c.read_long.ensures ∙ c.in_ok-claim.ensures.ok_part)
    c.in_ok-path.path (sym c.read.ensures ∙ c.in_ok-path.ensures.ok_part) c.in_ok-content.content c.in_ok-content.ensures
