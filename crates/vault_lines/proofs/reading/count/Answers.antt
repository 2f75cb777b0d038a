use Rattle.std.proofs.Common.{◌∙◌, sym}
use Rattle.vault_lines.proofs.Arguments.{passed_on, no_counted, counted}
use Rattle.vault_lines.proofs.reading.count.Goals as goal

pub returns-in_err-part : goal.returns-in_err-part
returns-in_err-part g c =
    passed_on c.from_residual.result c.in_err-part.field-0.0 _ c.from_residual.ensures
    (λ bad. no_counted (λ word. word.now) c.args.arguments.now _ c.in-len1.len_at_least c.in-len1.len_below
    (sym c.read.ensures ∙ c.in_err-part.ensures.ok_part))

pub returns : goal.returns
returns g c =
    counted (λ word. word.now) c.args.arguments.now _ c.in-len1.len_at_least c.in-len1.len_below c.in_ok-part.part
    (sym c.read.ensures ∙ c.in_ok-part.ensures.ok_part)
