use Rattle.std.proofs.Common.{◌∙◌, sym}
use Rattle.vault_lines.proofs.Arguments.{passed_on, no_name, named}
use Rattle.vault_lines.proofs.reading.hello.Goals as goal

pub returns-in_err-name : goal.returns-in_err-name
returns-in_err-name g c =
    passed_on c.from_residual.result c.in_err-name.field-0.0 _ c.from_residual.ensures
    (λ bad. no_name (λ word. word.now) c.args.arguments.now _ c.in-len1.len_at_least c.in-len1.len_below
    (sym c.read.ensures ∙ c.in_err-name.ensures.ok_part))

pub returns : goal.returns
returns g c =
    named (λ word. word.now) c.args.arguments.now _ c.in-len1.len_at_least c.in-len1.len_below c.in_ok-name.name
    (sym c.read.ensures ∙ c.in_ok-name.ensures.ok_part)
