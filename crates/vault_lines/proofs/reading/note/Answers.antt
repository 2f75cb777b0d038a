use Rattle.std.proofs.Common.{◌∙◌, sym}
use Rattle.vault_lines.proofs.Arguments.{passed_on, none_asked, note_asked, none_noted, noted}
use Rattle.vault_lines.proofs.reading.note.Goals as goal

pub returns-in_err-claim-in-len1 : goal.returns-in_err-claim-in-len1
returns-in_err-claim-in-len1 g c =
    passed_on c.from_residual.result c.in_err-claim-in-len1.field-0.0 _ c.from_residual.ensures
    (λ bad. none_asked (λ word. word.now) c.args.arguments.now _ c.in-len1.len_at_least c.in-len1.len_below
    (sym c.read_long.ensures ∙ c.in_err-claim-in-len1.ensures.ok_part))

pub returns-in_ok-claim-in-len1 : goal.returns-in_ok-claim-in-len1
returns-in_ok-claim-in-len1 g c =
    note_asked (λ word. word.now) c.args.arguments.now _ c.in-len1.len_at_least c.in-len1.len_below c.in_ok-claim-in-len1.claim
    (sym c.read_long.ensures ∙ c.in_ok-claim-in-len1.ensures.ok_part)

pub returns-in_err-claim-in-len2 : goal.returns-in_err-claim-in-len2
returns-in_err-claim-in-len2 g c =
    passed_on c.from_residual-in_err-claim-in-len2.result c.in_err-claim-in-len2.field-0.0 _ c.from_residual-in_err-claim-in-len2.ensures
    (λ bad. none_noted (λ word. word.now) c.args.arguments.now _ c.in-len2.len_at_least c.in-len2.len_below
    (sym c.read_long-in-len2.ensures ∙ c.in_err-claim-in-len2.ensures.ok_part))

pub returns-in_ok-text-in-len2 : goal.returns-in_ok-text-in-len2
returns-in_ok-text-in-len2 g c =
    noted (λ word. word.now) c.args.arguments.now _ c.in-len2.len_at_least c.in-len2.len_below c.in_ok-claim-in-len2.claim
    (sym c.read_long-in-len2.ensures ∙ c.in_ok-claim-in-len2.ensures.ok_part)
    c.in_ok-text-in-len2.text c.in_ok-text-in-len2.ensures
