use Rattle.std.proofs.Common.{◌∙◌, [], sym, subst}
use Rattle.vault_lines.specs.Reading.{Gives}
use Rattle.vault_lines.proofs.Arguments.{passed_on, keyword_first, then_none, then_some}
use Rattle.vault_lines.proofs.reading.read_words.Goals as goal

pub returns-in_err-keyword : goal.returns-in_err-keyword
returns-in_err-keyword g c =
    passed_on c.from_residual.result c.in_err-keyword.field-0.0 _ c.from_residual.ensures
    (λ bad. then_none _ _ _ (keyword_first (λ word. word.now) c.args.words.now (record { ref_ptr = (0, 0); now = [] }) c.in-len1-up.len_at_least)
    (sym c.read.ensures ∙ c.in_err-keyword.ensures.ok_part))

pub returns : goal.returns
returns g c =
    subst (λ there. Gives c.read_arguments.result there)
    (sym (then_some _ _ _ c.in_ok-keyword.keyword (keyword_first (λ word. word.now) c.args.words.now (record { ref_ptr = (0, 0); now = [] }) c.in-len1-up.len_at_least)
    (sym c.read.ensures ∙ c.in_ok-keyword.ensures.ok_part))) c.read_arguments.ensures
