use Rattle.std.proofs.Common.{◌≡◌, ◌∙◌, [], map, Some, sym}
use Rattle.vault_state.specs.Path.{path_in}
use Rattle.vault_model.specs.declared.commands.Command.TheVariants as commands
use Rattle.vault_lines.specs.declared.keyword.Keyword.TheVariants as keywords
use Rattle.vault_lines.specs.Reading.{◌>>=◌}
use Rattle.vault_lines.specs.Grammar.{arguments_in}
use Rattle.vault_lines.proofs.Arguments.{passed_on, nested_one, nested_two, then_none, then_some}
use Rattle.vault_lines.proofs.reading.nest.Goals.{in-len1, in-len2+in_ok-ok_or-in-len2}
use Rattle.vault_lines.proofs.reading.nest.Goals as goal

pub returns-in_err-path : goal.returns-in_err-path
returns-in_err-path g c =
    let read : arguments_in keywords.Nest (map (λ word. word.now) c.args.arguments.now)
    ≡ (path_in c.if-arguments-lt2.claim.0.now >>= (λ path. Some (commands.Nest path c.if-arguments-lt2.claim.1))) =
    elim c.if-arguments-lt2.branch [
      | in-len1 w ↦ nested_one (λ word. word.now) c.args.arguments.now (record { ref_ptr = (0, 0); now = [] })
          c.if-arguments-lt2.claim w.claim-is w.in-len1.len_at_least w.in-len1.len_below
      | in-len2+in_ok-ok_or-in-len2 w ↦ nested_two (λ word. word.now) c.args.arguments.now (record { ref_ptr = (0, 0); now = [] })
          c.if-arguments-lt2.claim _ w.claim-is w.in-len2.len_at_least w.in-len2.len_below (sym w.read_long.ensures ∙ w.in_ok-ok_or-in-len2.ensures.ok_part)
    ] in
    passed_on c.from_residual-in_err-path.result c.in_err-path.field-0.0 _ c.from_residual-in_err-path.ensures
    (λ bad. then_none _ _ _ read (sym c.read.ensures ∙ c.in_err-path.ensures.ok_part))

pub returns : goal.returns
returns g c =
    let read : arguments_in keywords.Nest (map (λ word. word.now) c.args.arguments.now)
    ≡ (path_in c.if-arguments-lt2.claim.0.now >>= (λ path. Some (commands.Nest path c.if-arguments-lt2.claim.1))) =
    elim c.if-arguments-lt2.branch [
      | in-len1 w ↦ nested_one (λ word. word.now) c.args.arguments.now (record { ref_ptr = (0, 0); now = [] })
          c.if-arguments-lt2.claim w.claim-is w.in-len1.len_at_least w.in-len1.len_below
      | in-len2+in_ok-ok_or-in-len2 w ↦ nested_two (λ word. word.now) c.args.arguments.now (record { ref_ptr = (0, 0); now = [] })
          c.if-arguments-lt2.claim _ w.claim-is w.in-len2.len_at_least w.in-len2.len_below (sym w.read_long.ensures ∙ w.in_ok-ok_or-in-len2.ensures.ok_part)
    ] in
    then_some _ _ _ c.in_ok-path.path read (sym c.read.ensures ∙ c.in_ok-path.ensures.ok_part)
