use Rattle.std.proofs.Common.{◌++◌, length, take, sym, ap, ◌∙◌, arith}
use Rattle.std.proofs.lemmas.List.{take_all}
use Rattle.first_line.specs.Own.{own_part}
use Rattle.first_line.proofs.Own.{all_own}
use Rattle.first_line.proofs.line.FirstLine.take_own.Goals as goal

pub returns-in-Own-clause-own : goal.returns-in-Own-clause-own
returns-in-Own-clause-own c = λ more.
    let bytes = c.args.bytes.now in
    ap (λ line. own_part line (bytes ++ more)) c.in-Own.is ∙ all_own (bytes ++ more)
    ∙ ap (λ l. l ++ more) (sym (take_all (length bytes) bytes (omega arith)))
    ∙ ap (λ l. take (length bytes) bytes ++ l) (sym (ap (λ line. own_part line more) c.in-Own.is ∙ all_own more))
