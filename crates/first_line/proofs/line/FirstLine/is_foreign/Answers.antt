use Rattle.first_line.proofs.Own.{none_own}
use Rattle.first_line.proofs.line.FirstLine.is_foreign.Goals as goal

pub returns-in-Foreign-clause-silent : goal.returns-in-Foreign-clause-silent
returns-in-Foreign-clause-silent c = λ yes more. none_own c.args.self c.in-Foreign.is more
