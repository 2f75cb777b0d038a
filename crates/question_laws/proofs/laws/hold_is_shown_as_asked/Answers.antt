use Rattle.question_laws.proofs.Shown.{hold_is_shown as shown}
use Rattle.question_laws.proofs.laws.hold_is_shown_as_asked.Goals as goal

pub returns : goal.returns
returns c = shown
