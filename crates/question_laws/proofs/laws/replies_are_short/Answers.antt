use Rattle.question_laws.proofs.Replies.{replies_are_short as short}
use Rattle.question_laws.proofs.laws.replies_are_short.Goals as goal

pub returns : goal.returns
returns c = short
