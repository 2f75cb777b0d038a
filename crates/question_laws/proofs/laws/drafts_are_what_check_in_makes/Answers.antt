use Rattle.question_laws.proofs.Versions.{drafts_are_made as made}
use Rattle.question_laws.proofs.laws.drafts_are_what_check_in_makes.Goals as goal

pub returns : goal.returns
returns c = made
