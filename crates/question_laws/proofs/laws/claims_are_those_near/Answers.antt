use Rattle.question_laws.proofs.Near.{claims_are_those_near as near}
use Rattle.question_laws.proofs.laws.claims_are_those_near.Goals as goal

pub returns : goal.returns
returns c = near
