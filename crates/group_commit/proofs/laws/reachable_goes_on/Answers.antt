use Rattle.group_commit.proofs.Reach.{reachable_goes_on}
use Rattle.group_commit.proofs.laws.reachable_goes_on.Goals as goal

pub returns : goal.returns
returns c = reachable_goes_on
