use Rattle.group_commit.specs.World.{new_world}
use Rattle.group_commit.specs.Runs.{run}
use Rattle.group_commit.proofs.Sound.{after_run}
use Rattle.group_commit.proofs.Changes.{effects_are_the_change}
use Rattle.group_commit.proofs.laws.effects_are_the_change.Goals as goal

pub returns : goal.returns
returns c = λ snapshot events r n m. effects_are_the_change (run snapshot new_world events) n m (after_run snapshot events r).begins
