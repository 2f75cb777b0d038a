use Rattle.group_commit.specs.World.{new_world}
use Rattle.group_commit.specs.Runs.{run}
use Rattle.group_commit.proofs.Sound.{after_run}
use Rattle.group_commit.proofs.Counts.{counts_are_of_the_life}
use Rattle.group_commit.proofs.laws.counts_are_of_the_life.Goals as goal

pub returns : goal.returns
returns c = λ snapshot events r n. counts_are_of_the_life (run snapshot new_world events) n (after_run snapshot events r)
