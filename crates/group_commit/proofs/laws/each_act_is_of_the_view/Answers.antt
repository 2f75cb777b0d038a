use Rattle.std.proofs.Common.{refl}
use Rattle.group_commit.specs.World.{new_world}
use Rattle.group_commit.specs.Runs.{run}
use Rattle.group_commit.proofs.Sound.{after_run}
use Rattle.group_commit.proofs.ViewLaw.{acts_as}
use Rattle.group_commit.proofs.Recovery.{crashed_view}
use Rattle.group_commit.proofs.laws.each_act_is_of_the_view.Goals as goal

pub returns-clause-acts : goal.returns-clause-acts
returns-clause-acts c = λ snapshot events r act. acts_as snapshot (run snapshot new_world events) act (after_run snapshot events r)

pub returns-clause-crashes : goal.returns-clause-crashes
returns-clause-crashes c = (refl, crashed_view)
