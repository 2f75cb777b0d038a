use Rattle.std.proofs.Common.{◌∙◌}
use Rattle.long_locks.proofs.Reaching.{reaches}
use Rattle.long_locks.proofs.looking.look_into.Goals as goal

pub returns : goal.returns
returns g c = c.are_in_line.ensures ∙ reaches c.args.tree.now c.args.place c.see_whole.ensures c.requires.place c.args.items.now c.requires.items
