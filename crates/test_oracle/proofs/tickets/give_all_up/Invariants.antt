use Rattle.std.proofs.Common.{length}
use Rattle.test_oracle.proofs.tickets.give_all_up.Given as goal

abbrev pub decreases-loop-held : goal.decreases-loop-held
decreases-loop-held l = length l.tickets.items
