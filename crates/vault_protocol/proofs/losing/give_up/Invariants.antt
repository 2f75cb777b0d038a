use Rattle.std.proofs.Common.{length}
use Rattle.vault_protocol.proofs.losing.give_up.Given as goal

abbrev pub decreases-loop-line : goal.decreases-loop-line
decreases-loop-line g l = length l.lines.items
