use Rattle.lock_table.proofs.Shorts.{IsEmptying}
use Rattle.lock_table.proofs.queues.take_short_out.Given as goal

abbrev pub invariant-loop-index : goal.invariant-loop-index
invariant-loop-index g l = IsEmptying l.fn.queues.items l.queues.items l.index
