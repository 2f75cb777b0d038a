use Rattle.std.specs.Prelude.{drop}
use Rattle.lock_modes.specs.declared.mode.Mode.{Mode}
use Rattle.lock_queue.specs.Queue.{requests_without}
use Rattle.lock_table.proofs.Putting.{IsTurning}
use Rattle.lock_table.proofs.queues.take_out.Given as goal

abbrev pub invariant-loop-lock : goal.invariant-loop-lock
invariant-loop-lock g l = IsTurning (λ (m : Mode). requests_without l.fn.id) l.fn.queues.items l.lock-items l.queues.items (drop l.lock-index l.lock-items)
