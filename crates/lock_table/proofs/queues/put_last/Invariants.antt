use Rattle.std.specs.Prelude.{List, ◌++◌, ◌∷◌, [], drop}
use Rattle.lock_modes.specs.declared.mode.Mode.{Mode}
use Rattle.lock_queue.specs.declared.queue.Request.{Request}
use Rattle.lock_table.proofs.Putting.{IsTurning}
use Rattle.lock_table.proofs.queues.put_last.Given as goal

abbrev pub invariant-loop-lock : goal.invariant-loop-lock
invariant-loop-lock g l = IsTurning (λ (m : Mode) (requests : List Request). requests ++ record { id = l.fn.id; mode = m; is_held = l.fn.is_held } ∷ []) l.fn.queues.items l.lock-items l.queues.items (drop l.lock-index l.lock-items)
