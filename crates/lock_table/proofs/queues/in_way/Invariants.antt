use Rattle.std.specs.Prelude.{◌≡◌, drop}
use Rattle.lock_table.specs.Queues.{earlier, request_in_way}
use Rattle.lock_table.proofs.queues.in_way.Given as goal

-- the first of the locks so far, and that of the locks that are left, give the first of all
abbrev pub invariant-loop-lock : goal.invariant-loop-lock
invariant-loop-lock g l = earlier l.first (request_in_way l.fn.entries l.fn.queues (drop l.lock-index l.lock-items)) ≡ request_in_way l.fn.entries l.fn.queues l.lock-items
