use Rattle.std.specs.Prelude.{◌≡◌, drop}
use Rattle.lock_table.specs.Queues.{earlier, held_request_in_way}
use Rattle.lock_table.proofs.queues.held_in_way.Given as goal

-- the first of the locks so far, and that of the locks that are left, give the first of all
abbrev pub invariant-loop-lock : goal.invariant-loop-lock
invariant-loop-lock g l = earlier l.first (held_request_in_way l.fn.entries l.fn.queues l.fn.id (drop l.lock-index l.lock-items)) ≡ held_request_in_way l.fn.entries l.fn.queues l.fn.id l.lock-items
