use Rattle.std.specs.Prelude.{◌≡◌, ◌≤◌, ℕ, length}
use Rattle.lock_table.specs.Queues.{IsWeighing, room_at}
use Rattle.lock_table.proofs.waits.weigh_again.Given as goal

abbrev pub invariant-loop-index : goal.invariant-loop-index
invariant-loop-index g l = record {
  weighing : IsWeighing l.fn.again l.fn.entries l.blockers.items l.queues.items l.index;
  many : length l.blockers.items ≡ length l.fn.entries;
  room : (p : ℕ) → room_at l.fn.queues.items p ≤ room_at l.queues.items p;
}
