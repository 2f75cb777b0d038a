use Rattle.std.specs.Prelude.{◌≡◌, ℕ, ◌≤◌, take}
use Rattle.lock_table.specs.Queues.{requests_at, room_at, HaveRoom}
use Rattle.lock_table.proofs.queues.reserve.Given as goal

abbrev pub invariant-loop-lock : goal.invariant-loop-lock
invariant-loop-lock g l = record {
  there : HaveRoom l.queues.items (take l.lock-index l.lock-items);
  requests : (p : ℕ) → requests_at l.queues.items p ≡ requests_at l.fn.queues.items p;
  room : (p : ℕ) → room_at l.fn.queues.items p ≤ room_at l.queues.items p;
}
