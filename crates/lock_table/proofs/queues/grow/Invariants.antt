use Rattle.std.specs.Prelude.{◌≡◌, ℕ, ◌+◌, ◌-◌, ◌≤◌, vec_len, vec_capacity}
use Rattle.lock_table.specs.Queues.{requests_at, room_at}
use Rattle.lock_table.proofs.queues.grow.Given as goal

abbrev pub invariant-loop-alloc : goal.invariant-loop-alloc
invariant-loop-alloc g l = record {
  requests : (p : ℕ) → requests_at l.queues.items p ≡ requests_at l.fn.queues.items p;
  room : (p : ℕ) → room_at l.fn.queues.items p ≤ room_at l.queues.items p;
  memory : l.index + 1 ≤ vec_capacity l.queues;
}

abbrev pub decreases-loop-alloc : goal.decreases-loop-alloc
decreases-loop-alloc g l = l.index + 1 - vec_len l.queues
