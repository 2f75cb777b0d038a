use Rattle.std.specs.Prelude.{◌≡◌, Option, map, drop, length}
use Rattle.vault_state.specs.declared.ids.ClaimId.{ClaimId}
use Rattle.lock_table.specs.declared.entry.Entry.{Entry}
use Rattle.lock_table.specs.Queues.{is_queued_in, waits_where}
use Rattle.lock_table.proofs.Waiting.{IsWaiting}
use Rattle.lock_table.proofs.waits.wait_in_queue.Given as goal

-- those of the requests so far wait, and those of the requests that are left will
abbrev pub invariant-loop-request : goal.invariant-loop-request
invariant-loop-request g l = record {
  waiting : (old : Entry → Option ClaimId) → l.fn.blockers.items ≡ map old l.fn.entries → IsWaiting l.fn.id l.fn.entries (waits_where (is_queued_in l.fn.mode l.fn.requests) l.fn.id old) (is_queued_in l.fn.mode (drop l.request-index l.fn.requests)) l.blockers.items;
  many : length l.blockers.items ≡ length l.fn.entries;
}
