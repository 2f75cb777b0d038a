use Rattle.std.specs.Prelude.{◌≡◌, Option, map, drop, length}
use Rattle.vault_state.specs.declared.ids.ClaimId.{ClaimId}
use Rattle.lock_table.specs.declared.entry.Entry.{Entry}
use Rattle.lock_table.specs.Queues.{is_queued_against, waits_where}
use Rattle.lock_table.proofs.Waiting.{IsWaiting}
use Rattle.lock_table.proofs.waits.wait_behind.Given as goal

-- those at the places of the locks so far wait, and those at the places of the locks that are left will
abbrev pub invariant-loop-lock : goal.invariant-loop-lock
invariant-loop-lock g l = record {
  waiting : (old : Entry → Option ClaimId) → l.fn.blockers.items ≡ map old l.fn.entries → IsWaiting l.fn.id l.fn.entries (waits_where (is_queued_against l.fn.queues l.lock-items) l.fn.id old) (is_queued_against l.fn.queues (drop l.lock-index l.lock-items)) l.blockers.items;
  many : length l.blockers.items ≡ length l.fn.entries;
}
