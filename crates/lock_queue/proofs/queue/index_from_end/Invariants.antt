use Rattle.std.specs.Prelude.{◌≤◌, length, drop, All}
use Rattle.lock_queue.proofs.Ends.{Fails}
use Rattle.lock_queue.proofs.Taken.{is_its_request}
use Rattle.lock_queue.proofs.queue.index_from_end.Given as goal

-- from the index on no request is the claim's
abbrev pub invariant-loop-index : goal.invariant-loop-index
invariant-loop-index l = record {
  inside : l.index ≤ length l.requests;
  none : All (Fails (is_its_request l.id)) (drop l.index l.requests);
}

abbrev pub decreases-loop-index : goal.decreases-loop-index
decreases-loop-index l = l.index
