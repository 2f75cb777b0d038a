use Rattle.std.specs.Prelude.{take}
use Rattle.lock_queue.specs.Queue.{AreCounted}
use Rattle.lock_queue.proofs.queue.groups_of.Given as goal

-- both groups count the requests so far
abbrev pub invariant-loop-request : goal.invariant-loop-request
invariant-loop-request l = AreCounted (take l.request-index l.requests) l.all l.held
