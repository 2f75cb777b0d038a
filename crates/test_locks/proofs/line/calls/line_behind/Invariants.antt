use Rattle.long_locks.specs.Lines.{IsGrownFrom}
use Rattle.test_locks.proofs.line.calls.line_behind.Given as goal

-- the tree is the line's, or has grown from it
abbrev pub invariant-loop-index : goal.invariant-loop-index
invariant-loop-index g l = IsGrownFrom l.line.tree l.fn.tree
