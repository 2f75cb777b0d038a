use Rattle.long_locks.specs.Lines.{IsGrownFrom}
use Rattle.test_locks.proofs.line.random_lines.random_line.Given as goal

-- the tree is the line's, or has grown from it
abbrev pub invariant-loop : goal.invariant-loop
invariant-loop g l = IsGrownFrom l.line.tree l.tree
