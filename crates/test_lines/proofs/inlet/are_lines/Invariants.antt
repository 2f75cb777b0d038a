use Rattle.std.specs.Prelude.{◌≤◌, vec_capacity}
use Rattle.vault_lines.specs.Limits.{longest_line}
use Rattle.test_lines.proofs.inlet.are_lines.Given as goal

-- the line has room for the longest
abbrev pub invariant-loop-next : goal.invariant-loop-next
invariant-loop-next l = longest_line ≤ vec_capacity l.line
