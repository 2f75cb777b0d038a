use Rattle.std.proofs.Common.{◌≡◌, ◌≤◌, length}
use Rattle.vault_state.specs.Tree.{is_under}
use Rattle.design_tree.proofs.walk.is_under_in.Given as goal

abbrev pub invariant-loop-parent : goal.invariant-loop-parent
invariant-loop-parent l = (is_under l.places l.at l.top ≡ is_under l.fn.places l.fn.place l.fn.top) × (l.at ≤ length l.places)

abbrev pub decreases-loop-parent : goal.decreases-loop-parent
decreases-loop-parent l = l.at
