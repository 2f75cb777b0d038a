use Rattle.std.proofs.Common.{◌≡◌, ◌+◌, ◌≤◌, length}
use Rattle.vault_state.specs.Tree.{depth}
use Rattle.design_tree.proofs.walk.depth_in.Given as goal

abbrev pub invariant-loop-parent : goal.invariant-loop-parent
invariant-loop-parent l = (l.steps + depth l.places l.at ≡ depth l.fn.places l.fn.place) × (l.at ≤ length l.places)

abbrev pub decreases-loop-parent : goal.decreases-loop-parent
decreases-loop-parent l = l.at
