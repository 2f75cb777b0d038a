use Rattle.std.proofs.Common.{◌≡◌, ◌<◌, sym, suc, arith}
use Rattle.vault_state.specs.Tree.{depth}
use Rattle.vault_state.proofs.Walks.{depth-step}
use Rattle.design_tree.proofs.walk.depth_in.Goals as goal

pub loop-parent-preserved : goal.loop-parent-preserved
loop-parent-preserved c =
    let lower : c.in-Some.parent < c.loop-parent.at = c.requires.tree.parents _ _ (sym c.in-Some.ensures) in
    let step : depth c.args.places.now c.loop-parent.at ≡ suc (depth c.args.places.now c.in-Some.parent) = depth-step _ _ _ c.requires.tree.parents (sym c.in-Some.ensures) in
    (omega arith, omega arith)
