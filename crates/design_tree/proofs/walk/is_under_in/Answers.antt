use Rattle.std.proofs.Common.{◌≡◌, ◌<◌, ◌∙◌, ◌==◌, false, sym, arith}
use Rattle.vault_state.proofs.Walks.{is_under-next}
use Rattle.design_tree.proofs.walk.is_under_in.Goals as goal

pub loop-parent-preserved : goal.loop-parent-preserved
loop-parent-preserved c =
    let lower : c.in-Some.parent < c.loop-parent.at = c.requires.tree.parents _ _ (sym c.in-Some.ensures) in
    let other : (c.loop-parent.at == c.args.top) ≡ false = cc in
    (is_under-next _ _ _ _ c.requires.tree.parents c.in-Some.ensures other ∙ c.loop-parent.invariant.0, omega arith)
