use Rattle.std.proofs.Common.{◌≡◌, ◌+◌, false, nat_le, ◌||◌, length, arith, sym, ap, ◌∙◌}
use Rattle.std.proofs.lemmas.Bool.Decides.{nat_tests}
use Rattle.vault_state.specs.Tree.{children_count}
use Rattle.design_tree.proofs.Children.{length-children_of}
use Rattle.design_tree.proofs.tree.Tree.is_full.Goals as goal

pub returns-else-len-ge-MAX_PLACES : goal.returns-else-len-ge-MAX_PLACES
returns-else-len-ge-MAX_PLACES g c =
    let tree = c.args.self.now in
    let room : nat_le 4096 (length tree + 1) ≡ false = grind (arith, nat_tests) in
    ap (nat_le 64) (ap length c.child_list.ensures ∙ length-children_of tree c.args.parent) ∙ ap (λ b. b || nat_le 64 (children_count tree c.args.parent)) (sym room)
