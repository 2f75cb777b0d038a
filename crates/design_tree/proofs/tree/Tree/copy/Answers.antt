use Rattle.std.proofs.lemmas.List.Elements.{same_from_all_zip}
use Rattle.design_tree.proofs.Copies.{same_through}
use Rattle.design_tree.proofs.tree.Tree.copy.Goals as goal

pub invariant_of-result : goal.invariant_of-result
invariant_of-result g c =
    let lists = same_through (λ v. v.items) _ (λ v w k. same_from_all_zip _ v.items w.items k.0 (λ x y e. e)) _ _ c.in_ok-from_clones.ensures.items in
    rw (c.in_ok-from_slice.ensures.items, c.deref.ensures.value, lists, c.deref-2.ensures.value) c.self.invariant
