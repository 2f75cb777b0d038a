use Rattle.std.proofs.Common.{rules}
use Rattle.design_tree.proofs.Indexed.{IsSoundTree-new}
use Rattle.design_tree.proofs.tree.Tree.new.Goals as goal

pub invariant_of-result : goal.invariant_of-result
invariant_of-result g c = IsSoundTree-new _ _ (search rules) (search rules)
