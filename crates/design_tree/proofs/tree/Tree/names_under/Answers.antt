use Rattle.design_tree.proofs.Children.{children_of-there}
use Rattle.design_tree.proofs.tree.Tree.names_under.Goals as goal

pub names_in-requires : goal.names_in-requires
names_in-requires g c = rw (c.child_list.ensures, c.deref.ensures.value, c.self.view_is) (children_of-there c.args.self.now c.args.parent)
