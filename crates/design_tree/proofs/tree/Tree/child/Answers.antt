use Rattle.design_tree.proofs.Children.{find-children_of, children_of-there}
use Rattle.design_tree.proofs.tree.Tree.child.Goals as goal

pub first_named-requires : goal.first_named-requires
first_named-requires g c = rw (c.child_list.ensures, c.deref.ensures.value, c.self.view_is) (children_of-there c.args.self.now c.args.parent)

pub returns : goal.returns
returns g c =
    rw (c.first_named.ensures, c.child_list.ensures, c.deref.ensures.value, c.self.view_is) (find-children_of c.args.self.now c.args.parent c.args.name.now)
