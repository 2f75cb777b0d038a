use Rattle.std.proofs.Common.{length, arith, ap, subst, ◌∙◌}
use Rattle.vault_state.specs.Shelf.{versions_of, IsShelf}
use Rattle.part_versions.proofs.Rooms.{few_counted}
use Rattle.part_versions.proofs.shelf.Shelf.count.Goals as goal

pub overflow_cast-result : goal.overflow_cast-result
overflow_cast-result g c =
    let few = few_counted c.self.inside.parts.items c.deref.result.now _ c.count_in.result c.self.invariant.shelf_is.few c.deref.ensures.value c.count_in.ensures in
    omega (arith, few)

pub returns-clause-count : goal.returns-clause-count
returns-clause-count g c = c.count_in.ensures ∙ ap (λ s. length (versions_of s c.args.place)) (c.deref.ensures.value ∙ c.self.view_is)

pub returns-clause-shelf : goal.returns-clause-shelf
returns-clause-shelf g c = subst IsShelf c.self.view_is c.self.invariant.shelf_is
