use Rattle.std.proofs.Common.{sym, ap, ◌∙◌}
use Rattle.std.specs.Map.{values_of}
use Rattle.long_locks.proofs.Keyed.{id_eq, id_eq_is, keyed_removed, none_removed, one_removed}
use Rattle.long_locks.proofs.claims.Claims.remove.Goals as goal

pub invariant_of-self : goal.invariant_of-self
invariant_of-self g c = rw c.shift_remove_index.ensures.entries (keyed_removed c.self.inside.by_id.entries c.in-Some.index c.self.invariant)

pub returns-in-Some : goal.returns-in-Some
returns-in-Some g c =
    let es = c.self.inside.by_id.entries in
    rw (← c.self.view_is) (ap values_of c.shift_remove_index.ensures.entries ∙ one_removed id_eq id_eq_is es c.args.id c.self.invariant c.in-Some.ensures.unique c.in-Some.index c.in-Some.ensures.index)

pub returns-in_default : goal.returns-in_default
returns-in_default g c = rw (← c.self.view_is) (sym (none_removed id_eq id_eq_is c.self.inside.by_id.entries c.args.id c.self.invariant c.in_default.ensures.index))
