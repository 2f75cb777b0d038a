use Rattle.std.proofs.Common.{refl, sym}
use Rattle.vault_state.specs.Claims.{given_to}
use Rattle.long_locks.proofs.Keyed.{id_eq, id_eq_is, nothing_changed, changed_values, changed_keyed}
use Rattle.long_locks.proofs.claims.Claims.give.Goals as goal

pub invariant_of-self : goal.invariant_of-self
invariant_of-self g c =
    rw c.give.ensures (
    changed_keyed id_eq id_eq_is (given_to c.args.designer) (λ x. refl) c.self.inside.by_id.entries c.args.id c.self.invariant c.in-Some.ensures.unique c.in-Some.index c.in-Some.ensures.index
    c.index_mut.result.now c.index_mut.ensures.value
    )

pub returns-in-Some : goal.returns-in-Some
returns-in-Some g c =
    rw (← c.self.view_is, c.give.ensures)
    (changed_values id_eq id_eq_is (given_to c.args.designer) (λ x. refl) c.self.inside.by_id.entries c.args.id c.self.invariant c.in-Some.ensures.unique c.in-Some.index c.in-Some.ensures.index
    c.index_mut.result.now c.index_mut.ensures.value)

pub returns-in_default : goal.returns-in_default
returns-in_default g c = rw (← c.self.view_is) (sym (nothing_changed id_eq id_eq_is (given_to c.args.designer) (λ x. refl) c.self.inside.by_id.entries c.args.id c.self.invariant c.in_default.ensures.index))
