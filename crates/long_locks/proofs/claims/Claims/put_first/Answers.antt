use Rattle.std.proofs.Common.{◌≡◌, true, is_some, sym, ap, subst, ◌∙◌}
use Rattle.std.specs.Map.{values_of}
use Rattle.vault_state.specs.Claims.{claim_of}
use Rattle.long_locks.specs.Keyed.{ClaimsSeen}
use Rattle.long_locks.proofs.Keyed.{id_eq, id_eq_is, found, front_keyed, front_values}
use Rattle.long_locks.proofs.claims.Claims.put_first.Goals as goal

pub unwrap-index-requires : goal.unwrap-index-requires
unwrap-index-requires g c =
    let there : is_some (claim_of (values_of c.self.inside.by_id.entries) c.args.id) ≡ true = subst (λ (s : ClaimsSeen). is_some (claim_of s.claims c.args.id) ≡ true) (sym c.self.view_is) c.requires in
    c.get_index_of.ensures.found ∙ ap is_some (found id_eq id_eq_is c.self.inside.by_id.entries c.args.id c.self.invariant) ∙ there

pub invariant_of-self : goal.invariant_of-self
invariant_of-self g c =
    rw c.set_items.ensures (
    front_keyed id_eq id_eq_is c.self.inside.by_id.entries c.args.id c.self.invariant c.get_index_of.ensures.unique c.unwrap-index.result (sym c.unwrap-index.ensures ∙ c.get_index_of.ensures.index)
    c.move_index.new.self.entries c.move_index.ensures.entries c.args.items c.index_mut.result.now c.index_mut.ensures.value
    )

pub returns : goal.returns
returns g c =
    rw (← c.self.view_is, c.set_items.ensures)
    (front_values id_eq id_eq_is c.self.inside.by_id.entries c.args.id c.self.invariant c.get_index_of.ensures.unique c.unwrap-index.result (sym c.unwrap-index.ensures ∙ c.get_index_of.ensures.index)
    c.move_index.new.self.entries c.move_index.ensures.entries c.args.items c.index_mut.result.now c.index_mut.ensures.value)
