use Rattle.std.proofs.Common.{◌≡◌, ◌∙◌, true, Some, rules, sym, subst}
use Rattle.vault_state.specs.Claims.{claim_of, is_held}
use Rattle.vault_model.proofs.Fronts.{stands_held}
use Rattle.vault_state.proofs.Stays.{own_id}
use Rattle.vault_checkout.proofs.book.Book.usable.Goals as goal

pub is_held-requires : goal.is_held-requires
is_held-requires g c =
    let found : claim_of c.self.inside.line.claims c.args.id ≡ Some c.in-Some.claim.now = search rules in
    rw (← c.self.view_is) (subst (λ k. claim_of c.self.inside.line.claims k ≡ Some c.in-Some.claim.now) (sym (own_id c.self.inside.line.claims c.args.id c.in-Some.claim.now found)) found)

pub returns-clause-held : goal.returns-clause-held
returns-clause-held g c =
    let found : claim_of c.self.inside.line.claims c.args.id ≡ Some c.in-Some.claim.now = search rules in
    let held : is_held c.self.inside.tree c.self.inside.line.claims c.in-Some.claim.now ≡ true = rw (← c.self.view_is) at (sym c.is_held.ensures ∙ c.if-not-is_held.false) in
    rw (← c.self.view_is) (stands_held c.self.inside.tree c.self.inside.line.claims c.args.id c.in-Some.claim.now found held)
