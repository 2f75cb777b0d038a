use Rattle.std.proofs.Common.{◌≡◌, ◌∙◌, ◌==◌, Bool, refl, [], Some, None, rules, true, false, sym, subst, length, All}
use Rattle.std.specs.Prelude.{List}
use Rattle.vault_state.specs.declared.ids.ClaimId.TheVariants.{Long}
use Rattle.vault_state.specs.Shelf.{Draft}
use Rattle.vault_state.specs.Claims.{claim_of}
use Rattle.vault_state.specs.Vault.{IsClaim, IsDraft}
use Rattle.vault_state.proofs.Stays.{claim_there}
use Rattle.check_outs.specs.Typed.{number_of, own_drafts, marked}
use Rattle.vault_checkout.proofs.Recalls.{itself_stays, other_stays, none_stays}
use Rattle.vault_checkout.proofs.book.Book.stays_held.Goals as goal

not_empty : (drafts own : List Draft) (b : Bool) → b ≡ (length drafts == 0) → b ≡ false → drafts ≡ own → own ≡ [] → ⊥
not_empty drafts own b e false_is same none =
    let empty : drafts ≡ [] = same ∙ none in
    let zero : (length drafts == 0) ≡ true = subst (λ xs. (length xs == 0) ≡ true) (sym empty) refl in
    let clash : true ≡ false = sym zero ∙ sym e ∙ false_is in
    cc

pub returns-then-number : goal.returns-then-number
returns-then-number g c =
    let same : number_of c.args.check_out.now ≡ c.args.number = sym c.number.ensures ∙ c.if-number.true in
    rw same (sym (itself_stays c.args.self.now.tree c.args.self.now.line c.args.number c.args.items.now c.see_whole.ensures.apart c.requires.found (own_drafts c.args.check_out.now)))

pub overlaps-requires-clause-items : goal.overlaps-requires-clause-items
overlaps-requires-clause-items g c =
    (claim_there (IsClaim c.self.inside.tree c.self.inside.sessions.items c.self.inside.line.last_long c.self.inside.line.last_short) c.self.inside.line.claims (Long c.number-2.result) c.self.invariant.0.claims c.in-Some.claim.now (search rules)).there

pub returns-in-Some : goal.returns-in-Some
returns-in-Some g c =
    let at : claim_of c.self.inside.line.claims (Long (number_of c.args.check_out.now)) ≡ Some c.in-Some.claim.now = rw c.number-2.ensures at (sym c.in-Some.ensures) in
    let all : All (IsDraft c.self.inside.tree c.self.inside.line.claims) (marked (number_of c.args.check_out.now) (own_drafts c.args.check_out.now)) = rw (← c.self.view_is) at c.requires.drafts in
    rw (← c.self.view_is, c.overlaps.ensures)
    (other_stays c.self.inside.tree c.self.inside.line.claims c.args.number c.args.items.now c.self.invariant.0.apart (rw (← c.self.view_is) at c.requires.found) (number_of c.args.check_out.now) (own_drafts c.args.check_out.now)
    (not_empty c.drafts.result.now (own_drafts c.args.check_out.now) c.is_empty.result c.is_empty.ensures c.if-is_empty.false c.drafts.ensures)
    (λ same. c.if-number.false (c.number.ensures ∙ same)) all c.in-Some.claim.now at)

pub returns-in-None : goal.returns-in-None
returns-in-None g c =
    let at : claim_of c.self.inside.line.claims (Long (number_of c.args.check_out.now)) ≡ None = rw c.number-2.ensures at (sym c.in-None.ensures) in
    absurd (none_stays c.self.inside.tree c.self.inside.line.claims c.args.number c.args.items.now c.self.invariant.0.apart (rw (← c.self.view_is) at c.requires.found) (number_of c.args.check_out.now) (own_drafts c.args.check_out.now)
    (not_empty c.drafts.result.now (own_drafts c.args.check_out.now) c.is_empty.result c.is_empty.ensures c.if-is_empty.false c.drafts.ensures) (rw (← c.self.view_is) at c.requires.drafts) at)
