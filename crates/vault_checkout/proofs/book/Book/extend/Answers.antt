use Rattle.std.proofs.Common.{◌≡◌, ◌∙◌, ◌≤◌, ◌++◌, Some, None, length, arith, sym, subst, refl}
use Rattle.std.specs.Prelude.{IsOk}
use Rattle.std.proofs.lemmas.Bool.Decides.{nat_tests}
use Rattle.std.proofs.lemmas.List.Elements.{All-append}
use Rattle.vault_state.specs.declared.claims.Item.{Item}
use Rattle.vault_state.specs.Claims.{claim_of, in_way_of}
use Rattle.vault_model.specs.Step.{placed}
use Rattle.vault_state.specs.Vault.{IsClaim}
use Rattle.vault_model.proofs.Kept.{length-placed}
use Rattle.vault_state.proofs.Stays.{claim_there}
use Rattle.vault_checkout.proofs.Following.{follows_refused}
use Rattle.vault_checkout.proofs.Extending.{not_usable, miscounted, nowhere, overlaps, extended, nobody_is_in_the_way, who_is_in_the_way}
use Rattle.vault_checkout.proofs.book.Book.extend.Goals as goal

pub returns-in_err-claim-clause-told : goal.returns-in_err-claim-clause-told
returns-in_err-claim-clause-told g c =
    follows_refused c.args.self.now c.from_residual.result c.in_err-claim.field-0.0 _ c.from_residual.ensures.1
    (not_usable c.args.self.now c.args.session.now c.args.id c.args.wanted.now c.in_err-claim.field-0.0 c.in_err-claim.ensures.decided)

pub returns-then-not-may_ask_for-clause-told : goal.returns-then-not-may_ask_for-clause-told
returns-then-not-may_ask_for-clause-told g c =
    (miscounted c.args.self.now c.args.session.now c.args.id c.args.wanted.now c.in_ok-claim.claim c.in_ok-claim.ensures.decided (rw c.len.ensures.len at c.if-not-may_ask_for.ensures), refl)

pub returns-in_default-clause-told : goal.returns-in_default-clause-told
returns-in_default-clause-told g c =
    let none : None ≡ placed c.args.self.now.tree c.args.wanted.now = rw (← c.self.view_is) c.in_default.ensures.placed in
    (nowhere c.args.self.now c.args.session.now c.args.id c.args.wanted.now c.in_ok-claim.claim c.in_ok-claim.ensures.decided (rw c.len.ensures.len at c.if-not-may_ask_for.ensures) none, refl)

pub joined-requires : goal.joined-requires
joined-requires g c =
    let same : length c.in-Some.items ≡ length c.args.wanted.now = length-placed c.self.inside.tree c.args.wanted.now c.in-Some.items (sym c.in-Some.ensures.placed) in
    let few = (rw c.len.ensures.len at c.if-not-may_ask_for.ensures) in
    let own = c.len.ensures.few in
    let len = c.len.ensures.len in
    grind (arith, nat_tests, few, own, len, same)

pub move_first-requires-clause-there : goal.move_first-requires-clause-there
move_first-requires-clause-there g c =
    let found : claim_of c.self.inside.line.claims c.args.id ≡ Some c.in_ok-claim.claim = rw (← c.self.view_is) at c.in_ok-claim.ensures.found in
    let own = claim_there (IsClaim c.self.inside.tree c.self.inside.sessions.items c.self.inside.line.last_long c.self.inside.line.last_short) c.self.inside.line.claims c.args.id c.self.invariant.0.claims c.in_ok-claim.claim found in
    rw (← c.self.view_is, c.joined.ensures) (All-append (λ (item : Item). item.place ≤ length c.self.inside.tree) c.in_ok-claim.claim.items c.in-Some.items own.there c.in-Some.ensures.there)

pub returns-in-Ok-Done-clause-told : goal.returns-in-Ok-Done-clause-told
returns-in-Ok-Done-clause-told g c =
    let found : Some c.in-Some.items ≡ placed c.args.self.now.tree c.args.wanted.now = rw (← c.self.view_is) c.in-Some.ensures.placed in
    let way : in_way_of c.args.self.now.tree c.args.self.now.line c.args.id (c.in_ok-claim.claim.items ++ c.in-Some.items) ≡ None = nobody_is_in_the_way _ (rw c.joined.ensures at (sym c.in-Ok-Done.field-0-is ∙ c.in-Ok-Done.ensures.answer)) in
    rw (c.effect_of.ensures, rw way at (rw c.joined.ensures at c.in-Ok-Done.ensures.moved)) (extended c.args.self.now c.args.session.now c.args.id c.args.wanted.now c.in_ok-claim.claim c.in_ok-claim.ensures.decided (rw c.len.ensures.len at c.if-not-may_ask_for.ensures) c.in-Some.items found way)

pub returns-in-Ok-InTheWay-clause-told : goal.returns-in-Ok-InTheWay-clause-told
returns-in-Ok-InTheWay-clause-told g c =
    let found : Some c.in-Some.items ≡ placed c.args.self.now.tree c.args.wanted.now = rw (← c.self.view_is) c.in-Some.ensures.placed in
    let way : in_way_of c.args.self.now.tree c.args.self.now.line c.args.id (c.in_ok-claim.claim.items ++ c.in-Some.items) ≡ Some c.in-Ok-InTheWay.other = who_is_in_the_way _ c.in-Ok-InTheWay.other (rw c.joined.ensures at (sym c.in-Ok-InTheWay.field-0-is ∙ c.in-Ok-InTheWay.ensures.answer)) in
    (overlaps c.args.self.now c.args.session.now c.args.id c.args.wanted.now c.in_ok-claim.claim c.in_ok-claim.ensures.decided (rw c.len.ensures.len at c.if-not-may_ask_for.ensures) c.in-Some.items found c.in-Ok-InTheWay.other way, rw way at (rw c.joined.ensures at c.in-Ok-InTheWay.ensures.moved))

pub returns-in-Err-clause-told : goal.returns-in-Err-clause-told
returns-in-Err-clause-told g c =
    let found : Some c.in-Some.items ≡ placed c.args.self.now.tree c.args.wanted.now = rw (← c.self.view_is) c.in-Some.ensures.placed in
    let way : in_way_of c.args.self.now.tree c.args.self.now.line c.args.id (c.in_ok-claim.claim.items ++ c.in-Some.items) ≡ None = rw c.joined.ensures at c.in-Err.ensures.memory in
    (subst IsOk (sym (extended c.args.self.now c.args.session.now c.args.id c.args.wanted.now c.in_ok-claim.claim c.in_ok-claim.ensures.decided (rw c.len.ensures.len at c.if-not-may_ask_for.ensures) c.in-Some.items found way)) refl, c.in-Err.ensures.unchanged)
