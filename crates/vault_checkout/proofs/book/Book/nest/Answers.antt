use Rattle.std.proofs.Common.{◌≡◌, ◌∙◌, Some, Ok, Err, true, false, rules, sym, subst}
use Rattle.vault_state.specs.Path.{front, last}
use Rattle.vault_state.specs.Tree.{find_place, is_part, may_nest_under}
use Rattle.vault_model.specs.Step.{admitted}
use Rattle.vault_state.specs.Vault.{CountsBelow}
use Rattle.vault_checkout.proofs.Following.{follows_refused, follows_memory}
use Rattle.vault_checkout.proofs.Nesting.{nest_refused, nest_done}
use Rattle.vault_checkout.proofs.book.Book.nest.Given as given
use Rattle.vault_checkout.proofs.book.Book.nest.Goals as goal
use Rattle.vault_checkout.proofs.book.Book.nest.Goals.{After-admit}

-- what was looked at before `admit` is called
looked : (g : given.Over) (c : After-admit g) → (last c.args.path.now ≡ Some c.in-Some.name) × (find_place c.args.self.now.tree (front c.args.path.now) ≡ Some c.in-Some-find_names.parent) × (is_part c.args.self.now.tree c.in-Some-find_names.parent ≡ false)
    × (may_nest_under c.args.self.now.tree c.in-Some-find_names.parent ≡ true)
looked g c = (search rules, search rules, search rules, search rules)

pub returns-in_err-admit-clause-told : goal.returns-in_err-admit-clause-told
returns-in_err-admit-clause-told g c =
    let seen = looked g (goal.at.returns-in_err-admit-clause-told g c).After-admit in
    let refused : admitted c.args.self.now c.args.session.now c.in-Some-find_names.parent c.in-Some.name c.args.claim ≡ Err c.in_err-admit.field-0.0 = first_of (search rules, cc (c.in-Some.name-is, c.in_err-admit.ensures.admitted)) in
    follows_refused c.args.self.now c.from_residual.result c.in_err-admit.field-0.0 _ c.from_residual.ensures.1
    (nest_refused c.args.self.now c.args.session.now c.args.path.now c.args.claim c.in-Some.name c.in-Some-find_names.parent seen.0 seen.1 seen.2 seen.3 c.in_err-admit.field-0.0 refused)

pub add_place-requires-clause-kind : goal.add_place-requires-clause-kind
add_place-requires-clause-kind g c = rw (← c.self.view_is) (c.may_nest_under.ensures.may_have c.if-not-may_nest_under.false (sym c.is_part.ensures ∙ c.if-is_part.false))

pub returns-in_err-place-clause-told : goal.returns-in_err-place-clause-told
returns-in_err-place-clause-told g c =
    let seen = looked g (goal.at.returns-in_err-place-clause-told g c).After-admit in
    let admits : admitted c.args.self.now c.args.session.now c.in-Some-find_names.parent c.in-Some.name c.args.claim ≡ Ok tt = first_of (search rules, cc (c.in-Some.name-is, c.in_ok-admit.ensures.admitted)) in
    follows_memory c.args.self.now c.add_place.new.self c.from_residual-in_err-place.result _ _ c.from_residual-in_err-place.ensures.1
    (nest_done c.args.self.now c.args.session.now c.args.path.now c.args.claim c.in-Some.name c.in-Some-find_names.parent seen.0 seen.1 seen.2 seen.3 admits) c.in_err-place.ensures.unchanged

pub returns-clause-counts : goal.returns-clause-counts
returns-clause-counts g c = λ bound h. subst (CountsBelow bound) (sym c.in_ok-place.ensures.made) (record { door = h.door; each = h.each })
