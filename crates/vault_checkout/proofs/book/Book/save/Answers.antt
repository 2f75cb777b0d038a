use Rattle.std.proofs.Common.{◌≡◌, ◌∙◌, Some, None, true, false, refl, sym, subst}
use Rattle.vault_state.specs.Claims.{change_set}
use Rattle.vault_state.specs.Tree.{find_place, is_part}
use Rattle.vault_state.specs.Vault.{CountsBelow}
use Rattle.vault_checkout.proofs.Following.{follows_refused, follows_memory}
use Rattle.vault_checkout.proofs.Saving.{save_by_another, save_nowhere, save_between, save_beside, save_too_much, save_done}
use Rattle.vault_checkout.proofs.book.Book.save.Goals as goal

pub returns-in_err-claim-clause-told : goal.returns-in_err-claim-clause-told
returns-in_err-claim-clause-told g c =
    follows_refused c.args.self.now c.from_residual.result c.in_err-claim.field-0.0 _ c.from_residual.ensures.1 (save_by_another c.args.self.now c.args.session.now c.args.number c.args.path.now c.args.content.now c.in_err-claim.field-0.0 (sym c.in_err-claim.ensures.decided))

pub returns-in_default-clause-told : goal.returns-in_default-clause-told
returns-in_default-clause-told g c =
    let found : find_place c.args.self.now.tree c.args.path.now ≡ None = rw (← c.self.view_is) (sym c.in_default.ensures.found) in
    (save_nowhere c.args.self.now c.args.session.now c.args.number c.args.path.now c.args.content.now c.in_ok-claim.claim (sym c.in_ok-claim.ensures.decided) found, refl)

pub returns-then-not-is_part-clause-told : goal.returns-then-not-is_part-clause-told
returns-then-not-is_part-clause-told g c =
    let found : find_place c.args.self.now.tree c.args.path.now ≡ Some c.in-Some.place = rw (← c.self.view_is) (sym c.in-Some.ensures.found) in
    let part : is_part c.args.self.now.tree c.in-Some.place ≡ false = rw (← c.self.view_is) (sym c.is_part.ensures ∙ c.if-not-is_part.true) in
    (save_between c.args.self.now c.args.session.now c.args.number c.args.path.now c.args.content.now c.in_ok-claim.claim (sym c.in_ok-claim.ensures.decided) c.in-Some.place found part, refl)

pub returns-then-not-is_changed_by-clause-told : goal.returns-then-not-is_changed_by-clause-told
returns-then-not-is_changed_by-clause-told g c =
    let found : find_place c.args.self.now.tree c.args.path.now ≡ Some c.in-Some.place = rw (← c.self.view_is) (sym c.in-Some.ensures.found) in
    let part : is_part c.args.self.now.tree c.in-Some.place ≡ true = rw (← c.self.view_is) (sym c.is_part.ensures ∙ c.if-not-is_part.false) in
    let changed : change_set c.args.self.now.tree c.in_ok-claim.claim.items c.in-Some.place ≡ false = rw (← c.self.view_is) (rw c.as_slice.ensures.items at (sym c.is_changed_by.ensures ∙ c.if-not-is_changed_by.true)) in
    (save_beside c.args.self.now c.args.session.now c.args.number c.args.path.now c.args.content.now c.in_ok-claim.claim (sym c.in_ok-claim.ensures.decided) c.in-Some.place found part changed, refl)

pub returns-then-not-may_save-clause-told : goal.returns-then-not-may_save-clause-told
returns-then-not-may_save-clause-told g c =
    let found : find_place c.args.self.now.tree c.args.path.now ≡ Some c.in-Some.place = rw (← c.self.view_is) (sym c.in-Some.ensures.found) in
    let part : is_part c.args.self.now.tree c.in-Some.place ≡ true = rw (← c.self.view_is) (sym c.is_part.ensures ∙ c.if-not-is_part.false) in
    let changed : change_set c.args.self.now.tree c.in_ok-claim.claim.items c.in-Some.place ≡ true = rw (← c.self.view_is) (rw c.as_slice.ensures.items at (sym c.is_changed_by.ensures ∙ c.if-not-is_changed_by.false)) in
    (save_too_much c.args.self.now c.args.session.now c.args.number c.args.path.now c.args.content.now c.in_ok-claim.claim (sym c.in_ok-claim.ensures.decided) c.in-Some.place found part changed (sym c.may_save.ensures ∙ c.if-not-may_save.true), refl)

pub returns-in_err-kept-clause-told : goal.returns-in_err-kept-clause-told
returns-in_err-kept-clause-told g c =
    let found : find_place c.args.self.now.tree c.args.path.now ≡ Some c.in-Some.place = rw (← c.self.view_is) (sym c.in-Some.ensures.found) in
    let part : is_part c.args.self.now.tree c.in-Some.place ≡ true = rw (← c.self.view_is) (sym c.is_part.ensures ∙ c.if-not-is_part.false) in
    let changed : change_set c.args.self.now.tree c.in_ok-claim.claim.items c.in-Some.place ≡ true = rw (← c.self.view_is) (rw c.as_slice.ensures.items at (sym c.is_changed_by.ensures ∙ c.if-not-is_changed_by.false)) in
    follows_memory c.args.self.now c.args.self.now c.from_residual-in_err-kept.result _ _ c.from_residual-in_err-kept.ensures.1 (save_done c.args.self.now c.args.session.now c.args.number c.args.path.now c.args.content.now c.in_ok-claim.claim (sym c.in_ok-claim.ensures.decided) c.in-Some.place found part changed (sym c.may_save.ensures ∙ c.if-not-may_save.false)) refl

pub returns-in-Err-clause-told : goal.returns-in-Err-clause-told
returns-in-Err-clause-told g c =
    let found : find_place c.args.self.now.tree c.args.path.now ≡ Some c.in-Some.place = rw (← c.self.view_is) (sym c.in-Some.ensures.found) in
    let part : is_part c.args.self.now.tree c.in-Some.place ≡ true = rw (← c.self.view_is) (sym c.is_part.ensures ∙ c.if-not-is_part.false) in
    let changed : change_set c.args.self.now.tree c.in_ok-claim.claim.items c.in-Some.place ≡ true = rw (← c.self.view_is) (rw c.as_slice.ensures.items at (sym c.is_changed_by.ensures ∙ c.if-not-is_changed_by.false)) in
    (rw (save_done c.args.self.now c.args.session.now c.args.number c.args.path.now c.args.content.now c.in_ok-claim.claim (sym c.in_ok-claim.ensures.decided) c.in-Some.place found part changed (sym c.may_save.ensures ∙ c.if-not-may_save.false)) refl, c.in-Err.ensures.unchanged)

pub returns-clause-told : goal.returns-clause-told
returns-clause-told g c =
    let found : find_place c.args.self.now.tree c.args.path.now ≡ Some c.in-Some.place = rw (← c.self.view_is) (sym c.in-Some.ensures.found) in
    let part : is_part c.args.self.now.tree c.in-Some.place ≡ true = rw (← c.self.view_is) (sym c.is_part.ensures ∙ c.if-not-is_part.false) in
    let changed : change_set c.args.self.now.tree c.in_ok-claim.claim.items c.in-Some.place ≡ true = rw (← c.self.view_is) (rw c.as_slice.ensures.items at (sym c.is_changed_by.ensures ∙ c.if-not-is_changed_by.false)) in
    rw (c.in_ok-kept.ensures, c.in_default-save_draft.ensures.saved) (save_done c.args.self.now c.args.session.now c.args.number c.args.path.now c.args.content.now c.in_ok-claim.claim (sym c.in_ok-claim.ensures.decided) c.in-Some.place found part changed (sym c.may_save.ensures ∙ c.if-not-may_save.false))

pub returns-clause-counts : goal.returns-clause-counts
returns-clause-counts g c = λ bound h. subst (CountsBelow bound) (sym c.in_default-save_draft.ensures.saved) (record { door = h.door; each = h.each })
