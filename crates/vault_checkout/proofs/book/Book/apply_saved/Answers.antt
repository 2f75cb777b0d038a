use Rattle.vault_state.specs.Drafts.{new_draft}
use Rattle.std.proofs.Common.{◌≡◌, ◌∙◌, Some, true, false, sym, subst, refl}
use Rattle.std.specs.Prelude.{nat_le, ◌&&◌, length, IsSome}
use Rattle.vault_state.specs.Tree.{is_part}
use Rattle.vault_state.specs.Claims.{change_set}
use Rattle.vault_model.specs.Step.{may_save}
use Rattle.vault_state.proofs.Overlaps.{and_both}
use Rattle.vault_checkout.proofs.Applying.{saved_none, saved_as, held_is_held}
use Rattle.vault_checkout.proofs.book.Book.apply_saved.Goals as goal

pub returns-in_default : goal.returns-in_default
returns-in_default g c = (saved_none c.args.self.now c.args.number (sym c.held.ensures.is ∙ c.in_default.is) c.args.place c.args.content.now, refl)

pub returns-then-not-may_change : goal.returns-then-not-may_change
returns-then-not-may_change g c =
    let claim = held_is_held c.args.self.now c.args.number c.in-Some.claim (sym c.held.ensures.is ∙ c.in-Some.is) in (
      saved_as c.args.self.now c.args.number c.in-Some.claim claim.0 claim.1 c.args.place c.args.content.now false (may_save c.args.self.now (new_draft c.args.number c.args.place c.args.content.now))
          (rw (← c.self.view_is) (sym c.may_change.ensures ∙ c.if-not-may_change.true)) refl,
      refl,
    )

pub returns-then-not-may_save : goal.returns-then-not-may_save
returns-then-not-may_save g c =
    let claim = held_is_held c.args.self.now c.args.number c.in-Some.claim (sym c.held.ensures.is ∙ c.in-Some.is) in (
      saved_as c.args.self.now c.args.number c.in-Some.claim claim.0 claim.1 c.args.place c.args.content.now true false
          (rw (← c.self.view_is) (sym c.may_change.ensures ∙ c.if-not-may_change.false)) (sym c.may_save.ensures ∙ c.if-not-may_save.true),
      refl,
    )

pub save_draft-requires-clause-changed : goal.save_draft-requires-clause-changed
save_draft-requires-clause-changed g c = λ other at.
    let claim = held_is_held c.args.self.now c.args.number c.in-Some.claim (sym c.held.ensures.is ∙ c.in-Some.is) in
    let same : c.in-Some.claim ≡ other = let both : Some c.in-Some.claim ≡ Some other = sym claim.0 ∙ at in cc in
    let tests = and_both (nat_le c.args.place (length c.self.inside.tree) && is_part c.self.inside.tree c.args.place) (change_set c.self.inside.tree c.in-Some.claim.items c.args.place) (sym c.may_change.ensures ∙ c.if-not-may_change.false) in
    rw (← c.self.view_is, ← same) tests.1

pub save_draft-requires-clause-part : goal.save_draft-requires-clause-part
save_draft-requires-clause-part g c =
    let tests = and_both (nat_le c.args.place (length c.self.inside.tree) && is_part c.self.inside.tree c.args.place) (change_set c.self.inside.tree c.in-Some.claim.items c.args.place) (sym c.may_change.ensures ∙ c.if-not-may_change.false) in
    rw (← c.self.view_is) (and_both (nat_le c.args.place (length c.self.inside.tree)) (is_part c.self.inside.tree c.args.place) tests.0).1

pub returns-in-Ok : goal.returns-in-Ok
returns-in-Ok g c =
    let claim = held_is_held c.args.self.now c.args.number c.in-Some.claim (sym c.held.ensures.is ∙ c.in-Some.is) in
    rw c.in-Ok.ensures.saved
    (saved_as c.args.self.now c.args.number c.in-Some.claim claim.0 claim.1 c.args.place c.args.content.now true true
    (rw (← c.self.view_is) (sym c.may_change.ensures ∙ c.if-not-may_change.false)) (sym c.may_save.ensures ∙ c.if-not-may_save.false))

pub returns-in-Err : goal.returns-in-Err
returns-in-Err g c =
    let claim = held_is_held c.args.self.now c.args.number c.in-Some.claim (sym c.held.ensures.is ∙ c.in-Some.is) in (
      subst IsSome (sym (saved_as c.args.self.now c.args.number c.in-Some.claim claim.0 claim.1 c.args.place c.args.content.now true true
          (rw (← c.self.view_is) (sym c.may_change.ensures ∙ c.if-not-may_change.false)) (sym c.may_save.ensures ∙ c.if-not-may_save.false))) refl,
      c.in-Err.ensures.unchanged,
    )
