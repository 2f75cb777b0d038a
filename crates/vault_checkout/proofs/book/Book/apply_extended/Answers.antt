use Rattle.std.proofs.Common.{◌∙◌, ◌++◌, true, false, sym, subst, refl}
use Rattle.std.specs.Prelude.{IsSome}
use Rattle.vault_state.specs.declared.ids.ClaimId.TheVariants.{Long}
use Rattle.vault_state.specs.Claims.{put_first}
use Rattle.vault_state.specs.Vault.{IsVault}
use Rattle.vault_model.specs.After.{drafts_held}
use Rattle.vault_checkout.proofs.Applying.{extended_none, extended_as, held_is_held, extended_there}
use Rattle.vault_checkout.proofs.book.Book.apply_extended.Goals as goal

pub returns-in_default : goal.returns-in_default
returns-in_default g c = (extended_none c.args.self.now c.args.number (sym c.held.ensures.is ∙ c.in_default.is) c.args.items.now, refl)

pub returns-then-not-may_grow : goal.returns-then-not-may_grow
returns-then-not-may_grow g c =
    let claim = held_is_held c.args.self.now c.args.number c.in-Some.claim (sym c.held.ensures.is ∙ c.in-Some.is) in (
      extended_as c.args.self.now c.args.number c.in-Some.claim claim.0 claim.1 c.args.items.now false
          (drafts_held c.args.self.now.tree (put_first c.args.self.now.line (Long c.args.number) (c.in-Some.claim.items ++ c.args.items.now)) c.args.self.now.drafts)
          (rw (← c.self.view_is) (sym c.may_grow.ensures ∙ c.if-not-may_grow.true)) refl,
      refl,
    )

pub stay_held-requires-clause-there : goal.stay_held-requires-clause-there
stay_held-requires-clause-there g c =
    rw c.joined-all.ensures
    (extended_there c.args.self.now c.args.number c.in-Some.claim c.args.items.now (subst IsVault c.self.view_is c.self.invariant.0) (sym c.held.ensures.is ∙ c.in-Some.is) (rw (← c.self.view_is) (sym c.may_grow.ensures ∙ c.if-not-may_grow.false)))

pub returns-then-not-stay_held : goal.returns-then-not-stay_held
returns-then-not-stay_held g c =
    let claim = held_is_held c.args.self.now c.args.number c.in-Some.claim (sym c.held.ensures.is ∙ c.in-Some.is) in (
      extended_as c.args.self.now c.args.number c.in-Some.claim claim.0 claim.1 c.args.items.now true false
          (rw (← c.self.view_is) (sym c.may_grow.ensures ∙ c.if-not-may_grow.false)) (rw c.joined-all.ensures at (sym c.stay_held.ensures ∙ c.if-not-stay_held.true)),
      refl,
    )

pub put_first-requires-clause-there : goal.put_first-requires-clause-there
put_first-requires-clause-there g c =
    rw c.joined-all.ensures
    (extended_there c.args.self.now c.args.number c.in-Some.claim c.args.items.now (subst IsVault c.self.view_is c.self.invariant.0) (sym c.held.ensures.is ∙ c.in-Some.is) (rw (← c.self.view_is) (sym c.may_grow.ensures ∙ c.if-not-may_grow.false)))

pub returns-in-Ok : goal.returns-in-Ok
returns-in-Ok g c =
    let claim = held_is_held c.args.self.now c.args.number c.in-Some.claim (sym c.held.ensures.is ∙ c.in-Some.is) in
    rw (c.in-Ok.ensures.put, c.joined-all.ensures)
    (extended_as c.args.self.now c.args.number c.in-Some.claim claim.0 claim.1 c.args.items.now true true
    (rw (← c.self.view_is) (sym c.may_grow.ensures ∙ c.if-not-may_grow.false)) (rw c.joined-all.ensures at (sym c.stay_held.ensures ∙ c.if-not-stay_held.false)))

pub returns-in-Err : goal.returns-in-Err
returns-in-Err g c =
    let claim = held_is_held c.args.self.now c.args.number c.in-Some.claim (sym c.held.ensures.is ∙ c.in-Some.is) in (
      subst IsSome (sym (extended_as c.args.self.now c.args.number c.in-Some.claim claim.0 claim.1 c.args.items.now true true
          (rw (← c.self.view_is) (sym c.may_grow.ensures ∙ c.if-not-may_grow.false)) (rw c.joined-all.ensures at (sym c.stay_held.ensures ∙ c.if-not-stay_held.false)))) refl,
      c.in-Err.ensures.unchanged,
    )
