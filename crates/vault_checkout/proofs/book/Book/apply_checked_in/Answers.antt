use Rattle.std.proofs.Common.{◌∙◌, true, false, sym, subst, refl}
use Rattle.std.specs.Prelude.{IsSome}
use Rattle.vault_checkout.proofs.Applying.{checked_in_none, checked_in_as, held_is_held}
use Rattle.vault_checkout.proofs.book.Book.apply_checked_in.Goals as goal

pub returns-in_default : goal.returns-in_default
returns-in_default g c = (checked_in_none c.args.self.now c.args.number (sym c.held.ensures.is ∙ c.in_default.is), refl)

pub returns-in-Ok : goal.returns-in-Ok
returns-in-Ok g c =
    let claim = held_is_held c.args.self.now c.args.number c.in-Some.field-0 (sym c.held.ensures.is ∙ c.in-Some.is) in
    rw c.in-Ok.ensures.closed (checked_in_as c.args.self.now c.args.number c.in-Some.field-0 claim.0 claim.1 true c.in-Ok.ensures.allowed)

pub returns-in-Err-Refused : goal.returns-in-Err-Refused
returns-in-Err-Refused g c =
    let claim = held_is_held c.args.self.now c.args.number c.in-Some.field-0 (sym c.held.ensures.is ∙ c.in-Some.is) in
    (checked_in_as c.args.self.now c.args.number c.in-Some.field-0 claim.0 claim.1 false (rw c.in-Err-Refused.field-0-is at c.in-Err-Refused.ensures.refused).1, c.in-Err-Refused.ensures.unchanged)

pub returns-in-Err-OutOfMemory : goal.returns-in-Err-OutOfMemory
returns-in-Err-OutOfMemory g c =
    let claim = held_is_held c.args.self.now c.args.number c.in-Some.field-0 (sym c.held.ensures.is ∙ c.in-Some.is) in
    (subst IsSome (sym (checked_in_as c.args.self.now c.args.number c.in-Some.field-0 claim.0 claim.1 true (rw c.in-Err-OutOfMemory.field-0-is at c.in-Err-OutOfMemory.ensures.refused))) refl, c.in-Err-OutOfMemory.ensures.unchanged)
