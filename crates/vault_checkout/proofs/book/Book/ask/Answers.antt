use Rattle.std.proofs.Common.{◌≡◌, ◌+◌, ◌++◌, ◌∷◌, [], refl, Some}
use Rattle.vault_state.specs.Claims.{standing_behind}
use Rattle.vault_model.proofs.Kept.{kept_asked_long}
use Rattle.long_locks.proofs.Grown.{grown_itself}
use Rattle.check_outs.specs.declared.any.AnyCheckOut.TheVariants.{Waiting}
use Rattle.vault_checkout.specs.Seen.{vault_of}
use Rattle.check_outs.specs.Typed.{granted_if, is_held_standing}
use Rattle.vault_checkout.proofs.Agreeing.{agrees_asked, saved_asked}
use Rattle.vault_checkout.proofs.Following.{on_error}
use Rattle.vault_checkout.proofs.book.Book.ask.Goals as goal

pub invariant_of-self-2 : goal.invariant_of-self-2
invariant_of-self-2 g c =
    let items : c.put_last.new.check_outs.items ≡ c.self.inside.check_outs.items ++ granted_if (is_held_standing (Some (standing_behind c.self.inside.tree c.self.inside.line.claims c.args.items.now))) (Waiting (record { number = c.self.inside.line.last_long + 1; state = tt })) ∷ [] =
    rw (c.in_ok-standing.ensures.standing, c.last_long.ensures, c.in_ok-standing.ensures.asked, c.reserve.ensures.items) at c.put_last.ensures in
    let whole = rw (← c.self.view_is) at c.requires.there in
    rw (c.in_ok-standing.ensures.asked, items, saved_asked c.self.inside.check_outs.items (is_held_standing (Some (standing_behind c.self.inside.tree c.self.inside.line.claims c.args.items.now))) (c.self.inside.line.last_long + 1)) (
      kept_asked_long (vault_of c.self.inside) c.self.invariant.0 c.args.designer c.args.items.now (rw (← c.self.view_is) at c.requires.number) (rw (← c.self.view_is) at c.requires.room) c.requires.some c.requires.few whole,
      grown_itself c.self.inside.tree,
      agrees_asked (vault_of c.self.inside) c.self.invariant.0 c.self.inside.check_outs.items c.self.invariant.2 c.args.designer c.args.items.now,
    )

pub returns-clause-asked : goal.returns-clause-asked
returns-clause-asked g c =
    let items : c.put_last.new.check_outs.items ≡ c.self.inside.check_outs.items ++ granted_if (is_held_standing (Some (standing_behind c.self.inside.tree c.self.inside.line.claims c.args.items.now))) (Waiting (record { number = c.self.inside.line.last_long + 1; state = tt })) ∷ [] =
    rw (c.in_ok-standing.ensures.standing, c.last_long.ensures, c.in_ok-standing.ensures.asked, c.reserve.ensures.items) at c.put_last.ensures in
    rw (← c.self.view_is, c.in_ok-standing.ensures.asked, items, saved_asked c.self.inside.check_outs.items (is_held_standing (Some (standing_behind c.self.inside.tree c.self.inside.line.claims c.args.items.now))) (c.self.inside.line.last_long + 1)) refl

pub ask_long-requires-clause-grown : goal.ask_long-requires-clause-grown
ask_long-requires-clause-grown g c = c.self.invariant.1

pub ask_long-requires-clause-room : goal.ask_long-requires-clause-room
ask_long-requires-clause-room g c = rw (← c.self.view_is) at c.requires.room

pub ask_long-requires-clause-number : goal.ask_long-requires-clause-number
ask_long-requires-clause-number g c = rw (← c.self.view_is) at c.requires.number

pub ask_long-requires-clause-items : goal.ask_long-requires-clause-items
ask_long-requires-clause-items g c = rw (← c.self.view_is) at c.requires.there

pub invariant_of-self : goal.invariant_of-self
invariant_of-self g c = rw c.reserve.ensures.items c.self.invariant

pub returns-in_err-reserve-clause-unchanged : goal.returns-in_err-reserve-clause-unchanged
returns-in_err-reserve-clause-unchanged g c = rw (← c.self.view_is, c.reserve.ensures.items) (on_error _ c.from_residual.result refl)

pub invariant_of-self-in_err-standing : goal.invariant_of-self-in_err-standing
invariant_of-self-in_err-standing g c = rw (c.in_err-standing.ensures.unchanged, c.reserve.ensures.items) c.self.invariant

pub returns-in_err-standing-clause-unchanged : goal.returns-in_err-standing-clause-unchanged
returns-in_err-standing-clause-unchanged g c = rw (← c.self.view_is, c.in_err-standing.ensures.unchanged, c.reserve.ensures.items) (on_error _ c.from_residual-in_err-standing.result refl)

pub returns-clause-standing : goal.returns-clause-standing
returns-clause-standing g c = rw (← c.self.view_is) c.in_ok-standing.ensures.standing
