use Rattle.std.proofs.Common.{◌≡◌, refl}
use Rattle.std.specs.Prelude.{map}
use Rattle.vault_state.specs.Claims.{in_way_of}
use Rattle.long_locks.specs.Lines.{extended_by}
use Rattle.long_locks.proofs.Grown.{grown_itself}
use Rattle.vault_checkout.specs.Seen.{vault_of}
use Rattle.check_outs.specs.Typed.{granted}
use Rattle.vault_checkout.proofs.Agreeing.{saved_granted}
use Rattle.vault_checkout.proofs.Extended.{kept_extended, agrees_extended}
use Rattle.vault_checkout.proofs.Following.{on_error}
use Rattle.vault_checkout.proofs.book.Book.move_first.Goals as goal

pub invariant_of-self-2 : goal.invariant_of-self-2
invariant_of-self-2 g c =
    let way = in_way_of c.self.inside.tree c.self.inside.line.claims c.args.id c.args.items in
    let line = extended_by (in_way_of c.self.inside.tree c.self.inside.line.claims c.args.id c.args.items) c.self.inside.line.claims c.args.id c.args.items in
    let items : c.grant_held.new.check_outs.items ≡ map (granted c.self.inside.tree (extended_by (in_way_of c.self.inside.tree c.self.inside.line.claims c.args.id c.args.items) c.self.inside.line.claims c.args.id c.args.items)) c.self.inside.check_outs.items =
    rw c.in_ok-extension.ensures.extended at c.grant_held.ensures c.self.inside.tree c.self.invariant.0.tree (grown_itself c.self.inside.tree) in
    rw (c.in_ok-extension.ensures.extended, items, saved_granted c.self.inside.tree (extended_by (in_way_of c.self.inside.tree c.self.inside.line.claims c.args.id c.args.items) c.self.inside.line.claims c.args.id c.args.items) c.self.inside.check_outs.items) (
      kept_extended (vault_of c.self.inside) c.self.invariant.0 c.args.id c.args.items (rw (← c.self.view_is) at c.requires.held) (rw (← c.self.view_is) at c.requires.more) c.requires.few (rw (← c.self.view_is) at c.requires.there),
      grown_itself c.self.inside.tree,
      agrees_extended (vault_of c.self.inside) c.self.invariant.0 c.args.id c.args.items (rw (← c.self.view_is) at c.requires.held) c.self.inside.check_outs.items c.self.invariant.2,
    )

pub returns-clause-moved : goal.returns-clause-moved
returns-clause-moved g c =
    let items : c.grant_held.new.check_outs.items ≡ map (granted c.self.inside.tree (extended_by (in_way_of c.self.inside.tree c.self.inside.line.claims c.args.id c.args.items) c.self.inside.line.claims c.args.id c.args.items)) c.self.inside.check_outs.items =
    rw c.in_ok-extension.ensures.extended at c.grant_held.ensures c.self.inside.tree c.self.invariant.0.tree (grown_itself c.self.inside.tree) in
    rw (← c.self.view_is, c.in_ok-extension.ensures.extended, items, saved_granted c.self.inside.tree (extended_by (in_way_of c.self.inside.tree c.self.inside.line.claims c.args.id c.args.items) c.self.inside.line.claims c.args.id c.args.items) c.self.inside.check_outs.items) refl

pub extend-requires-clause-grown : goal.extend-requires-clause-grown
extend-requires-clause-grown g c = c.self.invariant.1

pub extend-requires-clause-items : goal.extend-requires-clause-items
extend-requires-clause-items g c = rw (← c.self.view_is) at c.requires.there

pub extend-requires-clause-held : goal.extend-requires-clause-held
extend-requires-clause-held g c = rw (← c.self.view_is) at c.requires.held

pub invariant_of-self : goal.invariant_of-self
invariant_of-self g c = rw c.in_err-extension.ensures.unchanged c.self.invariant

pub returns-in_err-extension-clause-memory : goal.returns-in_err-extension-clause-memory
returns-in_err-extension-clause-memory g c = rw (← c.self.view_is) (on_error _ c.from_residual.result c.in_err-extension.ensures.memory)

pub returns-in_err-extension-clause-unchanged : goal.returns-in_err-extension-clause-unchanged
returns-in_err-extension-clause-unchanged g c = rw (← c.self.view_is, c.in_err-extension.ensures.unchanged) (on_error _ c.from_residual.result refl)

pub returns-clause-answer : goal.returns-clause-answer
returns-clause-answer g c = rw (← c.self.view_is) c.in_ok-extension.ensures.answer
