use Rattle.std.proofs.Common.{◌≡◌, ◌∙◌, true, refl, sym}
use Rattle.vault_model.specs.After.{may_ask, after_asked}
use Rattle.vault_checkout.specs.Seen.{vault_of}
use Rattle.vault_checkout.proofs.Applying.{may_ask_is}
use Rattle.vault_checkout.proofs.book.Book.apply_asked.Goals as goal

pub ask-requires-clause-room : goal.ask-requires-clause-room
ask-requires-clause-room g c = rw (← c.self.view_is) (may_ask_is (vault_of c.self.inside) c.args.number c.args.items.now (sym c.may_ask.ensures ∙ c.if-not-may_ask.false)).room

pub ask-requires-clause-there : goal.ask-requires-clause-there
ask-requires-clause-there g c = rw (← c.self.view_is) (may_ask_is (vault_of c.self.inside) c.args.number c.args.items.now (sym c.may_ask.ensures ∙ c.if-not-may_ask.false)).there

pub returns-in-Ok : goal.returns-in-Ok
unfolding after_asked
returns-in-Ok g c =
    let yes : may_ask (vault_of c.self.inside) c.args.number c.args.items.now ≡ true = sym c.may_ask.ensures ∙ c.if-not-may_ask.false in
    let next = (may_ask_is (vault_of c.self.inside) c.args.number c.args.items.now yes).next in
    rw (c.in-Ok.ensures.asked, ← c.self.view_is, yes, next) refl
