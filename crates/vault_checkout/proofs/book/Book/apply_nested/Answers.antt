use Rattle.std.proofs.Common.{◌∙◌, sym}
use Rattle.vault_checkout.specs.Seen.{vault_of}
use Rattle.vault_checkout.proofs.Applying.{may_make_is}
use Rattle.vault_checkout.proofs.book.Book.apply_nested.Goals as goal

pub add_place-requires-clause-fresh : goal.add_place-requires-clause-fresh
add_place-requires-clause-fresh g c = rw (← c.self.view_is) (may_make_is (vault_of c.self.inside) c.args.parent c.args.name (sym c.may_make.ensures ∙ c.if-not-may_make.false)).fresh

pub add_place-requires-clause-room : goal.add_place-requires-clause-room
add_place-requires-clause-room g c = rw (← c.self.view_is) (may_make_is (vault_of c.self.inside) c.args.parent c.args.name (sym c.may_make.ensures ∙ c.if-not-may_make.false)).room

pub add_place-requires-clause-kind : goal.add_place-requires-clause-kind
add_place-requires-clause-kind g c =
    rw (← c.self.view_is) (c.may_nest_under.ensures.may_have c.if-not-may_nest_under.false (may_make_is (vault_of c.self.inside) c.args.parent c.args.name (sym c.may_make.ensures ∙ c.if-not-may_make.false)).kind)
