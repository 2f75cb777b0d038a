use Rattle.vault_checkout.proofs.Agreeing.{open_held}
use Rattle.vault_checkout.proofs.book.Book.may_save.Goals as goal

pub may_save-requires-clause-held : goal.may_save-requires-clause-held
may_save-requires-clause-held g c = rw c.deref.ensures.value (open_held c.self.inside.tree c.self.inside.line.claims c.self.inside.check_outs.items c.self.invariant.2 c.args.number (rw (← c.self.view_is) at c.requires))
