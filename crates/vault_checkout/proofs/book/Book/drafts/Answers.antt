use Rattle.check_outs.proofs.AllDrafts.{drafts_are}
use Rattle.vault_checkout.proofs.book.Book.drafts.Goals as goal

pub returns : goal.returns
returns g c = rw (← c.self.view_is, drafts_are c.args.number c.self.inside.check_outs.items c.self.invariant.2.ascending, ← c.deref.ensures.value) c.drafts_at.ensures
