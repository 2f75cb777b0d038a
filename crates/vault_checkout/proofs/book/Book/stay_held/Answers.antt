use Rattle.vault_checkout.proofs.book.Book.stay_held.Goals as goal

pub each_stays_held-requires-clause-drafts : goal.each_stays_held-requires-clause-drafts
each_stays_held-requires-clause-drafts g c = rw (← c.self.view_is, c.deref.ensures.value) c.self.invariant.0.drafts.each
