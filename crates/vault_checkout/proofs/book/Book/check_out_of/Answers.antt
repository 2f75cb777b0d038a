use Rattle.std.specs.Option.{option_copied}
use Rattle.vault_checkout.proofs.Agreeing.{stands_found, found_number, found_typed, found_drafts}
use Rattle.vault_checkout.proofs.book.Book.check_out_of.Goals as goal

pub returns-clause-well_formed : goal.returns-clause-well_formed
returns-clause-well_formed g c = rw (← c.self.view_is) c.self.invariant.0

pub returns-clause-stands : goal.returns-clause-stands
returns-clause-stands g c = rw (← c.self.view_is) (stands_found c.self.inside.tree c.self.inside.line.claims c.self.inside.check_outs.items c.self.invariant.2 c.args.number (option_copied c.check_out_at.result) (rw c.deref.ensures.value at c.check_out_at.ensures))

pub returns-clause-number : goal.returns-clause-number
returns-clause-number g c = found_number c.self.inside.tree c.self.inside.line.claims c.self.inside.check_outs.items c.self.invariant.2 c.args.number (option_copied c.check_out_at.result) (rw c.deref.ensures.value at c.check_out_at.ensures)

pub returns-clause-typed : goal.returns-clause-typed
returns-clause-typed g c = rw (← c.self.view_is) (found_typed c.self.inside.tree c.self.inside.line.claims c.self.inside.check_outs.items c.self.invariant.2 c.args.number (option_copied c.check_out_at.result) (rw c.deref.ensures.value at c.check_out_at.ensures))

pub returns-clause-drafts : goal.returns-clause-drafts
returns-clause-drafts g c = rw (← c.self.view_is) (found_drafts c.self.inside.tree c.self.inside.line.claims c.self.inside.check_outs.items c.self.invariant.2 c.args.number (option_copied c.check_out_at.result) (rw c.deref.ensures.value at c.check_out_at.ensures))
