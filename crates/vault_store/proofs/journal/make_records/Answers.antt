use Rattle.vault_journal.proofs.OneSpelling.{no_fault_in_a_row}
use Rattle.vault_store.proofs.Made.{none_made}
use Rattle.vault_store.proofs.journal.make_records.Goals as goal

pub returns-in-Err-At-clause-refused : goal.returns-in-Err-At-clause-refused
returns-in-Err-At-clause-refused g c effects next are leads = no_fault_in_a_row effects c.args.records.now _ are (rw c.in-Err-At.field-0-is at c.in-Err-At.ensures.damage)

pub returns-clause-refused : goal.returns-clause-refused
returns-clause-refused g c =
    none_made c.args.records.now c.args.book.now c.deref.result.now c.make_each.result (rw c.deref.ensures.value c.in-Ok.ensures.found) c.make_each.ensures.not_applicable
