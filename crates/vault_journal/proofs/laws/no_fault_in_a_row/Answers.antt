use Rattle.vault_journal.proofs.OneSpelling.{no_fault_in_a_row}
use Rattle.vault_journal.proofs.laws.no_fault_in_a_row.Goals as goal

pub returns : goal.returns
returns c = no_fault_in_a_row
