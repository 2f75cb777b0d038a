use Rattle.vault_journal.proofs.OneSpelling.{one_first_fault}
use Rattle.vault_journal.proofs.laws.one_first_fault.Goals as goal

pub returns : goal.returns
returns c = one_first_fault
