use Rattle.vault_journal.proofs.OneSpelling.{one_row}
use Rattle.vault_journal.proofs.laws.one_row.Goals as goal

pub returns : goal.returns
returns c = one_row
