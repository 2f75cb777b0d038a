use Rattle.vault_journal.proofs.Sizes.{records_are_short}
use Rattle.vault_journal.proofs.laws.records_are_short.Goals as goal

pub returns : goal.returns
returns c = records_are_short
