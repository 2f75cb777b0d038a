use Rattle.vault_journal.proofs.OneSpelling.{fields_are_spelled}
use Rattle.vault_journal.proofs.laws.fields_are_spelled.Goals as goal

pub returns : goal.returns
returns c = fields_are_spelled
