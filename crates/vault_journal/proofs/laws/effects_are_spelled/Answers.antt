use Rattle.vault_journal.proofs.OneSpelling.{effects_are_spelled}
use Rattle.vault_journal.proofs.laws.effects_are_spelled.Goals as goal

pub returns : goal.returns
returns c = effects_are_spelled
