use Rattle.vault_lines.proofs.WordsAgain as again
use Rattle.vault_lines.proofs.laws.one_command.Goals as goal

pub returns : goal.returns
returns c = again.one_command
