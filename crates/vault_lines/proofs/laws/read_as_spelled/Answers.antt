use Rattle.vault_lines.proofs.WordsFound.{line_found}
use Rattle.vault_lines.proofs.WordsAgain.{line_again}
use Rattle.vault_lines.proofs.laws.read_as_spelled.Goals as goal

pub returns : goal.returns
returns c = λ line command. (line_found line command, line_again line command)
