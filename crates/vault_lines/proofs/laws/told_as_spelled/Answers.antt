use Rattle.vault_lines.proofs.Contents.{told_as_spelled}
use Rattle.vault_lines.proofs.laws.told_as_spelled.Goals as goal

pub returns : goal.returns
returns c = told_as_spelled
