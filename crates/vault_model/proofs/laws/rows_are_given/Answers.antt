use Rattle.vault_model.proofs.Rows.{rows}
use Rattle.vault_model.proofs.laws.rows_are_given.Goals as goal

pub returns : goal.returns
returns c = rows
