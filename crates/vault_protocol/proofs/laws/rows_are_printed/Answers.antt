use Rattle.vault_protocol.proofs.Rows.{rows}
use Rattle.vault_protocol.proofs.laws.rows_are_printed.Goals as goal

pub returns : goal.returns
returns c = rows
