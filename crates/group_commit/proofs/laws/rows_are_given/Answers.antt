use Rattle.group_commit.proofs.Rows.{rows}
use Rattle.group_commit.proofs.laws.rows_are_given.Goals as goal

pub returns : goal.returns
returns c = rows
