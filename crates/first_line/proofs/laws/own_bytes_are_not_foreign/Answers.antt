use Rattle.first_line.proofs.Own.{own_bytes}
use Rattle.first_line.proofs.laws.own_bytes_are_not_foreign.Goals as goal

pub returns : goal.returns
returns c = own_bytes
