use Rattle.vault_model.proofs.CheckIns.{check_in_keeps_the_weight}
use Rattle.vault_model.proofs.laws.check_in_keeps_the_weight.Goals as goal

pub returns : goal.returns
returns c = check_in_keeps_the_weight
