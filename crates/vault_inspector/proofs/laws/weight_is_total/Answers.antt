use Rattle.vault_inspector.proofs.Weighing.{weight_is_total}
use Rattle.vault_inspector.proofs.laws.weight_is_total.Goals as goal

pub returns : goal.returns
returns c = weight_is_total
