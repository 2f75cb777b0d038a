use Rattle.vault_model.proofs.Durable.{durable_stays}
use Rattle.vault_model.proofs.laws.durable_stays.Goals as goal

pub returns : goal.returns
returns c = durable_stays
