use Rattle.vault_model.proofs.Durable.{effect_is_the_durable_change}
use Rattle.vault_model.proofs.laws.effect_is_the_durable_change.Goals as goal

pub returns : goal.returns
returns c = effect_is_the_durable_change
