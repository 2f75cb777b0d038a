use Rattle.vault_model.proofs.HeldStays.{held_is_durable}
use Rattle.vault_model.proofs.laws.held_is_durable.Goals as goal

pub returns : goal.returns
returns c = held_is_durable
