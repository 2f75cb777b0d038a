use Rattle.vault_model.proofs.HeldStays.{held_are_apart}
use Rattle.vault_model.proofs.laws.held_are_apart.Goals as goal

pub returns : goal.returns
returns c = held_are_apart
