use Rattle.vault_model.proofs.SecondSaves.{second_save_replaces}
use Rattle.vault_model.proofs.laws.second_save_replaces.Goals as goal

pub returns : goal.returns
returns c = second_save_replaces
