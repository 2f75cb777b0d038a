use Rattle.vault_state.proofs.Shelves.{weight-shelved_all}
use Rattle.part_versions.proofs.laws.weights_add_up.Goals as goal

pub returns : goal.returns
returns c = weight-shelved_all
