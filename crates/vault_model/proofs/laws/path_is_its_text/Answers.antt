use Rattle.vault_model.proofs.PathTexts.{path_is_its_text}
use Rattle.vault_model.proofs.laws.path_is_its_text.Goals as goal

pub returns : goal.returns
returns c = path_is_its_text
