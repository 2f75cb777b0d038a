use Rattle.vault_model.proofs.WaysBack.{path_leads_back}
use Rattle.vault_model.proofs.laws.path_leads_back.Goals as goal

pub returns : goal.returns
returns c = path_leads_back
