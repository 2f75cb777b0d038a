use Rattle.vault_model.proofs.Kept.{kept_new, kept_durable}
use Rattle.vault_model.proofs.WellFormed.{step_keeps}
use Rattle.vault_model.proofs.laws.well_formed_stays.Goals as goal

pub returns : goal.returns
returns c = (kept_new, step_keeps, kept_durable)
