use Rattle.vault_model.proofs.Counts.{step_rises}
use Rattle.vault_model.proofs.laws.counts_rise.Goals as goal

pub returns : goal.returns
returns c = step_rises
