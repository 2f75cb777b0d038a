use Rattle.vault_model.proofs.Meetings.{symmetric}
use Rattle.vault_model.proofs.laws.overlap_is_symmetric.Goals as goal

pub returns : goal.returns
returns c = symmetric
