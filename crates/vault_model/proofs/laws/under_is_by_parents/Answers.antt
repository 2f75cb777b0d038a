use Rattle.vault_model.proofs.Meetings.{by_parents}
use Rattle.vault_model.proofs.laws.under_is_by_parents.Goals as goal

pub returns : goal.returns
returns c = by_parents
