use Rattle.vault_model.proofs.CheckIns.{check_in_is_refused}
use Rattle.vault_model.proofs.laws.check_in_is_refused_for_full_parts.Goals as goal

pub returns : goal.returns
returns c = check_in_is_refused
