use Rattle.vault_device.proofs.Picks.{filled_or_settled}
use Rattle.vault_device.proofs.laws.a_crash_fills_what_is_unsettled.Goals as goal

pub returns : goal.returns
returns c = filled_or_settled
