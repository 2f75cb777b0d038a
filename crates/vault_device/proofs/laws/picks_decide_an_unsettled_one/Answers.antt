use Rattle.vault_device.proofs.Picks.{picks_decide}
use Rattle.vault_device.proofs.laws.picks_decide_an_unsettled_one.Goals as goal

pub returns : goal.returns
returns c = picks_decide
