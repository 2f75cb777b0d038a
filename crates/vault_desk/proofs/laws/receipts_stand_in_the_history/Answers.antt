use Rattle.vault_desk.proofs.Seeing.{seen_is_acknowledged}
use Rattle.vault_desk.proofs.Standing.{acknowledged_stands}
use Rattle.vault_desk.proofs.laws.receipts_stand_in_the_history.Goals as goal

pub returns : goal.returns
returns c = record { seen = seen_is_acknowledged; stands = acknowledged_stands }
