use Rattle.vault_journal.proofs.Behind.{then}
use Rattle.vault_journal.proofs.records.put_given.Goals as goal

pub returns : goal.returns
returns c = then _ _ _ _ _ _ _ _ c.put_claim-at.ensures c.put_name.ensures
