use Rattle.vault_journal.proofs.Behind.{then}
use Rattle.vault_journal.proofs.records.put_claim.Goals as goal

pub returns : goal.returns
returns c = then _ _ _ _ _ _ _ _ c.put_u8-at.ensures c.put_u32.ensures
