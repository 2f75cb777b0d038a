use Rattle.vault_journal.proofs.Behind.{then}
use Rattle.vault_journal.proofs.writing.put_content.Goals as goal

pub returns : goal.returns
returns c = then _ _ _ _ _ _ _ _ c.put_u16-at.ensures c.put_bytes.ensures
