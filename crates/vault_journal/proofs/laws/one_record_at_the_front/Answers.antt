use Rattle.vault_journal.proofs.OneSpelling.{one_record_at_the_front}
use Rattle.vault_journal.proofs.laws.one_record_at_the_front.Goals as goal

pub returns : goal.returns
returns c = one_record_at_the_front
