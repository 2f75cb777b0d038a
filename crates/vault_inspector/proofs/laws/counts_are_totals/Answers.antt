use Rattle.vault_inspector.proofs.Counting.{counts_are_totals}
use Rattle.vault_inspector.proofs.laws.counts_are_totals.Goals as goal

pub returns : goal.returns
returns c = counts_are_totals
