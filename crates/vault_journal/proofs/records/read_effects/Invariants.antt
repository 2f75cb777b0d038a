use Rattle.std.proofs.Common.{length}
use Rattle.vault_journal.proofs.OneSpelling.{AreReadTo}
use Rattle.vault_journal.proofs.records.read_effects.Given as goal

abbrev pub invariant-loop-rest : goal.invariant-loop-rest
invariant-loop-rest g l = AreReadTo l.effects.items l.bytes l.rest

abbrev pub decreases-loop-rest : goal.decreases-loop-rest
decreases-loop-rest g l = length l.rest
