use Rattle.std.proofs.Common.{List, length}
use Rattle.vault_model.specs.Said.{Effect}
use Rattle.vault_journal.proofs.OneSpelling.{AreReadTo}
use Rattle.vault_journal.proofs.records.first_fault.Given as goal

abbrev pub invariant-loop-rest : goal.invariant-loop-rest
invariant-loop-rest g l = (effects : List Effect) × AreReadTo effects l.bytes l.rest

abbrev pub decreases-loop-rest : goal.decreases-loop-rest
decreases-loop-rest g l = length l.rest
