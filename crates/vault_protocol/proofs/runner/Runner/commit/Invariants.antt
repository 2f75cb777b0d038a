use Rattle.std.proofs.Common.{◌≡◌}
use Rattle.vault_protocol.specs.Talk.{pumps, pumps_needed, committed}
use Rattle.vault_protocol.proofs.runner.Runner.commit.Given as goal

abbrev pub invariant-loop-self : goal.invariant-loop-self
invariant-loop-self g l = pumps (pumps_needed l.self.view) l.self ≡ committed l.fn.self

abbrev pub decreases-loop-self : goal.decreases-loop-self
decreases-loop-self g l = pumps_needed l.self.view
