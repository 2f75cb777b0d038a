use Rattle.std.proofs.Common.{◌-◌}
use Rattle.vault_store.proofs.Steps.{AreSteps}
use Rattle.vault_store.proofs.journal.read_frames.Given as goal

abbrev pub invariant-loop-next : goal.invariant-loop-next
invariant-loop-next g l = AreSteps (g.D.Device.disk l.fn.device) (g.D.Device.disk l.device) l.len l.from l.fn.book l.book l.count l.tail

abbrev pub decreases-loop-next : goal.decreases-loop-next
decreases-loop-next g l = l.len - l.tail
