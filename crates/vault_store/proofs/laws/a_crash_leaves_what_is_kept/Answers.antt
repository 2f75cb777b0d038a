use Rattle.vault_store.proofs.Left.{crash_leaves, one_gate}
use Rattle.vault_store.proofs.laws.a_crash_leaves_what_is_kept.Goals as goal

pub returns-clause-left : goal.returns-clause-left
returns-clause-left g c = crash_leaves g.D.Device.disk

pub returns-clause-gate : goal.returns-clause-gate
returns-clause-gate g c = one_gate g.D.Device.disk
