use Rattle.std.proofs.Common.{◌-◌, ◌<◌, ◌≤◌, length}
use Rattle.vault_format.specs.Snapshot.{current_version}
use Rattle.vault_store.specs.Calls.{IsQuiet}
use Rattle.vault_store.specs.Read.{AreReads}
use Rattle.vault_store.specs.Front.{IsFrontRead}
use Rattle.vault_store.proofs.snapshot.pieces.read_front.Given as goal

abbrev pub invariant-loop-device : goal.invariant-loop-device
invariant-loop-device g l = record {
  reads : AreReads (g.D.Device.disk l.fn.device) (g.D.Device.disk l.device);
  quiet : IsQuiet (g.D.Device.disk l.fn.device) (g.D.Device.disk l.device);
  front : IsFrontRead (g.D.Device.disk l.fn.device) current_version l.from l.front.tree l.front.shelf l.front.at;
  within : l.front.at ≤ l.extent.end;
  few : 0 < l.extent.count → length l.front.tree < l.extent.count;
}

abbrev pub decreases-loop-device : goal.decreases-loop-device
decreases-loop-device g l = l.extent.end - l.front.at
