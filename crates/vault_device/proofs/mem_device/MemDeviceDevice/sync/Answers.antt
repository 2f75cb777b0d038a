use Rattle.std.proofs.Common.{◌∙◌, ap}
use Rattle.vault_device.specs.Memory.{after_sync}
use Rattle.vault_device.specs.MemDevice.{MemDisk}
use Rattle.vault_device.proofs.Done.{sync_done}
use Rattle.vault_device.proofs.mem_device.MemDeviceDevice.sync.Goals as goal

pub returns-clause-sync : goal.returns-clause-sync
returns-clause-sync g c =
    sync_done c.args.self.now (record { history = c.settle.new.self; calls = c.call.new.self.calls; faults = c.call.new.self.faults; refused = c.call.new.self.refused; failing = c.call.new.self.failing })
    (c.settle.ensures ∙ ap (λ (d : MemDisk). after_sync d.history) c.self.view_is)
