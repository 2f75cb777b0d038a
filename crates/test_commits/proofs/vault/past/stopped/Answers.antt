use Rattle.std.proofs.Common.{refl}
use Rattle.vault_device.specs.MemDevice.{disk_of}
use Rattle.group_commit.proofs.Openings.{own_devices}
use Rattle.test_commits.proofs.vault.past.stopped.Goals as goal

pub returns : goal.returns
returns g c = λ past p.
    c.opened.ensures c.args.vault past
    (c.crashed-first.ensures c.args.vault (own_devices disk_of c.args.vault c.into_devices-first.result.0 c.into_devices-first.result.1 (record { first = refl; second = refl }) c.into_devices-first.ensures.first c.into_devices-first.ensures.second)) p
