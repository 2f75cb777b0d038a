use Rattle.std.proofs.Common.{refl, sym, subst}
use Rattle.vault_device.specs.MemDevice.{MemDisk, disk_of}
use Rattle.group_commit.specs.Pasts.{AreLeft}
use Rattle.group_commit.proofs.Openings.{own_devices}
use Rattle.test_commits.proofs.vault.past.stopped_in_an_opening.Goals as goal

pub returns : goal.returns
returns g c = λ past p.
    let own = own_devices disk_of c.args.vault c.into_devices-first.result.0 c.into_devices-first.result.1 (record { first = refl; second = refl }) c.into_devices-first.ensures.first c.into_devices-first.ensures.second in
    let given : AreLeft disk_of c.args.vault c.fail_at.new.self c.into_devices-first.result.1 =
    subst (λ (d : MemDisk). AreLeft disk_of c.args.vault d c.into_devices-first.result.1) (sym c.fail_at.ensures) (record { first_honest = refl; second_honest = refl; each = own.each }) in
    c.opened.ensures c.args.vault past (c.crashed-first.ensures c.args.vault (c.in-Err.ensures.refused_stops c.args.vault given).left) p
