-- Each exit: the moments so far, and what may be left now.
use Rattle.std.proofs.Common.{IsTrue}
use Rattle.vault_device.specs.SettledByte.{IsOldOrNew}
use Rattle.vault_device.proofs.Moments.{stands_now}
use Rattle.vault_device.proofs.Gates.{honest_on, to_behind, to_settled, settled_behind, to_opened, all_whole}
use Rattle.test_disk.proofs.device.opening.append_behind.Goals as goal

pub returns-in_err-write_at-clause-any_moment : goal.returns-in_err-write_at-clause-any_moment
returns-in_err-write_at-clause-any_moment g c honest =
    let disk = g.D.Device.disk in
    let lawful = g.met.D.Device.lawful in
    let d0 = disk c.args.device.now in
    let P = IsOldOrNew c.args.gate d0.shown c.args.bytes.now in
    let shut = c.requires.shut honest in
    let d1 = disk c.write_at.new.self in
    let since1 = to_behind c.args.gate c.args.bytes.now _ d0 d1 shut (lawful c.args.device.now honest) (c.write_at.ensures.write honest) in
    since1

pub returns-in_err-write_at-clause-images : goal.returns-in_err-write_at-clause-images
returns-in_err-write_at-clause-images g c honest = stands_now _ _ _ (g.met.D.Device.lawful c.write_at.new.self (honest_on _ _ _ c.write_at.ensures.one_call honest)) (returns-in_err-write_at-clause-any_moment g c honest)

pub returns-in_err-sync-clause-any_moment : goal.returns-in_err-sync-clause-any_moment
returns-in_err-sync-clause-any_moment g c honest =
    let disk = g.D.Device.disk in
    let lawful = g.met.D.Device.lawful in
    let d0 = disk c.args.device.now in
    let P = IsOldOrNew c.args.gate d0.shown c.args.bytes.now in
    let shut = c.requires.shut honest in
    let d1 = disk c.write_at.new.self in
    let since1 = to_behind c.args.gate c.args.bytes.now _ d0 d1 shut (lawful c.args.device.now honest) (c.write_at.ensures.write honest) in
    let h1 : IsTrue d1.honest = honest_on d0 d1 _ c.write_at.ensures.one_call honest in
    let d2 = disk c.sync.new.self in
    let since2 = to_settled P _ d0 d1 d2 (lawful c.write_at.new.self h1) since1 (c.sync.ensures.sync h1) in
    since2

pub returns-in_err-sync-clause-images : goal.returns-in_err-sync-clause-images
returns-in_err-sync-clause-images g c honest = stands_now _ _ _ (g.met.D.Device.lawful c.sync.new.self (honest_on _ _ _ c.sync.ensures.one_call (honest_on _ _ _ c.write_at.ensures.one_call honest))) (returns-in_err-sync-clause-any_moment g c honest)

pub returns-in_err-write_at-2-clause-any_moment : goal.returns-in_err-write_at-2-clause-any_moment
returns-in_err-write_at-2-clause-any_moment g c honest =
    let disk = g.D.Device.disk in
    let lawful = g.met.D.Device.lawful in
    let d0 = disk c.args.device.now in
    let P = IsOldOrNew c.args.gate d0.shown c.args.bytes.now in
    let shut = c.requires.shut honest in
    let d1 = disk c.write_at.new.self in
    let since1 = to_behind c.args.gate c.args.bytes.now _ d0 d1 shut (lawful c.args.device.now honest) (c.write_at.ensures.write honest) in
    let h1 : IsTrue d1.honest = honest_on d0 d1 _ c.write_at.ensures.one_call honest in
    let d2 = disk c.sync.new.self in
    let since2 = to_settled P _ d0 d1 d2 (lawful c.write_at.new.self h1) since1 (c.sync.ensures.sync h1) in
    let h2 : IsTrue d2.honest = honest_on d1 d2 _ c.sync.ensures.one_call h1 in
    let d3 = disk c.write_at-2.new.self in
    let only = settled_behind c.args.gate c.args.bytes.now d0 d1 d2 shut (c.in_ok-write_at.ensures.write honest) (c.in_ok-sync.ensures.sync h1) in
    let since3 = to_opened c.args.gate c.args.bytes.now _ d0 d2 d3 shut only.1 (lawful c.sync.new.self h2) since2 (c.write_at-2.ensures.write h2) in
    since3

pub returns-in_err-write_at-2-clause-images : goal.returns-in_err-write_at-2-clause-images
returns-in_err-write_at-2-clause-images g c honest = stands_now _ _ _ (g.met.D.Device.lawful c.write_at-2.new.self (honest_on _ _ _ c.write_at-2.ensures.one_call (honest_on _ _ _ c.sync.ensures.one_call (honest_on _ _ _ c.write_at.ensures.one_call honest)))) (returns-in_err-write_at-2-clause-any_moment g c honest)

pub returns-clause-any_moment : goal.returns-clause-any_moment
returns-clause-any_moment g c honest =
    let disk = g.D.Device.disk in
    let lawful = g.met.D.Device.lawful in
    let d0 = disk c.args.device.now in
    let P = IsOldOrNew c.args.gate d0.shown c.args.bytes.now in
    let shut = c.requires.shut honest in
    let d1 = disk c.write_at.new.self in
    let since1 = to_behind c.args.gate c.args.bytes.now _ d0 d1 shut (lawful c.args.device.now honest) (c.write_at.ensures.write honest) in
    let h1 : IsTrue d1.honest = honest_on d0 d1 _ c.write_at.ensures.one_call honest in
    let d2 = disk c.sync.new.self in
    let since2 = to_settled P _ d0 d1 d2 (lawful c.write_at.new.self h1) since1 (c.sync.ensures.sync h1) in
    let h2 : IsTrue d2.honest = honest_on d1 d2 _ c.sync.ensures.one_call h1 in
    let d3 = disk c.write_at-2.new.self in
    let only = settled_behind c.args.gate c.args.bytes.now d0 d1 d2 shut (c.in_ok-write_at.ensures.write honest) (c.in_ok-sync.ensures.sync h1) in
    let since3 = to_opened c.args.gate c.args.bytes.now _ d0 d2 d3 shut only.1 (lawful c.sync.new.self h2) since2 (c.write_at-2.ensures.write h2) in
    let h3 : IsTrue d3.honest = honest_on d2 d3 _ c.write_at-2.ensures.one_call h2 in
    let d4 = disk c.sync-2.new.self in
    let since4 = to_settled P _ d0 d3 d4 (lawful c.write_at-2.new.self h3) since3 (c.sync-2.ensures.sync h3) in
    since4

pub returns-clause-images : goal.returns-clause-images
returns-clause-images g c honest = stands_now _ _ _ (g.met.D.Device.lawful c.sync-2.new.self (honest_on _ _ _ c.sync-2.ensures.one_call (honest_on _ _ _ c.write_at-2.ensures.one_call (honest_on _ _ _ c.sync.ensures.one_call (honest_on _ _ _ c.write_at.ensures.one_call honest))))) (returns-clause-any_moment g c honest)

pub returns-clause-done : goal.returns-clause-done
returns-clause-done g c honest =
    let disk = g.D.Device.disk in
    let d0 = disk c.args.device.now in
    let d1 = disk c.write_at.new.self in
    let d2 = disk c.sync.new.self in
    let d3 = disk c.write_at-2.new.self in
    let shut = c.requires.shut honest in
    let h1 = honest_on d0 d1 _ c.write_at.ensures.one_call honest in
    let h2 = honest_on d1 d2 _ c.sync.ensures.one_call h1 in
    let h3 = honest_on d2 d3 _ c.write_at-2.ensures.one_call h2 in
    let behind = settled_behind c.args.gate c.args.bytes.now d0 d1 d2 shut (c.in_ok-write_at.ensures.write honest) (c.in_ok-sync.ensures.sync h1) in
    all_whole c.args.gate c.args.bytes.now _ d0 d2 d3 (disk c.sync-2.new.self) shut behind.0 (c.in_ok-write_at-2.ensures.write h2) (c.sync-2.ensures.sync h3)
