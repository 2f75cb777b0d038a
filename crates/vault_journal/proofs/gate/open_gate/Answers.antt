use Rattle.vault_device.proofs.Moments.{one_call}
use Rattle.vault_journal.proofs.Images.{opens, opens_none, same_but}
use Rattle.vault_journal.proofs.gate.open_gate.Goals as goal
use Rattle.vault_device.proofs.Gates.{honest_on}

pub returns-clause-moments : goal.returns-clause-moments
returns-clause-moments g c honest =
    let old = g.D.Device.disk c.args.device.now in
    let write = c.write_at.ensures.write honest in
    let stands = c.requires.stands honest in
    let only = c.requires.settled honest in
    one_call old _ _ _ (g.met.D.Device.lawful c.args.device.now honest) write.time (λ x image. opens_none c.args.gate old x stands only image) (λ x torn. opens c.args.gate old x stands only torn)

pub returns-clause-images : goal.returns-clause-images
returns-clause-images g c honest x image =
    let old = g.D.Device.disk c.args.device.now in
    let write = c.write_at.ensures.write honest in
    opens c.args.gate old x (c.requires.stands honest) (c.requires.settled honest) (write.images x image)

pub returns-clause-read : goal.returns-clause-read
returns-clause-read g c honest x image =
    let old = g.D.Device.disk c.args.device.now in
    let new = g.D.Device.disk c.write_at.new.self in
    let write = c.write_at.ensures.write honest in
    let stands = c.requires.stands honest in
    let only = c.requires.settled honest in
    let lawful = g.met.D.Device.lawful c.write_at.new.self (honest_on old new _ c.write_at.ensures.one_call honest) in
    same_but c.args.gate old.shown x new.shown (opens c.args.gate old x stands only (write.images x image)).same (opens c.args.gate old new.shown stands only (write.images new.shown lawful.read)).same
