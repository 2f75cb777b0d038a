use Rattle.std.proofs.Common.{arith}
use Rattle.vault_device.proofs.Moments.{one_call}
use Rattle.vault_journal.proofs.Images.{behind, untouched}
use Rattle.vault_journal.proofs.body.write_body.Goals as goal

pub write_at-requires-clause-begin : goal.write_at-requires-clause-begin
write_at-requires-clause-begin g c honest =
    let lawful = g.met.D.Device.lawful c.args.device.now honest in
    omega (arith, (c.requires.closed honest _ lawful.read).stands)

pub returns-clause-moments : goal.returns-clause-moments
returns-clause-moments g c honest =
    let old = g.D.Device.disk c.args.device.now in
    let write = c.write_at.ensures.write honest in
    let closed = c.requires.closed honest in
    one_call old _ _ _ (g.met.D.Device.lawful c.args.device.now honest) write.time (λ x image. untouched c.args.gate old x closed image) (λ x torn. behind c.args.gate _ old x closed torn)

pub returns-clause-images : goal.returns-clause-images
returns-clause-images g c honest x image =
    let old = g.D.Device.disk c.args.device.now in
    let write = c.write_at.ensures.write honest in
    behind c.args.gate _ old x (c.requires.closed honest) (write.images x image)
