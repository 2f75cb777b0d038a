use Rattle.std.proofs.Common.{length, ap, arith}
use Rattle.vault_device.proofs.Since.{leads_up}
use Rattle.vault_device.proofs.memory.leave.Goals as goal

pub refill-requires : goal.refill-requires
refill-requires g c =
    let up = leads_up _ _ c.args.events.now c.requires.leads in
    omega (arith, up, c.args.all.now.ok)

pub refill-requires-in-Bytes : goal.refill-requires-in-Bytes
refill-requires-in-Bytes g c =
    let up = leads_up _ _ c.args.events.now c.requires.leads in
    omega (arith, up, c.args.all.now.ok)

pub returns-in-Old-clause-len : goal.returns-in-Old-clause-len
returns-in-Old-clause-len g c =
    let up = leads_up _ _ c.args.events.now c.requires.leads in
    omega (arith, up, ap length c.refill.ensures.bytes)
