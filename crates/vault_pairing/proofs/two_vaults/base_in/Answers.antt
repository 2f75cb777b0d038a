use Rattle.std.proofs.Common.{length, refl}
use Rattle.vault_store.proofs.TwoVaults.{based, none_based}
use Rattle.vault_pairing.proofs.two_vaults.base_in.Goals as goal

pub returns-in-Ok-clause-base : goal.returns-in-Ok-clause-base
returns-in-Ok-clause-base g c = λ honest generation head.
    based (g.D.Device.disk c.args.device.now) (length (g.D.Device.disk c.args.device.now).shown) c.in-Ok.base.version c.in-Ok.base.book c.in-Ok.base.end generation (c.in-Ok.ensures.base honest) honest refl head

pub returns-in-Err-Damaged-clause-base : goal.returns-in-Err-Damaged-clause-base
returns-in-Err-Damaged-clause-base g c = λ honest generation base is.
    none_based generation (g.D.Device.disk c.args.device.now).shown base is _ ((rw c.in-Err-Damaged.field-0-is at c.in-Err-Damaged.ensures.refused) honest)
