use Rattle.vault_store.proofs.TwoVaults.{led, none_led}
use Rattle.vault_pairing.proofs.two_vaults.vault_in.Goals as goal

pub returns-in-Ok-clause-vault : goal.returns-in-Ok-clause-vault
returns-in-Ok-clause-vault g c = λ honest generation head.
    led (g.D.Device.disk c.args.device.now) c.in-Ok.contents.version c.in-Ok.contents.book c.in-Ok.contents.frames c.in-Ok.contents.tail c.in-Ok.contents.journal_length generation c.in-Ok.ensures.contents honest head

pub returns-in-Err-Damaged-clause-vault : goal.returns-in-Err-Damaged-clause-vault
returns-in-Err-Damaged-clause-vault g c = λ honest generation vault leads.
    none_led (g.D.Device.disk c.args.device.now).shown _ generation vault ((rw c.in-Err-Damaged.field-0-is at c.in-Err-Damaged.ensures.refused) honest) leads
