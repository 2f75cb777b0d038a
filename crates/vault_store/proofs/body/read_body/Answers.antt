use Rattle.vault_store.proofs.Bodies.{whole_read}
use Rattle.vault_store.proofs.body.read_body.Goals as goal

pub returns-in-Ok-clause-body : goal.returns-in-Ok-clause-body
returns-in-Ok-clause-body g c = λ honest version generation head.
    whole_read (g.D.Device.disk c.args.device.now) c.in-Ok.contents.version c.in-Ok.contents.book c.in-Ok.contents.frames c.in-Ok.contents.tail c.in-Ok.contents.journal_length generation c.in-Ok.ensures.contents honest version head

pub returns-in-Err-Damaged-clause-body : goal.returns-in-Err-Damaged-clause-body
returns-in-Err-Damaged-clause-body g c = λ honest version generation head. (rw c.in-Err-Damaged.field-0-is at c.in-Err-Damaged.ensures.refused) honest version generation head
