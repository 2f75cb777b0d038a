use Rattle.std.proofs.Common.{length, ap, ◌∙◌}
use Rattle.vault_store.proofs.InPieces.{whole_read}
use Rattle.vault_store.proofs.snapshot.read_whole.Goals as goal

pub returns-in-Ok-clause-book : goal.returns-in-Ok-clause-book
returns-in-Ok-clause-book g c =
    whole_read (g.D.Device.disk c.args.device.now) c.args.version c.args.count c.deref.result.now c.in-Ok.book (ap length c.deref.ensures.value ∙ c.in_ok-bytes.ensures.size)
    (λ honest. c.deref.ensures.value ∙ c.in_ok-bytes.ensures.bytes honest) c.in-Ok.ensures.ok.0 c.in-Ok.ensures.ok.1
