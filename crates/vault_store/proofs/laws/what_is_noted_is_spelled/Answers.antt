use Rattle.vault_store.proofs.Exchanged.{noted_spelled}
use Rattle.vault_store.proofs.laws.what_is_noted_is_spelled.Goals as goal

pub returns : goal.returns
returns g c = noted_spelled g.D.Device.disk
