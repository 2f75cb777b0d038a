use Rattle.vault_format.proofs.Heads.{four_spelled}
use Rattle.vault_store.proofs.journal.number_in.Goals as goal

pub returns : goal.returns
returns c = four_spelled c.args.bytes.now c.from_be_bytes.result c.told-bytes c.fits-bytes c.from_be_bytes.ensures
