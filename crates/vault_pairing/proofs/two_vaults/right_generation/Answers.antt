use Rattle.vault_store.proofs.TwoVaults.{shut_head, damaged_head}
use Rattle.vault_pairing.proofs.two_vaults.right_generation.Goals as goal

pub returns-in-Closed-clause-generation : goal.returns-in-Closed-clause-generation
returns-in-Closed-clause-generation g c = λ honest. shut_head (g.D.Device.disk c.args.device.now).shown ((rw c.in-Closed.is at c.in_ok-read_head.ensures.head) honest)

pub returns-in-Damaged-clause-generation : goal.returns-in-Damaged-clause-generation
returns-in-Damaged-clause-generation g c = λ honest. damaged_head (g.D.Device.disk c.args.device.now).shown _ ((rw c.in-Damaged.is at c.in_ok-read_head.ensures.head) honest)
