use Rattle.std.proofs.Common.{refl}
use Rattle.vault_desk.proofs.sight.Sight.covers.Goals as goal

pub returns-in-None : goal.returns-in-None
returns-in-None g c = λ _. rw c.in-None.is (c.args.self.now, refl)
