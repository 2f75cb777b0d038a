use Rattle.std.proofs.Common.{refl}
use Rattle.vault_desk.specs.Sights.{seen_by}
use Rattle.vault_desk.proofs.Prefixes.{prefix_self}
use Rattle.vault_desk.proofs.sight.all_seen.Goals as goal

pub returns-in-None-clause-one : goal.returns-in-None-clause-one
returns-in-None-clause-one g c = prefix_self (seen_by c.args.one)

pub returns-in-None-clause-other : goal.returns-in-None-clause-other
returns-in-None-clause-other g c = rw c.in-None.is (seen_by c.args.one, refl)
