use Rattle.vault_sessions.specs.Sights.{seen_by}
use Rattle.vault_sessions.proofs.Reporting.{all_served}
use Rattle.vault_server.proofs.account.Account.of_vault.Goals as goal

pub returns-then-covers-clause-served : goal.returns-then-covers-clause-served
returns-then-covers-clause-served g c = λ old new went.
    all_served old new (seen_by c.self.inside.sight) c.args.sight.now c.self.inside.reports (c.covers.ensures c.if-covers.true) went c.self.invariant
