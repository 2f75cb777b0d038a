use Rattle.vault_desk.specs.Sights.{seen_by}
use Rattle.vault_desk.proofs.Leaving.{saw_last}
use Rattle.vault_desk.proofs.desk.Desk.show_to.Goals as goal

pub returns-clause-shown : goal.returns-clause-shown
returns-clause-shown g c =
    let (before, is) = c.show-shown.ensures.shown in
    saw_last before c.show-shown.result (seen_by c.add_to.new.sight) c.args.self.now.vault.view is c.add_to.ensures.more
