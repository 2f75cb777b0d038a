use Rattle.std.proofs.Common.{ap, ◌∙◌, sym, subst, rules}
use Rattle.vault_desk.specs.AtDesk.{AtDesk}
use Rattle.vault_desk.specs.Sights.{seen_by}
use Rattle.vault_desk.proofs.Seeing.{staged_now}
use Rattle.vault_desk.proofs.Leaving.{saw_staged, saw_broken}
use Rattle.vault_desk.proofs.desk.Desk.stage_on.Goals as goal

pub returns-in-Ok-clause-shown : goal.returns-in-Ok-clause-shown
returns-in-Ok-clause-shown g c =
    let e = c.in-Ok.ensures in
    let old = c.args.self.now.vault in
    let view = c.self.inside.vault.view in
    let made = ap (λ (s : AtDesk g.row.D.Denot). s.vault.view) c.self.view_is ∙ e.staged in
    saw_staged (seen_by c.show_to.new.sight) view c.in-Ok.ticket c.show_to.ensures.shown
    (staged_now old.view view old.life c.args.session c.args.command c.in-Ok.ticket made e.ticket)
