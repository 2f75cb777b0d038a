use Rattle.std.proofs.Common.{◌∙◌, sym, subst}
use Rattle.group_commit.specs.Calls.{IsForgotten}
use Rattle.group_commit.specs.Pasts.{IsAnswered}
use Rattle.vault_desk.specs.AtDesk.{AtDesk}
use Rattle.vault_desk.proofs.Desks.{forget_keeps}
use Rattle.vault_desk.proofs.Acts.{answered}
use Rattle.vault_desk.proofs.Seeing.{went_call}
use Rattle.vault_desk.proofs.desk.Desk.forget.Goals as goal

pub invariant_of-self : goal.invariant_of-self
invariant_of-self g c =
    let k = forget_keeps c.self.inside.vault c.forget.new.self c.args.ticket c.forget.result c.forget.ensures.closed in
    (c.self.invariant.0 ∙ sym k.0, c.self.invariant.1 ∙ sym k.1, c.self.invariant.2, c.self.invariant.3, answered g.S.Tally.beginning c.self.inside.vault c.forget.new.self c.self.invariant.4 c.forget.ensures.answered, went_call g.S.Tally.beginning c.self.inside.vault c.forget.new.self c.self.inside.sight c.self.invariant.5 c.forget.ensures.answered)

pub returns-clause-closed : goal.returns-clause-closed
returns-clause-closed g c =
    subst (λ (s : AtDesk g.row.D.Denot). IsForgotten s.vault c.forget.new.self c.args.ticket c.forget.result) c.self.view_is c.forget.ensures.closed

pub returns-clause-answered : goal.returns-clause-answered
returns-clause-answered g c = subst (λ (s : AtDesk g.row.D.Denot). IsAnswered s.vault c.forget.new.self) c.self.view_is c.forget.ensures.answered
