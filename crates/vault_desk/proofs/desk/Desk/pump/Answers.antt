use Rattle.std.proofs.Common.{subst, sym, ap, ◌∙◌}
use Rattle.group_commit.specs.Pasts.{IsAnswered}
use Rattle.group_commit.specs.View.{length_of}
use Rattle.vault_desk.specs.AtDesk.{AtDesk}
use Rattle.vault_desk.specs.Pumping.{IsPumped}
use Rattle.vault_desk.proofs.Desks.{pump_keeps}
use Rattle.vault_desk.proofs.Acts.{answered}
use Rattle.vault_desk.proofs.Seeing.{went_call}
use Rattle.vault_desk.proofs.desk.Desk.pump.Goals as goal

pub invariant_of-self : goal.invariant_of-self
invariant_of-self g c =
    let e = c.pump.ensures in
    let k = pump_keeps c.self.inside.vault c.pump.new.self c.pump.result (record { broken = e.broken; answer = e.answer; pumped = e.pumped; failed = e.failed; life = e.life }) in
    (c.self.invariant.0 ∙ sym k.0, c.self.invariant.1 ∙ sym k.1, c.self.invariant.2, c.self.invariant.3, answered g.S.Tally.beginning c.self.inside.vault c.pump.new.self c.self.invariant.4 c.pump.ensures.answered, went_call g.S.Tally.beginning c.self.inside.vault c.pump.new.self c.self.inside.sight c.self.invariant.5 c.pump.ensures.answered)

pub returns-clause-pumped : goal.returns-clause-pumped
returns-clause-pumped g c =
    let e = c.pump.ensures in
    subst (λ (s : AtDesk g.row.D.Denot). IsPumped s.vault c.pump.result c.pump.new.self) c.self.view_is
    (record { broken = e.broken; answer = e.answer; pumped = e.pumped; failed = e.failed; life = e.life })

pub returns-clause-same : goal.returns-clause-same
returns-clause-same g c =
    let e = c.pump.ensures in
    let k = pump_keeps c.self.inside.vault c.pump.new.self c.pump.result (record { broken = e.broken; answer = e.answer; pumped = e.pumped; failed = e.failed; life = e.life }) in (
      k.0 ∙ ap (λ (s : AtDesk g.row.D.Denot). length_of s.vault.view) c.self.view_is,
      k.1 ∙ ap (λ (s : AtDesk g.row.D.Denot). s.vault.view.told) c.self.view_is,
    )

pub returns-clause-answered : goal.returns-clause-answered
returns-clause-answered g c = subst (λ (s : AtDesk g.row.D.Denot). IsAnswered s.vault c.pump.new.self) c.self.view_is c.pump.ensures.answered
