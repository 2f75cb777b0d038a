use Rattle.std.proofs.Common.{◌∙◌, sym, ap, subst}
use Rattle.group_commit.specs.View.{length_of}
use Rattle.group_commit.specs.Calls.{IsRetired}
use Rattle.group_commit.specs.Pasts.{IsAnswered}
use Rattle.vault_desk.specs.AtDesk.{AtDesk}
use Rattle.vault_desk.proofs.Acts.{answered}
use Rattle.vault_desk.proofs.Seeing.{went_call}
use Rattle.vault_desk.proofs.desk.Desk.retire.Goals as goal

pub invariant_of-self : goal.invariant_of-self
invariant_of-self g c =
    let k = c.retire.ensures.same in
    (c.self.invariant.0 ∙ sym k.0, c.self.invariant.1 ∙ sym k.1, c.self.invariant.2, c.self.invariant.3, answered g.S.Tally.beginning c.self.inside.vault c.retire.new.self c.self.invariant.4 c.retire.ensures.answered, went_call g.S.Tally.beginning c.self.inside.vault c.retire.new.self c.self.inside.sight c.self.invariant.5 c.retire.ensures.answered)

pub returns-clause-retired : goal.returns-clause-retired
returns-clause-retired g c =
    subst (λ (s : AtDesk g.row.D.Denot). IsRetired s.vault c.retire.new.self c.retire.result) c.self.view_is c.retire.ensures.retired

pub returns-clause-same : goal.returns-clause-same
returns-clause-same g c =
    let k = c.retire.ensures.same in (
      k.0 ∙ ap (λ (s : AtDesk g.row.D.Denot). length_of s.vault.view) c.self.view_is,
      k.1 ∙ ap (λ (s : AtDesk g.row.D.Denot). s.vault.view.told) c.self.view_is,
    )

pub returns-clause-answered : goal.returns-clause-answered
returns-clause-answered g c = subst (λ (s : AtDesk g.row.D.Denot). IsAnswered s.vault c.retire.new.self) c.self.view_is c.retire.ensures.answered
