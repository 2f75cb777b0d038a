use Rattle.std.proofs.Common.{◌≡◌, ◌∙◌, sym, ap, subst}
use Rattle.std.specs.Prelude.{OnErr}
use Rattle.group_commit.specs.World.{StartSnapshot}
use Rattle.group_commit.specs.View.{length_of, view_acted}
use Rattle.group_commit.specs.Seen.{snapshot_length}
use Rattle.group_commit.specs.Calls.{MayStart}
use Rattle.group_commit.specs.Pasts.{IsAnswered}
use Rattle.vault_desk.specs.AtDesk.{AtDesk}
use Rattle.vault_desk.proofs.Desks.{start_keeps, same_desk, same_on_error}
use Rattle.vault_desk.proofs.Acts.{answered}
use Rattle.vault_desk.proofs.Seeing.{went_call}
use Rattle.vault_desk.proofs.desk.Desk.start_snapshot.Goals as goal

pub invariant_of-self : goal.invariant_of-self
invariant_of-self g c =
    let k = start_keeps c.self.inside.vault c.start_snapshot.new.self c.start_snapshot.result c.start_snapshot.ensures.started c.start_snapshot.ensures.not_now c.start_snapshot.ensures.refused in
    (c.self.invariant.0 ∙ sym k.0, c.self.invariant.1 ∙ sym k.1, c.self.invariant.2, c.self.invariant.3, answered g.S.Tally.beginning c.self.inside.vault c.start_snapshot.new.self c.self.invariant.4 c.start_snapshot.ensures.answered, went_call g.S.Tally.beginning c.self.inside.vault c.start_snapshot.new.self c.self.inside.sight c.self.invariant.5 c.start_snapshot.ensures.answered)

pub returns-clause-started : goal.returns-clause-started
returns-clause-started g c = λ begun.
    subst (λ (s : AtDesk g.row.D.Denot). c.start_snapshot.new.self.view ≡ view_acted snapshot_length s.vault.view StartSnapshot) c.self.view_is
    (c.start_snapshot.ensures.started begun)

pub returns-clause-may : goal.returns-clause-may
returns-clause-may g c = λ begun. subst (λ (s : AtDesk g.row.D.Denot). MayStart s.vault) c.self.view_is (c.start_snapshot.ensures.may begun)

pub returns-clause-may_not : goal.returns-clause-may_not
returns-clause-may_not g c = λ refused. subst (λ (s : AtDesk g.row.D.Denot). MayStart s.vault → ⊥) c.self.view_is (c.start_snapshot.ensures.may_not refused)

pub returns-clause-not_now : goal.returns-clause-not_now
returns-clause-not_now g c = λ refused.
    same_desk c.self.inside.vault c.start_snapshot.new.self c.self.inside.closed c.self.inside.waits.count c.args.self.now (c.start_snapshot.ensures.not_now refused) c.self.view_is

pub returns-clause-refused : goal.returns-clause-refused
returns-clause-refused g c =
    same_on_error c.start_snapshot.result c.self.inside.vault c.start_snapshot.new.self c.self.inside.closed c.self.inside.waits.count c.args.self.now c.start_snapshot.ensures.refused c.self.view_is

pub returns-clause-memory : goal.returns-clause-memory
returns-clause-memory g c =
    subst (λ (s : AtDesk g.row.D.Denot). OnErr c.start_snapshot.result (MayStart s.vault)) c.self.view_is c.start_snapshot.ensures.memory

pub returns-clause-same : goal.returns-clause-same
returns-clause-same g c =
    let k = start_keeps c.self.inside.vault c.start_snapshot.new.self c.start_snapshot.result c.start_snapshot.ensures.started c.start_snapshot.ensures.not_now c.start_snapshot.ensures.refused in (
      k.0 ∙ ap (λ (s : AtDesk g.row.D.Denot). length_of s.vault.view) c.self.view_is,
      k.1 ∙ ap (λ (s : AtDesk g.row.D.Denot). s.vault.view.told) c.self.view_is,
    )

pub returns-clause-answered : goal.returns-clause-answered
returns-clause-answered g c = subst (λ (s : AtDesk g.row.D.Denot). IsAnswered s.vault c.start_snapshot.new.self) c.self.view_is c.start_snapshot.ensures.answered
