use Rattle.std.proofs.Common.{subst}
use Rattle.vault_desk.specs.AtDesk.{AtDesk}
use Rattle.vault_desk.specs.Acts.{GoesOn}
use Rattle.vault_desk.proofs.desk.Desk.flushed.Goals as goal

pub returns-then-is_broken-clause-came : goal.returns-then-is_broken-clause-came
returns-then-is_broken-clause-came g c = subst (λ (s : AtDesk g.row.D.Denot). GoesOn g.S.Tally.beginning s.vault.view) c.self.view_is c.self.invariant.4

pub returns-then-is_settled-clause-came : goal.returns-then-is_settled-clause-came
returns-then-is_settled-clause-came g c = subst (λ (s : AtDesk g.row.D.Denot). GoesOn g.S.Tally.beginning s.vault.view) c.self.view_is c.self.invariant.4

pub returns-clause-came : goal.returns-clause-came
returns-clause-came g c = subst (λ (s : AtDesk g.row.D.Denot). GoesOn g.S.Tally.beginning s.vault.view) c.self.view_is c.self.invariant.4
