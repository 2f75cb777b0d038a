-- What was served, and then flushed, came from the vault that was given, and what its connections came to stands in its history.
use Rattle.std.proofs.Common.{subst}
use Rattle.std.specs.Prelude.{All}
use Rattle.group_commit.specs.View.{View}
use Rattle.vault_sessions.specs.Acts.{GoesOn}
use Rattle.vault_sessions.specs.Reports.{IsServed}
use Rattle.vault_sessions.proofs.Reporting.{went_further}
use Rattle.vault_server.proofs.server.run.Goals as goal

pub returns-in-Ok-gather-clause-acts : goal.returns-in-Ok-gather-clause-acts
returns-in-Ok-gather-clause-acts g c =
    subst (λ first. GoesOn first c.flush.new.vault.view) c.requires.staged.3
    (c.flush.ensures.acts g.S.Tally.beginning c.in-Ok-gather.ensures.acts)

pub returns-in-Ok-gather-clause-served : goal.returns-in-Ok-gather-clause-served
returns-in-Ok-gather-clause-served g c =
    subst (λ (first : View). All (IsServed {A = g.row.A.Denot} first c.flush.new.vault.view) c.in-Some.reports) c.requires.staged.3
    (c.in-Some.ensures.served g.S.Tally.beginning c.flush.new.vault.view
    (went_further g.S.Tally.beginning c.in-Ok-gather.vault.view c.flush.new.vault.view c.in-Ok-gather.sight c.in-Ok-gather.ensures.seen c.flush.ensures.acts))
