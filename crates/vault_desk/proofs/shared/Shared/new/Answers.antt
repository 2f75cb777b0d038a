use Rattle.std.proofs.Common.{subst}
use Rattle.group_commit.specs.View.{View}
use Rattle.vault_desk.specs.Acts.{GoesOn}
use Rattle.vault_desk.proofs.Acts.{begins}
use Rattle.vault_desk.proofs.shared.Shared.new.Goals as goal

pub new-desk-requires-clause-acts : goal.new-desk-requires-clause-acts
new-desk-requires-clause-acts g c =
    subst (λ (v : View). GoesOn g.S.Tally.beginning v) c.requires.staged.3 (begins g.S.Tally.beginning)
