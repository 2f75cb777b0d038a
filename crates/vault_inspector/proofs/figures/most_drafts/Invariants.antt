use Rattle.vault_inspector.specs.Figures.{IsGreatest, drafts_at}
use Rattle.vault_inspector.proofs.figures.most_drafts.Given as goal

abbrev pub invariant-loop-position : goal.invariant-loop-position
invariant-loop-position g l = IsGreatest (drafts_at l.book) l.position l.most
