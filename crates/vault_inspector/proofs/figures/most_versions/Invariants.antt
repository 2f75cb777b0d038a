use Rattle.vault_inspector.specs.Figures.{IsGreatest, versions_at}
use Rattle.vault_inspector.proofs.figures.most_versions.Given as goal

abbrev pub invariant-loop-place : goal.invariant-loop-place
invariant-loop-place g l = IsGreatest (versions_at l.book) l.place l.most
