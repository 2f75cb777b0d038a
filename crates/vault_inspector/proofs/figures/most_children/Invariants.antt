use Rattle.vault_inspector.specs.Figures.{IsGreatest, children_at}
use Rattle.vault_inspector.proofs.figures.most_children.Given as goal

abbrev pub invariant-loop-place : goal.invariant-loop-place
invariant-loop-place g l = IsGreatest (children_at l.book) l.place l.most
