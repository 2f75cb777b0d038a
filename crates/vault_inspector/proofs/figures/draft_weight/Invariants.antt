use Rattle.std.proofs.Common.{◌≡◌, take}
use Rattle.std.specs.Prelude.{sum_by}
use Rattle.vault_state.specs.declared.claims.Claim.{Claim}
use Rattle.vault_inspector.specs.Figures.{own_weight}
use Rattle.vault_inspector.proofs.figures.draft_weight.Given as goal

abbrev pub invariant-loop-position : goal.invariant-loop-position
invariant-loop-position g l = record {
  counted : l.total ≡ sum_by (λ (c : Claim). own_weight l.book.drafts c.id) (take l.position l.book.line);
}
