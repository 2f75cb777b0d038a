use Rattle.std.proofs.Common.{◌≡◌, ◌≤◌, take}
use Rattle.std.specs.Prelude.{count_by}
use Rattle.vault_state.specs.declared.claims.Claim.{Claim}
use Rattle.vault_state.specs.Claims.{standing_of}
use Rattle.vault_inspector.specs.Figures.{stands}
use Rattle.vault_inspector.proofs.figures.standing_count.Given as goal

abbrev pub invariant-loop-position : goal.invariant-loop-position
invariant-loop-position g l = record {
  counted : l.count ≡ count_by (λ (c : Claim). stands l.held (standing_of l.book.tree l.book.line c.id)) (take l.position l.book.line);
  few : l.count ≤ l.position;
}
