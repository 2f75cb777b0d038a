use Rattle.std.proofs.Common.{◌≡◌, ◌*◌, ◌^◌, ◌≤◌, take}
use Rattle.std.specs.Prelude.{sum_by}
use Rattle.vault_state.specs.declared.claims.Claim.{Claim}
use Rattle.vault_inspector.specs.Counts.{own_drafts}
use Rattle.vault_inspector.proofs.counts.draft_count.Given as goal

abbrev pub invariant-loop-position : goal.invariant-loop-position
invariant-loop-position g l = record {
  counted : l.total ≡ sum_by (λ (c : Claim). own_drafts l.book.drafts c.id) (take l.position l.book.line);
  few : l.total ≤ l.position * 2 ^ 64;
}
