use Rattle.std.specs.Prelude.{◌≡◌, take}
use Rattle.lock_table.specs.Tables.{IsTableOf}
use Rattle.long_locks.proofs.from_claims.line_up.Given as goal

abbrev pub invariant-loop-claim : goal.invariant-loop-claim
invariant-loop-claim g l = record {
  claims : l.line.claims ≡ take l.claim-index l.claims;
  table : IsTableOf l.tree (take l.claim-index l.claims) l.table;
}
