use Rattle.std.specs.Prelude.{◌≡◌, Option, map}
use Rattle.vault_state.specs.declared.ids.ClaimId.{ClaimId}
use Rattle.std.specs.Vec.{vec_len}
use Rattle.lock_table.specs.declared.entry.Entry.{Entry}
use Rattle.lock_table.proofs.Shorts.{IsThinning}
use Rattle.lock_table.proofs.table.keep_long.Given as goal

abbrev pub invariant-loop-index : goal.invariant-loop-index
invariant-loop-index g l = record {
  thinning : IsThinning l.fn.entries.items l.entries.items l.index;
  beside : (old : Entry → Option ClaimId) → l.fn.blockers.items ≡ map old l.fn.entries.items → l.blockers.items ≡ map old l.entries.items;
  many : vec_len l.blockers ≡ vec_len l.entries;
}

abbrev pub decreases-loop-index : goal.decreases-loop-index
decreases-loop-index g l = l.index
