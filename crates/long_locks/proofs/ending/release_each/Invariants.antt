use Rattle.std.proofs.Common.{List}
use Rattle.vault_state.specs.declared.place.Place.{Place}
use Rattle.lock_table.specs.Tables.{IsTableOf}
use Rattle.long_locks.specs.Lines.{left_behind}
use Rattle.long_locks.proofs.ending.release_each.Given as goal

-- the table is of the claims without those that end behind the position
abbrev pub invariant-loop-position : goal.invariant-loop-position
invariant-loop-position g l = (tree : List Place) → IsTableOf tree l.fn.claims.claims l.initial.table
    → IsTableOf tree (left_behind l.ending l.position l.fn.claims.claims) l.table

abbrev pub decreases-loop-position : goal.decreases-loop-position
decreases-loop-position g l = l.position
