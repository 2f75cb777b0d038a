use Rattle.std.proofs.Common.{arith, ◌∙◌}
use Rattle.lock_table.specs.Tables.{AreLocksOf}
use Rattle.long_locks.proofs.Zips.{as_long, zip_asked, none_stands, asked_standing}
use Rattle.long_locks.proofs.line.put_last.Goals as goal

pub ask-requires-clause-new : goal.ask-requires-clause-new
ask-requires-clause-new g c = none_stands c.args.tree.now c.args.claims.now.claims c.args.table.now c.requires.table c.requires.tree c.requires.claims c.args.claim.id c.requires.new

pub ask-requires-clause-room : goal.ask-requires-clause-room
ask-requires-clause-room g c = let same = as_long c.args.tree.now c.args.claims.now.claims c.args.table.now c.requires.table in let room = c.requires.room in omega arith

pub returns-clause-standing : goal.returns-clause-standing
returns-clause-standing g c =
    let are : AreLocksOf c.args.tree.now c.args.claim.items c.lock_set-locks.result = record { apart = c.lock_set-locks.ensures.apart; modes = rw c.as_slice.ensures.items at c.lock_set-locks.ensures.modes } in
    c.in_ok-standing.ensures.standing
    ∙ asked_standing c.args.tree.now c.args.claims.now.claims c.args.table.now c.requires.table c.requires.tree c.requires.claims c.args.claim.items c.lock_set-locks.result c.requires.items are

pub returns-clause-table : goal.returns-clause-table
returns-clause-table g c =
    let are : AreLocksOf c.args.tree.now c.args.claim.items c.lock_set-locks.result = record { apart = c.lock_set-locks.ensures.apart; modes = rw c.as_slice.ensures.items at c.lock_set-locks.ensures.modes } in
    rw (c.put_last.ensures, c.in_ok-kept.ensures, c.reserve_one.ensures.same, c.in_ok-standing.ensures.asked)
    (zip_asked c.args.tree.now c.args.claims.now.claims c.args.table.now c.requires.table c.args.claim c.lock_set-locks.result are)
