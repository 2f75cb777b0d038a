use Rattle.std.specs.Prelude.{Result, Ok, Err, OnErr}
use Rattle.std.proofs.Common.{refl, ap, sym, ◌∙◌}
use Rattle.lock_table.specs.Tables.{extension_by, held_in_way}
use Rattle.lock_table.proofs.Lines.{standing_law}
use Rattle.long_locks.specs.Lines.{in_way_of}
use Rattle.long_locks.proofs.Extensions.{locks_read, in_way_read, is_done, is_in_way, zip_first}
use Rattle.vault_state.proofs.Stays.{held_there}
use Rattle.long_locks.proofs.line.extend.Goals as goal

on_error : {T E : Type 0} (P : Type 0) (r : Result T E) → P → OnErr r P
on_error P (Ok x) p = tt
on_error P (Err e) p = p

pub extend-requires : goal.extend-requires
extend-requires g c = record { held = standing_law c.args.tree.now c.requires.tree c.args.claims.now.claims c.args.table.now c.requires.table c.requires.claims c.args.id ∙ c.requires.held }

pub returns-in-Done-clause-answer : goal.returns-in-Done-clause-answer
returns-in-Done-clause-answer g c =
    let law = in_way_read c.args.tree.now c.requires.tree c.args.claims.now.claims c.args.table.now c.requires.table c.requires.claims c.args.id c.args.items c.as_slice.result.now c.lock_set-locks.result c.requires.items c.as_slice.ensures.items c.lock_set-locks.ensures.apart c.lock_set-locks.ensures.modes in
    sym c.in-Done.is ∙ (c.in_ok-extend.ensures.answer ∙ ap extension_by law)

pub returns-in-Done-clause-extended : goal.returns-in-Done-clause-extended
returns-in-Done-clause-extended g c = rw (is_done (in_way_of c.args.tree.now c.args.claims.now.claims c.args.id c.args.items) (returns-in-Done-clause-answer g c), c.put_first.ensures) refl

pub returns-in-Done-clause-table : goal.returns-in-Done-clause-table
returns-in-Done-clause-table g c =
    let are = locks_read c.args.tree.now c.args.items c.as_slice.result.now c.lock_set-locks.result c.as_slice.ensures.items c.lock_set-locks.ensures.apart c.lock_set-locks.ensures.modes in
    let none = is_done (held_in_way c.args.table.now c.args.id c.lock_set-locks.result) (sym c.in-Done.is ∙ c.in_ok-extend.ensures.answer) in
    rw (c.put_first.ensures, rw none at c.in_ok-extend.ensures.extended)
    (zip_first c.args.tree.now c.args.claims.now.claims c.args.table.now c.requires.table c.args.id c.args.items c.lock_set-locks.result are (held_there c.args.tree.now c.args.claims.now.claims c.args.id c.requires.held))

pub returns-in-InTheWay-clause-answer : goal.returns-in-InTheWay-clause-answer
returns-in-InTheWay-clause-answer g c =
    let law = in_way_read c.args.tree.now c.requires.tree c.args.claims.now.claims c.args.table.now c.requires.table c.requires.claims c.args.id c.args.items c.as_slice.result.now c.lock_set-locks.result c.requires.items c.as_slice.ensures.items c.lock_set-locks.ensures.apart c.lock_set-locks.ensures.modes in
    sym c.in-InTheWay.is ∙ (c.in_ok-extend.ensures.answer ∙ ap extension_by law)

pub returns-in-InTheWay-clause-extended : goal.returns-in-InTheWay-clause-extended
returns-in-InTheWay-clause-extended g c = rw (is_in_way (in_way_of c.args.tree.now c.args.claims.now.claims c.args.id c.args.items) c.in-InTheWay.other (returns-in-InTheWay-clause-answer g c)) refl

pub returns-in_err-extend-clause-memory : goal.returns-in_err-extend-clause-memory
returns-in_err-extend-clause-memory g c =
    let law = in_way_read c.args.tree.now c.requires.tree c.args.claims.now.claims c.args.table.now c.requires.table c.requires.claims c.args.id c.args.items c.as_slice.result.now c.lock_set-locks.result c.requires.items c.as_slice.ensures.items c.lock_set-locks.ensures.apart c.lock_set-locks.ensures.modes in
    on_error _ c.from_residual.result (sym law ∙ c.in_err-extend.ensures.memory)
