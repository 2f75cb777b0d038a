use Rattle.std.specs.Prelude.{slice_get}
use Rattle.std.proofs.Common.{sym, ap, ◌∙◌}
use Rattle.std.specs.Option.{option_map, option_and_then}
use Rattle.lock_table.specs.declared.entry.Entry.{Entry}
use Rattle.lock_table.specs.Tables.{first_in_way}
use Rattle.lock_table.proofs.Weighing.{admit_law, found_by}
use Rattle.lock_table.proofs.Queuing.{way_id, none_is}
use Rattle.lock_table.proofs.waits.first_behind.Goals as goal

pub returns-then-admit : goal.returns-then-admit
returns-then-admit g c =
    let found = found_by c.args.queues.now c.args.entries.now c.requires.requested.held c.requires.requested.requests in
    none_is (first_in_way c.args.entries.now c.args.locks.now) (sym (admit_law c.args.queues.now c.args.entries.now c.args.locks.now found) ∙ (sym c.admit.ensures ∙ c.if-admit.true))

pub returns : goal.returns
returns g c =
    c.id_at.ensures ∙ (ap (option_and_then (λ i. option_map (λ (e : Entry). e.id) (slice_get c.args.entries.now i))) c.in_way.ensures
    ∙ way_id c.args.queues.now c.args.entries.now c.args.locks.now c.requires.distinct (found_by c.args.queues.now c.args.entries.now c.requires.requested.held c.requires.requested.requests))
