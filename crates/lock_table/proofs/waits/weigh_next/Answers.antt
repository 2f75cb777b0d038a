use Rattle.std.specs.Prelude.{◌≡◌, ◌<◌, false, is_none, length}
use Rattle.std.proofs.Common.{sym, ap, ◌∙◌, arith, rules, length-set}
use Rattle.std.specs.Option.{option_map}
use Rattle.lock_table.specs.declared.entry.Entry.{Entry}
use Rattle.lock_table.proofs.Putting.{read_at}
use Rattle.lock_table.proofs.Stale.{entry_at, keep_step, take_step, entry_there, beside}
use Rattle.lock_table.proofs.waits.weigh_next.Goals as goal

pub returns-then-not-is_taken-clause-weighing : goal.returns-then-not-is_taken-clause-weighing
returns-then-not-is_taken-clause-weighing g c =
    let at = entry_at c.args.entries.now c.args.index c.requires.there in
    let x = c.index.result.now in
    let inside : c.args.index < length c.args.blockers.now.items = omega (arith, c.requires.there, c.requires.many) in
    let no : c.takes-is_taken.result ≡ false = search rules in
    keep_step c.args.again c.args.entries.now c.args.blockers.now.items c.args.queues.now.items c.args.index at.entry c.requires.table.distinct c.requires.there at.is c.requires.weighing x (read_at c.args.blockers.now.items c.args.index x inside c.index.ensures) (sym c.takes-is_taken.ensures ∙ no)

pub weigh_at-requires-clause-requested : goal.weigh_at-requires-clause-requested
weigh_at-requires-clause-requested g c = record { held = λ (e : Entry). is_none (c.requires.weighing.old e); requests = c.requires.weighing.requests }

pub returns-clause-weighing : goal.returns-clause-weighing
returns-clause-weighing g c =
    let at = entry_at c.args.entries.now c.args.index c.requires.there in
    let there = entry_there c.args.again c.args.entries.now c.args.blockers.now.items c.args.queues.now.items c.args.index at.entry c.requires.table.distinct c.requires.there at.is c.requires.weighing in
    let standing = ap (option_map is_none) (beside c.args.again c.args.entries.now c.args.blockers.now.items c.args.queues.now.items c.args.index at.entry c.requires.table.distinct c.requires.there at.is c.requires.weighing) in
    take_step c.args.again c.args.entries.now c.args.blockers.now.items c.args.queues.now.items c.args.index at.entry c.requires.table.distinct c.requires.there at.is c.requires.weighing c.weigh_at.new.blockers.items c.weigh_at.new.queues.items (c.weigh_at.ensures.blockers at.entry there)
    (c.weigh_at.ensures.requests (λ (y : Entry). is_none (c.requires.weighing.old y)) at.entry there standing c.requires.weighing.requests)

pub returns-clause-many : goal.returns-clause-many
returns-clause-many g c =
    let at = entry_at c.args.entries.now c.args.index c.requires.there in
    let there = entry_there c.args.again c.args.entries.now c.args.blockers.now.items c.args.queues.now.items c.args.index at.entry c.requires.table.distinct c.requires.there at.is c.requires.weighing in
    ap length (c.weigh_at.ensures.blockers at.entry there) ∙ (length-set c.args.blockers.now.items c.args.index _ ∙ c.requires.many)
