use Rattle.std.specs.Prelude.{◌≡◌, not, List, length, map}
use Rattle.std.proofs.Common.{ap, sym, subst, ◌∙◌, arith}
use Rattle.std.proofs.lemmas.List.Elements.{All-filter}
use Rattle.vault_state.specs.Claims.{is_short}
use Rattle.lock_table.specs.declared.entry.Entry.{Entry}
use Rattle.lock_table.specs.declared.again.Again.TheVariants.{BehindShort}
use Rattle.lock_table.specs.Locks.{AreApart}
use Rattle.lock_table.specs.Tables.{IsTable, is_held_in, long_entries}
use Rattle.lock_queue.specs.Queue.{long_requests}
use Rattle.lock_table.specs.Queues.{AreQueues, IsWeighing, queue_of, blocker_at}
use Rattle.lock_table.proofs.Queuing.{requests_bound, requests_fewer}
use Rattle.lock_table.proofs.Leaving.{table_kept}
use Rattle.lock_table.proofs.Shorts.{stale_long}
use Rattle.lock_table.proofs.Stale.{weigh_start}
use Rattle.lock_table.proofs.table.take_short_away.Goals as goal

pub take_short_out-requires : goal.take_short_out-requires
take_short_out-requires g c = λ p.
    let same = ap length (c.requires.queues.requests p) in
    let bound = requests_bound (is_held_in c.args.entries.now.items) c.args.entries.now.items p in
    omega (arith, same, bound, c.requires.table.few)

pub weigh_again-requires-clause-table : goal.weigh_again-requires-clause-table
weigh_again-requires-clause-table g c =
    subst (λ (t : List Entry). IsTable t) (sym (c.deref.ensures.value ∙ c.keep_long.ensures.done)) (table_kept is_short c.args.entries.now.items c.requires.table)

pub weigh_again-requires-clause-weighing : goal.weigh_again-requires-clause-weighing
weigh_again-requires-clause-weighing g c =
    let table = c.args.entries.now.items in
    let done : c.keep_long.new.entries.items ≡ long_entries table = c.keep_long.ensures.done in
    let beside : c.keep_long.new.blockers.items ≡ map (blocker_at table) (long_entries table) = c.keep_long.ensures.beside (blocker_at table) c.requires.blockers ∙ ap (map (blocker_at table)) done in
    let stale = stale_long table c.keep_long.new.blockers.items c.take_short_out.new.queues.items beside (λ p. c.take_short_out.ensures.requests p ∙ ap long_requests (c.requires.queues.requests p)) in
    subst (λ (t : List Entry). IsWeighing BehindShort t c.keep_long.new.blockers.items c.take_short_out.new.queues.items 0) (sym (c.deref.ensures.value ∙ done))
    (weigh_start BehindShort (long_entries table) c.keep_long.new.blockers.items c.take_short_out.new.queues.items stale)

pub returns-clause-table : goal.returns-clause-table
returns-clause-table g c = subst (λ (t : List Entry). IsTable t) (sym c.keep_long.ensures.done) (table_kept is_short c.args.entries.now.items c.requires.table)

pub returns-clause-queues : goal.returns-clause-queues
returns-clause-queues g c =
    let table = c.args.entries.now.items in
    let done : c.keep_long.new.entries.items ≡ long_entries table = c.keep_long.ensures.done in
    subst (λ (t : List Entry). AreQueues t c.weigh_again.new.queues.items) (sym done) (record {
      requests = λ p. c.weigh_again.ensures.queues p ∙ ap (λ (t : List Entry). queue_of t p) (c.deref.ensures.value ∙ done);
      room = λ p.
          let now = ap length (c.weigh_again.ensures.queues p ∙ ap (λ (t : List Entry). queue_of t p) (c.deref.ensures.value ∙ done)) in
          let fewer = requests_fewer (is_held_in (long_entries table)) (is_held_in table) is_short table p in
          let old = ap length (c.requires.queues.requests p) in
          let room = c.requires.queues.room p in
          let more = c.take_short_out.ensures.room p in
          let last = c.weigh_again.ensures.room p in
          omega (arith, now, fewer, old, room, more, last);
      apart = All-filter (λ (e : Entry). not (is_short e.id)) (λ (e : Entry). AreApart e.locks) table c.requires.queues.apart;
    })
