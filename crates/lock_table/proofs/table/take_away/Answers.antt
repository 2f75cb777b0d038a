use Rattle.std.specs.Prelude.{◌≡◌, List, length}
use Rattle.std.proofs.Common.{ap, sym, subst, ◌∙◌, arith}
use Rattle.std.proofs.lemmas.List.{length-map}
use Rattle.lock_table.specs.declared.entry.Entry.{Entry}
use Rattle.lock_table.specs.declared.again.Again.TheVariants.{Behind}
use Rattle.lock_table.specs.Tables.{IsTable, entries_without, is_held_in}
use Rattle.lock_table.specs.Queues.{AreQueues, IsWeighing, queue_of, blockers_of, blocker_at}
use Rattle.lock_table.proofs.Leaving.{is_id, table_kept}
use Rattle.lock_table.proofs.Blockers.{leave_law, taken_out, taken_beside, weighing_left}
use Rattle.lock_table.proofs.Queuing.{located, requests_fewer, apart_without}
use Rattle.lock_table.proofs.table.take_away.Goals as goal

pub leave-requires-clause-there : goal.leave-requires-clause-there
leave-requires-clause-there g c =
    let inside = (located c.args.entries.now.items c.args.id c.args.index c.requires.there).inside in
    let same = ap length c.deref.ensures.value in
    omega (arith, inside, same)

pub leave-requires-clause-table : goal.leave-requires-clause-table
leave-requires-clause-table g c = subst (λ (t : List Entry). IsTable t) (sym c.deref.ensures.value) c.requires.table

pub leave-requires-clause-queues : goal.leave-requires-clause-queues
leave-requires-clause-queues g c = λ p. c.requires.queues.requests p ∙ ap (λ (t : List Entry). queue_of t p) (sym c.deref.ensures.value)

pub leave-requires-clause-blockers : goal.leave-requires-clause-blockers
leave-requires-clause-blockers g c = c.deref-2.ensures.value ∙ (c.requires.blockers ∙ ap (λ (t : List Entry). blockers_of t) (sym c.deref.ensures.value))

pub remove-requires : goal.remove-requires
remove-requires g c =
    let inside = (located c.args.entries.now.items c.args.id c.args.index c.requires.there).inside in
    omega (arith, inside, c.args.entries.now.ok.0)

pub remove-requires-2 : goal.remove-requires-2
remove-requires-2 g c =
    let inside = (located c.args.entries.now.items c.args.id c.args.index c.requires.there).inside in
    let many = ap length c.requires.blockers ∙ length-map c.args.entries.now.items (blocker_at c.args.entries.now.items) in
    omega (arith, inside, many, c.args.blockers.now.ok.0)

pub weigh_again-requires-clause-table : goal.weigh_again-requires-clause-table
weigh_again-requires-clause-table g c =
    let table = c.args.entries.now.items in
    let done : c.remove.new.self.items ≡ entries_without table c.args.id = c.remove.ensures.items ∙ taken_out table c.args.id c.args.index c.requires.table.distinct c.requires.there in
    subst (λ (t : List Entry). IsTable t) (sym (c.deref-3.ensures.value ∙ done)) (table_kept (is_id c.args.id) table c.requires.table)

pub weigh_again-requires-clause-weighing : goal.weigh_again-requires-clause-weighing
weigh_again-requires-clause-weighing g c =
    let table = c.args.entries.now.items in
    let done : c.remove.new.self.items ≡ entries_without table c.args.id = c.remove.ensures.items ∙ taken_out table c.args.id c.args.index c.requires.table.distinct c.requires.there in
    let beside = c.remove-2.ensures.items ∙ taken_beside table c.args.blockers.now.items c.args.id c.args.index c.requires.table.distinct c.requires.there c.requires.blockers in
    let left = leave_law table c.deref.result.now c.leave.new.queues.items c.args.id c.args.index c.deref.ensures.value c.requires.there c.leave.ensures.requests in
    subst (λ (t : List Entry). IsWeighing (Behind c.args.id) t c.remove-2.new.self.items c.leave.new.queues.items c.args.index) (sym (c.deref-3.ensures.value ∙ done))
    (weighing_left table c.args.id c.args.index c.requires.table.distinct c.requires.there c.remove-2.new.self.items c.leave.new.queues.items beside left)

pub returns-clause-done : goal.returns-clause-done
returns-clause-done g c = c.remove.ensures.items ∙ taken_out c.args.entries.now.items c.args.id c.args.index c.requires.table.distinct c.requires.there

pub returns-clause-table : goal.returns-clause-table
returns-clause-table g c =
    let table = c.args.entries.now.items in
    let done : c.remove.new.self.items ≡ entries_without table c.args.id = c.remove.ensures.items ∙ taken_out table c.args.id c.args.index c.requires.table.distinct c.requires.there in
    subst (λ (t : List Entry). IsTable t) (sym done) (table_kept (is_id c.args.id) table c.requires.table)

pub returns-clause-queues : goal.returns-clause-queues
returns-clause-queues g c =
    let table = c.args.entries.now.items in
    let done : c.remove.new.self.items ≡ entries_without table c.args.id = c.remove.ensures.items ∙ taken_out table c.args.id c.args.index c.requires.table.distinct c.requires.there in
    let same : c.deref-3.result.now ≡ c.remove.new.self.items = c.deref-3.ensures.value in
    subst (λ (t : List Entry). AreQueues t c.weigh_again.new.queues.items) (sym done) (record {
      requests = λ p. c.weigh_again.ensures.queues p ∙ ap (λ (t : List Entry). queue_of t p) (same ∙ done);
      room = λ p.
          let now = ap length (c.weigh_again.ensures.queues p ∙ ap (λ (t : List Entry). queue_of t p) (same ∙ done)) in
          let fewer = requests_fewer (is_held_in (entries_without table c.args.id)) (is_held_in table) (is_id c.args.id) table p in
          let old = ap length (c.requires.queues.requests p) in
          let room = c.requires.queues.room p in
          let more = c.leave.ensures.room p in
          let last = c.weigh_again.ensures.room p in
          omega (arith, now, fewer, old, room, more, last);
      apart = apart_without table c.args.id c.requires.queues.apart;
    })

pub returns-clause-blockers : goal.returns-clause-blockers
returns-clause-blockers g c = c.weigh_again.ensures.blockers ∙ ap (λ (t : List Entry). blockers_of t) c.deref-3.ensures.value
