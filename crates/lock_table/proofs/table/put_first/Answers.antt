use Rattle.std.specs.Prelude.{◌≡◌, ◌≤◌, ℕ, List, ◌∷◌, ◌++◌, None, map, length, true}
use Rattle.std.proofs.Common.{refl, ap, sym, subst, ◌∙◌, arith}
use Rattle.std.proofs.lemmas.List.{length-map}
use Rattle.std.specs.List.{IsDistinct}
use Rattle.vault_state.specs.Claims.{same_id}
use Rattle.lock_table.specs.declared.entry.Entry.{Entry}
use Rattle.lock_table.specs.Locks.{mode_at}
use Rattle.lock_table.specs.Tables.{IsTable, put_first, entries_without, is_held_in}
use Rattle.lock_queue.specs.Queue.{QueueSeen}
use Rattle.lock_table.specs.Queues.{AreQueues, IsWeighing, is_queued_against, waits_where, requests_at, room_at, request_of, queue_of, blockers_of, blocker_at}
use Rattle.lock_table.proofs.Leaving.{is_id}
use Rattle.lock_table.proofs.Removals.{own_index, index_read}
use Rattle.lock_table.proofs.Blockers.{leave_law, taken_beside}
use Rattle.lock_table.proofs.Waiting.{moved, was_first, were_first, stale_first}
use Rattle.lock_table.proofs.Stale.{weigh_start}
use Rattle.lock_table.proofs.Queuing.{located, requests_count, requests_bound, requests_fewer, one_less, room_without, first_room, put_count, first_kept, apart_first}
use Rattle.lock_table.proofs.table.put_first.Goals as goal

pub unwrap-index-requires : goal.unwrap-index-requires
unwrap-index-requires g c = rw (c.index_of.ensures, c.deref.ensures.value, own_index c.args.id c.args.entries.now.items c.requires.there) refl

pub leave-requires-clause-there : goal.leave-requires-clause-there
leave-requires-clause-there g c =
    let table = c.args.entries.now.items in
    let at = index_read c.args.id table c.deref.result.now _ c.deref.ensures.value (sym c.index_of.ensures ∙ c.unwrap-index.ensures) in
    let inside = (located table c.args.id c.unwrap-index.result at).inside in
    let same = ap length c.deref-2.ensures.value in
    omega (arith, inside, same)

pub leave-requires-clause-table : goal.leave-requires-clause-table
leave-requires-clause-table g c = subst (λ (t : List Entry). IsTable t) (sym c.deref-2.ensures.value) c.requires.table

pub leave-requires-clause-queues : goal.leave-requires-clause-queues
leave-requires-clause-queues g c = λ p. c.reserve.ensures.requests p ∙ (c.requires.queues.requests p ∙ ap (λ (t : List Entry). queue_of t p) (sym c.deref-2.ensures.value))

pub leave-requires-clause-blockers : goal.leave-requires-clause-blockers
leave-requires-clause-blockers g c = c.deref-3.ensures.value ∙ (c.requires.blockers ∙ ap (λ (t : List Entry). blockers_of t) (sym c.deref-2.ensures.value))

pub put_first-requires-clause-room : goal.put_first-requires-clause-room
put_first-requires-clause-room g c =
    let table = c.args.entries.now.items in
    let at = index_read c.args.id table c.deref.result.now _ c.deref.ensures.value (sym c.index_of.ensures ∙ c.unwrap-index.ensures) in
    let left = leave_law table c.deref-2.result.now c.leave.new.queues.items c.args.id c.unwrap-index.result c.deref-2.ensures.value at c.leave.ensures.requests in
    room_without table c.reserve.new.queues.items c.leave.new.queues.items c.args.id c.args.locks (λ p. c.reserve.ensures.requests p ∙ c.requires.queues.requests p) left c.leave.ensures.room c.in_ok-reserve.ensures.there

pub put_first-requires-clause-few : goal.put_first-requires-clause-few
put_first-requires-clause-few g c = λ p.
    let table = c.args.entries.now.items in
    let at = index_read c.args.id table c.deref.result.now _ c.deref.ensures.value (sym c.index_of.ensures ∙ c.unwrap-index.ensures) in
    let left = leave_law table c.deref-2.result.now c.leave.new.queues.items c.args.id c.unwrap-index.result c.deref-2.ensures.value at c.leave.ensures.requests in
    let one = ap length (left p) in
    let bound = requests_bound (is_held_in table) (entries_without table c.args.id) p in
    let less = one_less table c.args.id c.requires.there in
    let few = c.requires.table.few in
    omega (arith, one, bound, less, few)

pub move_first-requires : goal.move_first-requires
move_first-requires g c =
    let table = c.args.entries.now.items in
    let at = index_read c.args.id table c.deref.result.now _ c.deref.ensures.value (sym c.index_of.ensures ∙ c.unwrap-index.ensures) in
    let inside = (located table c.args.id c.unwrap-index.result at).inside in
    omega (arith, inside, c.args.entries.now.ok.0)

pub move_first-requires-2 : goal.move_first-requires-2
move_first-requires-2 g c =
    let table = c.args.entries.now.items in
    let at = index_read c.args.id table c.deref.result.now _ c.deref.ensures.value (sym c.index_of.ensures ∙ c.unwrap-index.ensures) in
    let inside = (located table c.args.id c.unwrap-index.result at).inside in
    let many = ap length c.requires.blockers ∙ length-map table (blocker_at table) in
    omega (arith, inside, many, c.args.blockers.now.ok.0)

pub weigh_again-requires-clause-table : goal.weigh_again-requires-clause-table
weigh_again-requires-clause-table g c =
    let table = c.args.entries.now.items in
    let done = moved table c.deref.result.now c.args.id c.args.locks c.unwrap-index.result c.requires.table.distinct c.deref.ensures.value (sym c.index_of.ensures ∙ c.unwrap-index.ensures) c.move_first.new.items.items c.in_ok-kept.kept c.in_ok-kept.ensures c.move_first.ensures in
    subst (λ (t : List Entry). IsTable t) (sym (c.deref-6.ensures.value ∙ done)) (first_kept table c.args.id c.args.locks c.requires.table c.requires.there)

pub wait_behind-requires-clause-distinct : goal.wait_behind-requires-clause-distinct
wait_behind-requires-clause-distinct g c =
    let table = c.args.entries.now.items in
    let done = moved table c.deref.result.now c.args.id c.args.locks c.unwrap-index.result c.requires.table.distinct c.deref.ensures.value (sym c.index_of.ensures ∙ c.unwrap-index.ensures) c.move_first.new.items.items c.in_ok-kept.kept c.in_ok-kept.ensures c.move_first.ensures in
    let kept = first_kept table c.args.id c.args.locks c.requires.table c.requires.there in
    subst (λ (t : List Entry). IsDistinct same_id (map (λ (e : Entry). e.id) t)) (sym (c.deref-4.ensures.value ∙ done)) kept.distinct

pub wait_behind-requires-clause-many : goal.wait_behind-requires-clause-many
wait_behind-requires-clause-many g c =
    let table = c.args.entries.now.items in
    let at = index_read c.args.id table c.deref.result.now _ c.deref.ensures.value (sym c.index_of.ensures ∙ c.unwrap-index.ensures) in
    let done = moved table c.deref.result.now c.args.id c.args.locks c.unwrap-index.result c.requires.table.distinct c.deref.ensures.value (sym c.index_of.ensures ∙ c.unwrap-index.ensures) c.move_first.new.items.items c.in_ok-kept.kept c.in_ok-kept.ensures c.move_first.ensures in
    let beside = c.move_first-2.ensures ∙ ap (λ xs. None ∷ xs) (taken_beside table c.args.blockers.now.items c.args.id c.unwrap-index.result c.requires.table.distinct at c.requires.blockers) in
    ap length (were_first table c.args.id c.args.locks c.move_first-2.new.items.items beside) ∙ (length-map (put_first table c.args.id c.args.locks) (was_first table c.args.id c.args.locks) ∙ ap length (sym (c.deref-4.ensures.value ∙ done)))

pub weigh_again-requires-clause-weighing : goal.weigh_again-requires-clause-weighing
weigh_again-requires-clause-weighing g c =
    let table = c.args.entries.now.items in
    let at = index_read c.args.id table c.deref.result.now _ c.deref.ensures.value (sym c.index_of.ensures ∙ c.unwrap-index.ensures) in
    let done = moved table c.deref.result.now c.args.id c.args.locks c.unwrap-index.result c.requires.table.distinct c.deref.ensures.value (sym c.index_of.ensures ∙ c.unwrap-index.ensures) c.move_first.new.items.items c.in_ok-kept.kept c.in_ok-kept.ensures c.move_first.ensures in
    let kept = first_kept table c.args.id c.args.locks c.requires.table c.requires.there in
    let now = put_first table c.args.id c.args.locks in
    let queues = c.put_first.new.queues.items in
    let old = was_first table c.args.id c.args.locks in
    let left = leave_law table c.deref-2.result.now c.leave.new.queues.items c.args.id c.unwrap-index.result c.deref-2.ensures.value at c.leave.ensures.requests in
    let beside = c.move_first-2.ensures ∙ ap (λ xs. None ∷ xs) (taken_beside table c.args.blockers.now.items c.args.id c.unwrap-index.result c.requires.table.distinct at c.requires.blockers) in
    let were : c.move_first-2.new.items.items ≡ map old c.deref-4.result.now = were_first table c.args.id c.args.locks c.move_first-2.new.items.items beside ∙ ap (map old) (sym (c.deref-4.ensures.value ∙ done)) in
    let waits : c.wait_behind.new.blockers.items ≡ map (waits_where (is_queued_against queues c.args.locks) c.args.id old) now = c.wait_behind.ensures.wait old were
    ∙ (ap (map (waits_where (is_queued_against c.deref-5.result.now c.args.locks) c.args.id old)) (c.deref-4.ensures.value ∙ done)
    ∙ ap (λ (seen : List QueueSeen). map (waits_where (is_queued_against seen c.args.locks) c.args.id old) now) c.deref-5.ensures.value) in
    subst (λ (t : List Entry). IsWeighing c.args.again t c.wait_behind.new.blockers.items queues 0) (sym (c.deref-6.ensures.value ∙ done))
    (weigh_start c.args.again now c.wait_behind.new.blockers.items queues (stale_first table c.args.id c.args.locks c.args.again queues kept.distinct
    (λ p. c.put_first.ensures.requests p ∙ ap (λ xs. request_of true c.args.id (mode_at c.args.locks p) ++ xs) (left p)) c.requires.enough c.wait_behind.new.blockers.items waits))

pub returns-clause-done : goal.returns-clause-done
returns-clause-done g c =
    let table = c.args.entries.now.items in
    moved table c.deref.result.now c.args.id c.args.locks c.unwrap-index.result c.requires.table.distinct c.deref.ensures.value (sym c.index_of.ensures ∙ c.unwrap-index.ensures) c.move_first.new.items.items c.in_ok-kept.kept c.in_ok-kept.ensures c.move_first.ensures

pub returns-clause-table : goal.returns-clause-table
returns-clause-table g c = subst (λ (t : List Entry). IsTable t) (sym (returns-clause-done g c)) (first_kept c.args.entries.now.items c.args.id c.args.locks c.requires.table c.requires.there)

pub returns-clause-queues : goal.returns-clause-queues
returns-clause-queues g c =
    let table = c.args.entries.now.items in
    let at = index_read c.args.id table c.deref.result.now _ c.deref.ensures.value (sym c.index_of.ensures ∙ c.unwrap-index.ensures) in
    let done : c.move_first.new.items.items ≡ put_first table c.args.id c.args.locks = returns-clause-done g c in
    let left = leave_law table c.deref-2.result.now c.leave.new.queues.items c.args.id c.unwrap-index.result c.deref-2.ensures.value at c.leave.ensures.requests in
    let now = put_first table c.args.id c.args.locks in
    let same : c.deref-6.result.now ≡ now = c.deref-6.ensures.value ∙ done in
    let there = room_without table c.reserve.new.queues.items c.leave.new.queues.items c.args.id c.args.locks (λ p. c.reserve.ensures.requests p ∙ c.requires.queues.requests p) left c.leave.ensures.room c.in_ok-reserve.ensures.there in
    let rest : (p : ℕ) → length (requests_at c.leave.new.queues.items p) ≤ room_at c.leave.new.queues.items p = λ p.
    let one = ap length (left p) in
    let all = ap length (c.requires.queues.requests p) in
    let fewer = requests_fewer (is_held_in table) (is_held_in table) (is_id c.args.id) table p in
    let old = c.requires.queues.room p in
    let a = c.reserve.ensures.room p in
    let b = c.leave.ensures.room p in
    omega (arith, one, all, fewer, old, a, b) in
    let first = first_room c.leave.new.queues.items c.put_first.new.queues.items c.args.locks c.args.id there rest c.put_first.ensures.requests c.put_first.ensures.room in
    subst (λ (t : List Entry). AreQueues t c.weigh_again.new.queues.items) (sym done) (record {
      requests = λ p. c.weigh_again.ensures.queues p ∙ ap (λ (t : List Entry). queue_of t p) same;
      room = λ p.
          let last = ap length (c.weigh_again.ensures.queues p ∙ ap (λ (t : List Entry). queue_of t p) same) in
          let weighed = requests_count (is_held_in now) now p in
          let put = put_count c.put_first.new.queues.items table c.args.id c.args.locks p (c.put_first.ensures.requests p ∙ ap (λ xs. request_of true c.args.id (mode_at c.args.locks p) ++ xs) (left p)) in
          let bound = first p in
          let more = c.weigh_again.ensures.room p in
          omega (arith, last, weighed, put, bound, more);
      apart = apart_first table c.args.id c.args.locks c.requires.queues.apart c.reserve.ensures.apart;
    })

pub returns-clause-blockers : goal.returns-clause-blockers
returns-clause-blockers g c = c.weigh_again.ensures.blockers ∙ ap (λ (t : List Entry). blockers_of t) c.deref-6.ensures.value
