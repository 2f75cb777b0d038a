use Rattle.std.specs.Prelude.{◌≡◌, ◌<◌, ◌≤◌, ◌++◌, List, [], length, take, is_none, refl}
use Rattle.std.proofs.Common.{ap, sym, subst, ◌∙◌, arith, rules}
use Rattle.std.proofs.Math.Nat.{le_refl}
use Rattle.std.proofs.lemmas.List.{take_all}
use Rattle.std.proofs.lemmas.List.Elements.{same_from_all_zip}
use Rattle.vault_state.specs.Limits.{most_claims}
use Rattle.lock_table.specs.declared.entry.Entry.{Entry}
use Rattle.lock_queue.specs.declared.queue.Request.{Request}
use Rattle.lock_table.specs.declared.locks.Lock.{Lock}
use Rattle.lock_table.specs.Locks.{mode_at}
use Rattle.lock_table.specs.Tables.{IsTable, first_in_way}
use Rattle.lock_queue.specs.Queue.{QueueSeen}
use Rattle.lock_table.specs.Queues.{AreQueues, requests_at, requests_from, request_of, blockers_of}
use Rattle.lock_table.proofs.Weighing.{found_from, request_few, request_step, admit_law}
use Rattle.lock_table.proofs.Queuing.{put_room_kept, queues_requested}
use Rattle.lock_table.proofs.table.Table.copy.Goals as goal

pub loop-index-init : goal.loop-index-init
loop-index-init g c = rw c.new-queues.ensures.items (record { requests = λ p. refl; room = λ p. le_refl 0 })

pub put_last-requires-clause-room : goal.put_last-requires-clause-room
put_last-requires-clause-room g c = c.in_ok-reserve.ensures.there

pub put_last-requires-clause-few : goal.put_last-requires-clause-few
put_last-requires-clause-few g c = λ p.
    let entries = c.in_ok-entries.entries.items in
    let same : entries ≡ c.self.inside.entries.items = same_from_all_zip _ c.deref.result.now entries c.in_ok-entries.ensures.items (λ x y e. e) ∙ c.deref.ensures.value in
    let kept : IsTable entries = subst (λ (t : List Entry). IsTable t) (sym same) c.self.invariant.0 in
    let inside : c.loop-index.index < length entries = omega (arith, c.loop-index-test.true, c.len-index-end.ensures, c.in_ok-entries.entries.ok.0) in
    let few = request_few entries c.loop-index.queues.items c.loop-index.index c.index-entry.result.now inside c.index-entry.ensures c.loop-index.invariant.requests most_claims kept.few p in
    let requests = ap length (c.reserve.ensures.requests p) in
    omega (arith, few, requests)

pub loop-index-preserved : goal.loop-index-preserved
loop-index-preserved g c =
    let entries = c.in_ok-entries.entries.items in
    let n = c.loop-index.index in
    let e = c.index-entry.result.now in
    let held = c.admit-is_held.result in
    let locks = c.locks-locks.result.now in
    let inside : n < length entries = omega (arith, c.loop-index-test.true, c.len-index-end.ensures, c.in_ok-entries.entries.ok.0) in
    let h : held ≡ is_none (first_in_way (take n entries) e.locks) = c.admit-is_held.ensures
    ∙ (admit_law c.deref-in-loop-index.result.now (take n entries) locks (found_from c.deref-in-loop-index.result.now (take n entries) (λ p. ap (λ (xs : List QueueSeen). requests_at xs p) c.deref-in-loop-index.ensures.value ∙ (c.reserve.ensures.requests p ∙ c.loop-index.invariant.requests p)))
    ∙ ap (λ (ls : List Lock). is_none (first_in_way (take n entries) ls)) c.locks-locks.ensures) in
    record {
      requests = request_step entries c.loop-index.queues.items n e inside c.index-entry.ensures c.loop-index.invariant.requests c.put_last.new.queues.items held h
          (λ p. c.put_last.ensures.requests p ∙ (ap (λ (xs : List Request). xs ++ request_of held c.id.result (mode_at locks p)) (c.reserve.ensures.requests p)
          ∙ (ap (λ k. requests_at c.loop-index.queues.items p ++ request_of held k (mode_at locks p)) c.id.ensures ∙ ap (λ (ls : List Lock). requests_at c.loop-index.queues.items p ++ request_of held e.id (mode_at ls p)) c.locks-locks.ensures)));
      room = put_room_kept c.reserve.new.queues.items c.put_last.new.queues.items locks held c.id.result c.in_ok-reserve.ensures.there
          (λ p. let requests = ap length (c.reserve.ensures.requests p) in let before = c.loop-index.invariant.room p in let after = c.reserve.ensures.room p in omega (arith, requests, before, after))
          c.put_last.ensures.requests c.put_last.ensures.room;
    }

pub invariant_of-result : goal.invariant_of-result
invariant_of-result g c =
    let entries = c.in_ok-entries.entries.items in
    let same : entries ≡ c.self.inside.entries.items = same_from_all_zip _ c.deref.result.now entries c.in_ok-entries.ensures.items (λ x y e. e) ∙ c.deref.ensures.value in
    let kept : IsTable entries = subst (λ (t : List Entry). IsTable t) (sym same) c.self.invariant.0 in
    let beside : c.in_ok-blockers.blockers.items ≡ c.self.inside.blockers.items = search rules in
    let all : length entries ≤ c.loop-index.index = omega (arith, c.loop-index-test.false, c.len-index-end.ensures, c.in_ok-entries.entries.ok.0) in (
      kept,
      queues_requested entries c.loop-index.queues.items kept (λ p. c.loop-index.invariant.requests p ∙ ap (λ (xs : List Entry). requests_from [] xs p) (take_all c.loop-index.index entries all))
          c.loop-index.invariant.room (subst (λ (t : List Entry). AreQueues t c.self.inside.queues.items) (sym same) c.self.invariant.1).apart,
      beside ∙ (c.self.invariant.2 ∙ ap (λ (t : List Entry). blockers_of t) (sym same)),
    )
