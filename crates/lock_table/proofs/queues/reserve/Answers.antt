use Rattle.std.specs.Prelude.{◌≡◌, ◌<◌, ◌++◌, ◌∷◌, [], List, take, set, length, refl}
use Rattle.std.proofs.Common.{ap, sym, ◌∙◌, subst, get_or, arith}
use Rattle.std.proofs.Math.Nat.{le_trans}
use Rattle.std.proofs.lemmas.List.{take_more, take_all}
use Rattle.lock_queue.specs.declared.queue.Request.{Request}
use Rattle.lock_table.specs.declared.locks.Lock.{Lock}
use Rattle.lock_table.specs.Queues.{requests_at, room_at, HaveRoom}
use Rattle.lock_table.proofs.Putting.{IsChanged, changed, queue_turned, requests_read, requests_set, room_set, same_requests}
use Rattle.lock_table.proofs.Weighing.{all_push, still_room}
use Rattle.lock_table.proofs.queues.reserve.Goals as goal

pub returns-in_err-grow-clause-requests : goal.returns-in_err-grow-clause-requests
returns-in_err-grow-clause-requests g c = λ p. c.grow.ensures.requests p ∙ c.loop-lock.invariant.requests p

pub returns-in_err-reserve-clause-requests : goal.returns-in_err-reserve-clause-requests
returns-in_err-reserve-clause-requests g c = λ p.
    let grown = c.grow.new.queues.items in
    let q = c.lock-item.result.place in
    let inside = subst (λ k. k < length grown) (sym c.number.ensures) (subst (λ n. q < n) c.grow.new.queues.ok.0 c.in_ok-grow.ensures.there) in
    let change = queue_turned grown c.number.result q c.index_mut.result.now c.number.ensures inside c.index_mut.ensures.value
    (λ (requests : List Request). requests) c.reserve.new.self c.reserve.ensures.requests c.reserve.ensures.more in
    same_requests grown (set grown c.number.result c.reserve.new.self) q (requests_at grown q) change refl p ∙ (c.grow.ensures.requests p ∙ c.loop-lock.invariant.requests p)

pub returns-in_err-reserve-clause-room : goal.returns-in_err-reserve-clause-room
returns-in_err-reserve-clause-room g c = λ p.
    let grown = c.grow.new.queues.items in
    let q = c.lock-item.result.place in
    let inside = subst (λ k. k < length grown) (sym c.number.ensures) (subst (λ n. q < n) c.grow.new.queues.ok.0 c.in_ok-grow.ensures.there) in
    let change = queue_turned grown c.number.result q c.index_mut.result.now c.number.ensures inside c.index_mut.ensures.value
    (λ (requests : List Request). requests) c.reserve.new.self c.reserve.ensures.requests c.reserve.ensures.more in
    le_trans (c.loop-lock.invariant.room p) (le_trans (c.grow.ensures.room p) (change.room p))

pub loop-lock-preserved : goal.loop-lock-preserved
loop-lock-preserved g c =
    let items = c.as_slice-lock-items.result.now in
    let i = c.loop-lock.lock-index in
    let l = c.lock-item.result in
    let q = l.place in
    let queues = c.loop-lock.queues.items in
    let grown = c.grow.new.queues.items in
    let queue = c.index_mut.result.now in
    let made = c.reserve.new.self in
    let new = set grown c.number.result made in
    let is = subst (λ k. queue ≡ get_or grown k queue) c.number.ensures c.index_mut.ensures.value in
    let inside : q < length grown = omega (arith, c.in_ok-grow.ensures.there, c.grow.new.queues.ok.0) in
    let change : IsChanged grown new q made.requests = changed grown new q queue made inside (ap (λ k. set grown k made) c.number.ensures) is c.reserve.ensures.more in
    let same = same_requests grown new q made.requests change (c.reserve.ensures.requests ∙ sym (requests_read grown q queue inside is)) in
    let here : length (requests_at new q) < room_at new q =
    let requests = ap length (ap (λ k. requests_at (set grown k made) q) c.number.ensures ∙ requests_set grown q made inside) in
    let room = ap (λ k. room_at (set grown k made) q) c.number.ensures ∙ room_set grown q made inside in
    omega (arith, requests, room, c.in_ok-reserve.ensures.room) in
    let before : HaveRoom new (take i items) = still_room queues new (take i items) (λ p. same p ∙ c.grow.ensures.requests p)
    (λ p. let a = c.grow.ensures.room p in let b = change.room p in omega (arith, a, b)) c.loop-lock.invariant.there in
    record {
      there = subst (λ (xs : List Lock). HaveRoom new xs) (sym (take_more items i l c.loop-lock-test.true ∙ ap (λ x. take i items ++ x ∷ []) (sym c.lock-item.is)))
          (all_push (λ (x : Lock). length (requests_at new x.place) < room_at new x.place) (take i items) l before here);
      requests = λ p. same p ∙ (c.grow.ensures.requests p ∙ c.loop-lock.invariant.requests p);
      room = λ p. let a = c.grow.ensures.room p in let b = change.room p in let d = c.loop-lock.invariant.room p in omega (arith, a, b, d);
    }

pub returns-clause-there : goal.returns-clause-there
returns-clause-there g c =
    subst (λ (xs : List Lock). HaveRoom c.loop-lock.queues.items xs) (take_all c.loop-lock.lock-index c.as_slice-lock-items.result.now c.loop-lock-test.false ∙ c.as_slice-lock-items.ensures.locks) c.loop-lock.invariant.there
