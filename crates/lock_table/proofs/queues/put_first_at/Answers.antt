use Rattle.std.specs.Prelude.{◌<◌, ◌∷◌, List, length, true}
use Rattle.std.proofs.Common.{sym, subst}
use Rattle.vault_state.specs.Limits.{most_claims}
use Rattle.lock_queue.specs.declared.queue.Request.{Request}
use Rattle.lock_table.specs.Queues.{requests_at, requests_of, room_of}
use Rattle.lock_table.proofs.Putting.{roomy_there, queue_is, queue_turned}
use Rattle.lock_table.proofs.queues.put_first_at.Goals as goal

pub index_mut-requires : goal.index_mut-requires
index_mut-requires g c =
    let queues = c.args.queues.now.items in
    subst (λ n. c.number.result < n) (sym c.args.queues.now.ok.0) (roomy_there queues c.number.result c.args.lock.place (length (requests_at queues c.args.lock.place)) c.number.ensures c.requires.room)

pub put_first-requires : goal.put_first-requires
put_first-requires g c =
    let queues = c.args.queues.now.items in
    let inside = roomy_there queues c.number.result c.args.lock.place (length (requests_at queues c.args.lock.place)) c.number.ensures c.requires.room in
    let is = queue_is queues c.number.result c.args.lock.place c.index_mut.result.now c.number.ensures inside c.index_mut.ensures.value in
    record {
      room = subst (λ o. length (requests_of o) < room_of o) is c.requires.room;
      few = subst (λ o. length (requests_of o) < most_claims) is c.requires.few;
    }

pub returns : goal.returns
returns g c =
    let queues = c.args.queues.now.items in
    let inside = roomy_there queues c.number.result c.args.lock.place (length (requests_at queues c.args.lock.place)) c.number.ensures c.requires.room in
    let request : Request = record { id = c.args.id; mode = c.args.lock.mode; is_held = true } in
    let change = queue_turned queues c.number.result c.args.lock.place c.index_mut.result.now c.number.ensures inside c.index_mut.ensures.value
    (λ (requests : List Request). request ∷ requests) c.put_first.new.self c.put_first.ensures.requests c.put_first.ensures.room in
    record { here = change.here; elsewhere = change.elsewhere; room = change.room }
