use Rattle.std.specs.Prelude.{◌≤◌, ◌<◌, length, refl}
use Rattle.std.proofs.Common.{ap, sym, ◌∙◌, subst}
use Rattle.vault_state.specs.Limits.{most_claims}
use Rattle.lock_queue.specs.Queue.{restood}
use Rattle.lock_table.specs.Queues.{requests_of, room_at}
use Rattle.lock_table.proofs.Putting.{past_there, no_less, queue_is, queue_requests_turned}
use Rattle.lock_table.proofs.queues.stand_at.Goals as goal

pub returns-then-index-len : goal.returns-then-index-len
returns-then-index-len g c =
    let queues = c.args.queues.now.items in
    let none = past_there queues c.number-index.result c.args.place c.number-index.ensures (subst (λ n. n ≤ c.number-index.result) (c.len.ensures ∙ c.args.queues.now.ok.0) c.if-index-len.true) in
    record {
      here = none ∙ ap (restood c.args.id c.args.is_held) (sym none);
      elsewhere = λ p differ. refl;
      room = λ p. no_less (room_at queues p) (room_at queues p) refl;
    }

pub stand-requires : goal.stand-requires
stand-requires g c =
    let queues = c.args.queues.now.items in
    let inside = subst (λ n. c.number-index.result < n) (c.len.ensures ∙ c.args.queues.now.ok.0) c.if-index-len.false in
    let is = queue_is queues c.number-index.result c.args.place c.index_mut.result.now c.number-index.ensures inside c.index_mut.ensures.value in
    subst (λ o. length (requests_of o) ≤ most_claims) is c.requires

pub returns : goal.returns
returns g c =
    let queues = c.args.queues.now.items in
    let inside = subst (λ n. c.number-index.result < n) (c.len.ensures ∙ c.args.queues.now.ok.0) c.if-index-len.false in
    let change = queue_requests_turned queues c.number-index.result c.args.place c.index_mut.result.now c.number-index.ensures inside c.index_mut.ensures.value
    (restood c.args.id c.args.is_held) c.stand.new.self c.stand.ensures in
    record { here = change.here; elsewhere = change.elsewhere; room = change.room }
