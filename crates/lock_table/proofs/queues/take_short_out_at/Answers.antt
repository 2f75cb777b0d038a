use Rattle.std.specs.Prelude.{◌≤◌, ◌<◌, length, refl}
use Rattle.std.proofs.Common.{ap, sym, ◌∙◌, subst}
use Rattle.vault_state.specs.Limits.{most_claims}
use Rattle.lock_queue.specs.Queue.{long_requests}
use Rattle.lock_table.specs.Queues.{requests_of, room_at}
use Rattle.lock_table.proofs.Putting.{past_there, no_less, queue_is, queue_turned}
use Rattle.lock_table.proofs.queues.take_short_out_at.Goals as goal

pub returns-then-index-len : goal.returns-then-index-len
returns-then-index-len g c =
    let queues = c.args.queues.now.items in
    let none = past_there queues c.args.index c.args.index refl (subst (λ n. n ≤ c.args.index) (c.len.ensures ∙ c.args.queues.now.ok.0) c.if-index-len.true) in
    record {
      here = none ∙ ap long_requests (sym none);
      elsewhere = λ p differ. refl;
      room = λ p. no_less (room_at queues p) (room_at queues p) refl;
      many = refl;
    }

pub take_short_out-requires : goal.take_short_out-requires
take_short_out-requires g c =
    let queues = c.args.queues.now.items in
    let inside = subst (λ n. c.args.index < n) (c.len.ensures ∙ c.args.queues.now.ok.0) c.if-index-len.false in
    let is = queue_is queues c.args.index c.args.index c.index_mut.result.now refl inside c.index_mut.ensures.value in
    subst (λ o. length (requests_of o) ≤ most_claims) is c.requires.few

pub returns : goal.returns
returns g c =
    let queues = c.args.queues.now.items in
    let inside = subst (λ n. c.args.index < n) (c.len.ensures ∙ c.args.queues.now.ok.0) c.if-index-len.false in
    let change = queue_turned queues c.args.index c.args.index c.index_mut.result.now refl inside c.index_mut.ensures.value
    long_requests c.take_short_out.new.self c.take_short_out.ensures.requests (no_less c.index_mut.result.now.room c.take_short_out.new.self.room c.take_short_out.ensures.room) in
    record { here = change.here; elsewhere = change.elsewhere; room = change.room; many = refl }
