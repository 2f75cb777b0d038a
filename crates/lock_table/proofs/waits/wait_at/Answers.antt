use Rattle.std.specs.Prelude.{◌≡◌, is_none, true, List, map}
use Rattle.std.proofs.Common.{ap, sym, ◌∙◌}
use Rattle.lock_queue.specs.declared.queue.Request.{Request}
use Rattle.lock_table.specs.Queues.{requests_at, is_queued_in, waits_where}
use Rattle.lock_table.proofs.Queuing.{none_is}
use Rattle.lock_table.proofs.Requests.{none_flag}
use Rattle.lock_table.proofs.Waiting.{none_against, waits_nobody}
use Rattle.lock_table.proofs.waits.wait_at.Goals as goal

pub returns-then-is_none-clause-wait : goal.returns-then-is_none-clause-wait
returns-then-is_none-clause-wait g c = λ old were.
    let place = c.args.lock.place in
    let nobody : is_none c.in_way_at.result ≡ true = sym (none_flag c.in_way_at.result c.is_none.result c.is_none.ensures) ∙ c.if-is_none.true in
    waits_nobody (is_queued_in c.args.lock.mode (requests_at c.args.queues.now place)) c.args.entries.now c.args.blockers.now.items c.args.id
    (none_against c.args.lock.mode (requests_at c.args.queues.now place) (sym (none_is c.in_way_at.result nobody ∙ c.in_way_at.ensures))) old were

pub returns-clause-wait : goal.returns-clause-wait
returns-clause-wait g c = λ old were. c.wait_in_queue.ensures.wait old were
    ∙ ap (λ (requests : List Request). map (waits_where (is_queued_in c.args.lock.mode requests) c.args.id old) c.args.entries.now) c.queue_at.ensures
