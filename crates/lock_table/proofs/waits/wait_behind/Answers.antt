use Rattle.std.specs.Prelude.{◌+◌, List, map, drop}
use Rattle.std.proofs.Common.{ap, subst, ◌∙◌}
use Rattle.std.proofs.lemmas.List.{drop_all}
use Rattle.lock_table.specs.declared.locks.Lock.{Lock}
use Rattle.lock_table.specs.Queues.{requests_at, is_queued_in, is_queued_against, waits_where}
use Rattle.lock_table.proofs.Positions.{drop_is}
use Rattle.lock_table.proofs.Waiting.{IsWaiting, wait_step, wait_done}
use Rattle.lock_table.proofs.waits.wait_behind.Goals as goal

pub loop-lock-preserved : goal.loop-lock-preserved
loop-lock-preserved g c =
    let queues = c.args.queues.now in
    let locks = c.as_slice-lock-items.result.now in
    let i = c.loop-lock.lock-index in
    let l = c.lock-item.result in
    record {
      waiting = λ old were.
          wait_step c.args.id c.args.entries.now (waits_where (is_queued_against queues locks) c.args.id old) (is_queued_in l.mode (requests_at queues l.place)) (is_queued_against queues (drop (i + 1) locks)) c.loop-lock.blockers.items
          (subst (λ (rest : List Lock). IsWaiting c.args.id c.args.entries.now (waits_where (is_queued_against queues locks) c.args.id old) (is_queued_against queues rest) c.loop-lock.blockers.items)
          (drop_is locks i l c.loop-lock-test.true c.lock-item.is) (c.loop-lock.invariant.waiting old were))
          c.wait_at.new.blockers.items c.wait_at.ensures.wait;
      many = c.wait_at.ensures.many;
    }

pub returns-clause-wait : goal.returns-clause-wait
returns-clause-wait g c = λ old were.
    let locks = c.as_slice-lock-items.result.now in
    let none = drop_all c.loop-lock.lock-index locks c.loop-lock-test.false in
    wait_done c.args.id c.args.entries.now (waits_where (is_queued_against c.args.queues.now locks) c.args.id old) (is_queued_against c.args.queues.now (drop c.loop-lock.lock-index locks)) c.loop-lock.blockers.items
    (λ e. ap (λ (rest : List Lock). is_queued_against c.args.queues.now rest e) none) (c.loop-lock.invariant.waiting old were)
    ∙ ap (λ (ls : List Lock). map (waits_where (is_queued_against c.args.queues.now ls) c.args.id old) c.args.entries.now) c.as_slice-lock-items.ensures.locks
