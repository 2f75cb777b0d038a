use Rattle.std.specs.Prelude.{◌+◌, false, List, drop}
use Rattle.std.proofs.Common.{ap, subst, get_or}
use Rattle.std.proofs.lemmas.List.{drop_all, drop_more}
use Rattle.vault_state.specs.declared.ids.ClaimId.TheVariants.{Long}
use Rattle.lock_modes.specs.declared.mode.Mode.TheVariants.{IS}
use Rattle.lock_queue.specs.declared.queue.Request.{Request}
use Rattle.lock_table.specs.Queues.{is_queued_at, is_queued_in, waits_where}
use Rattle.lock_table.proofs.Waiting.{IsWaiting, wait_start, wait_step, wait_done}
use Rattle.lock_table.proofs.waits.wait_in_queue.Goals as goal

pub loop-request-init : goal.loop-request-init
loop-request-init g c = record {
  waiting = λ old were. wait_start c.args.id c.args.entries.now old (is_queued_in c.args.mode c.args.requests.now) c.args.blockers.now.items were;
  many = c.requires.many;
}

pub loop-request-preserved : goal.loop-request-preserved
loop-request-preserved g c =
    let requests = c.args.requests.now in
    let i = c.loop-request.request-index in
    let mode = c.args.mode in
    let request : Request = get_or requests i (record { id = Long 0; mode = IS; is_held = false }) in
    record {
      waiting = λ old were.
          wait_step c.args.id c.args.entries.now (waits_where (is_queued_in mode requests) c.args.id old) (is_queued_at mode request) (is_queued_in mode (drop (i + 1) requests)) c.loop-request.blockers.items
          (subst (λ (rest : List Request). IsWaiting c.args.id c.args.entries.now (waits_where (is_queued_in mode requests) c.args.id old) (is_queued_in mode rest) c.loop-request.blockers.items)
          (drop_more requests i _ c.loop-request-test.true) (c.loop-request.invariant.waiting old were))
          c.wait_at_request.new.blockers.items c.wait_at_request.ensures.waits;
      many = c.wait_at_request.ensures.many;
    }

pub returns-clause-wait : goal.returns-clause-wait
returns-clause-wait g c = λ old were.
    let requests = c.args.requests.now in
    let none = drop_all c.loop-request.request-index requests c.loop-request-test.false in
    wait_done c.args.id c.args.entries.now (waits_where (is_queued_in c.args.mode requests) c.args.id old) (is_queued_in c.args.mode (drop c.loop-request.request-index requests)) c.loop-request.blockers.items
    (λ e. ap (λ (rest : List Request). is_queued_in c.args.mode rest e) none) (c.loop-request.invariant.waiting old were)
