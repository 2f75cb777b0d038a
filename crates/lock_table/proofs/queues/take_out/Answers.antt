use Rattle.std.specs.Prelude.{List}
use Rattle.std.proofs.Common.{ap, sym, ◌∙◌, subst}
use Rattle.lock_modes.specs.declared.mode.Mode.{Mode}
use Rattle.lock_table.specs.declared.locks.Lock.{Lock}
use Rattle.lock_queue.specs.declared.queue.Request.{Request}
use Rattle.lock_table.specs.Locks.{mode_at, AreApart}
use Rattle.lock_queue.specs.Queue.{HasRequest, requests_without, by_lock}
use Rattle.lock_table.specs.Queues.{requests_at}
use Rattle.lock_table.proofs.Putting.{turn_start, turn_requests, turn_mode_at, turn_next, turn_done}
use Rattle.lock_table.proofs.queues.take_out.Goals as goal

pub loop-lock-init : goal.loop-lock-init
loop-lock-init g c = turn_start (λ (m : Mode). requests_without c.args.id) c.args.queues.now.items c.as_slice-lock-items.result.now (subst (λ (xs : List Lock). AreApart xs) (sym c.as_slice-lock-items.ensures.locks) c.as_slice-lock-items.ensures.apart)

pub take_out_at-requires : goal.take_out_at-requires
take_out_at-requires g c =
    let l = c.lock-item.result in
    let mode = ap (λ (xs : List Lock). mode_at xs l.place) (sym c.as_slice-lock-items.ensures.locks) ∙ turn_mode_at (λ (m : Mode). requests_without c.args.id) c.args.queues.now.items c.as_slice-lock-items.result.now c.loop-lock.queues.items c.loop-lock.lock-index c.loop-lock.invariant c.lock-item.result c.loop-lock-test.true c.lock-item.is in
    subst (λ (xs : List Request). HasRequest c.args.id l.mode c.args.is_held xs) (sym (turn_requests (λ (m : Mode). requests_without c.args.id) c.args.queues.now.items c.as_slice-lock-items.result.now c.loop-lock.queues.items c.loop-lock.lock-index c.loop-lock.invariant c.lock-item.result c.loop-lock-test.true c.lock-item.is)) (c.requires l.place l.mode mode)

pub loop-lock-preserved : goal.loop-lock-preserved
loop-lock-preserved g c = turn_next (λ (m : Mode). requests_without c.args.id) c.args.queues.now.items c.as_slice-lock-items.result.now c.loop-lock.queues.items c.loop-lock.lock-index c.loop-lock.invariant c.lock-item.result c.loop-lock-test.true c.lock-item.is c.take_out_at.new.queues.items c.take_out_at.ensures.here c.take_out_at.ensures.elsewhere c.take_out_at.ensures.room

pub returns-clause-requests : goal.returns-clause-requests
returns-clause-requests g c = λ p.
    turn_done (λ (m : Mode). requests_without c.args.id) c.args.queues.now.items c.as_slice-lock-items.result.now c.loop-lock.queues.items c.loop-lock.lock-index c.loop-lock.invariant c.loop-lock-test.false p
    ∙ ap (λ (xs : List Lock). by_lock (λ (m : Mode). requests_without c.args.id) (mode_at xs p) (requests_at c.args.queues.now.items p)) c.as_slice-lock-items.ensures.locks

pub returns-clause-room : goal.returns-clause-room
returns-clause-room g c = c.loop-lock.invariant.room
