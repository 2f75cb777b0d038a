use Rattle.std.specs.Prelude.{List, length}
use Rattle.std.proofs.Common.{ap, sym, ◌∙◌, subst, arith}
use Rattle.lock_modes.specs.declared.mode.Mode.{Mode}
use Rattle.lock_table.specs.declared.locks.Lock.{Lock}
use Rattle.lock_table.specs.Locks.{mode_at, AreApart}
use Rattle.lock_queue.specs.Queue.{restood, by_lock}
use Rattle.lock_table.specs.Queues.{requests_at}
use Rattle.lock_table.proofs.Putting.{turn_start, turn_requests, turn_next, turn_done}
use Rattle.lock_table.proofs.queues.stand.Goals as goal

pub loop-lock-init : goal.loop-lock-init
loop-lock-init g c = turn_start (λ (m : Mode). restood c.args.id c.args.is_held) c.args.queues.now.items c.as_slice-lock-items.result.now (subst (λ (xs : List Lock). AreApart xs) (sym c.as_slice-lock-items.ensures.locks) c.as_slice-lock-items.ensures.apart)

pub stand_at-requires : goal.stand_at-requires
stand_at-requires g c = let same = ap length (turn_requests (λ (m : Mode). restood c.args.id c.args.is_held) c.args.queues.now.items c.as_slice-lock-items.result.now c.loop-lock.queues.items c.loop-lock.lock-index c.loop-lock.invariant c.lock-item.result c.loop-lock-test.true c.lock-item.is) in let few = c.requires c.lock-item.result.place in omega (arith, few, same)

pub loop-lock-preserved : goal.loop-lock-preserved
loop-lock-preserved g c = turn_next (λ (m : Mode). restood c.args.id c.args.is_held) c.args.queues.now.items c.as_slice-lock-items.result.now c.loop-lock.queues.items c.loop-lock.lock-index c.loop-lock.invariant c.lock-item.result c.loop-lock-test.true c.lock-item.is c.stand_at.new.queues.items c.stand_at.ensures.here c.stand_at.ensures.elsewhere c.stand_at.ensures.room

pub returns-clause-requests : goal.returns-clause-requests
returns-clause-requests g c = λ p.
    turn_done (λ (m : Mode). restood c.args.id c.args.is_held) c.args.queues.now.items c.as_slice-lock-items.result.now c.loop-lock.queues.items c.loop-lock.lock-index c.loop-lock.invariant c.loop-lock-test.false p
    ∙ ap (λ (xs : List Lock). by_lock (λ (m : Mode). restood c.args.id c.args.is_held) (mode_at xs p) (requests_at c.args.queues.now.items p)) c.as_slice-lock-items.ensures.locks

pub returns-clause-room : goal.returns-clause-room
returns-clause-room g c = c.loop-lock.invariant.room
