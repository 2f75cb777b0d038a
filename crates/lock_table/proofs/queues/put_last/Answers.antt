use Rattle.std.specs.Prelude.{List, ◌∷◌, ◌++◌, []}
use Rattle.std.proofs.Common.{ap, sym, ◌∙◌, subst}
use Rattle.vault_state.specs.Limits.{most_claims}
use Rattle.lock_modes.specs.declared.mode.Mode.{Mode}
use Rattle.lock_table.specs.declared.locks.Lock.{Lock}
use Rattle.lock_queue.specs.declared.queue.Request.{Request}
use Rattle.lock_table.specs.Locks.{mode_at, AreApart}
use Rattle.lock_queue.specs.Queue.{by_lock}
use Rattle.lock_table.specs.Queues.{requests_at, HaveRoom}
use Rattle.lock_table.proofs.Putting.{turn_start, turn_room, turn_few, turn_next, turn_done, last_lock}
use Rattle.lock_table.proofs.queues.put_last.Goals as goal

pub loop-lock-init : goal.loop-lock-init
loop-lock-init g c = turn_start (λ (m : Mode) (requests : List Request). requests ++ record { id = c.args.id; mode = m; is_held = c.args.is_held } ∷ []) c.args.queues.now.items c.as_slice-lock-items.result.now (subst (λ (xs : List Lock). AreApart xs) (sym c.as_slice-lock-items.ensures.locks) c.as_slice-lock-items.ensures.apart)

pub put_last_at-requires-clause-room : goal.put_last_at-requires-clause-room
put_last_at-requires-clause-room g c = turn_room (λ (m : Mode) (requests : List Request). requests ++ record { id = c.args.id; mode = m; is_held = c.args.is_held } ∷ []) c.args.queues.now.items c.as_slice-lock-items.result.now c.loop-lock.queues.items c.loop-lock.lock-index c.loop-lock.invariant c.lock-item.result c.loop-lock-test.true c.lock-item.is (subst (λ (xs : List Lock). HaveRoom c.args.queues.now.items xs) (sym c.as_slice-lock-items.ensures.locks) c.requires.room)

pub put_last_at-requires-clause-few : goal.put_last_at-requires-clause-few
put_last_at-requires-clause-few g c = turn_few (λ (m : Mode) (requests : List Request). requests ++ record { id = c.args.id; mode = m; is_held = c.args.is_held } ∷ []) c.args.queues.now.items c.as_slice-lock-items.result.now c.loop-lock.queues.items c.loop-lock.lock-index c.loop-lock.invariant c.lock-item.result c.loop-lock-test.true c.lock-item.is most_claims c.requires.few

pub loop-lock-preserved : goal.loop-lock-preserved
loop-lock-preserved g c = turn_next (λ (m : Mode) (requests : List Request). requests ++ record { id = c.args.id; mode = m; is_held = c.args.is_held } ∷ []) c.args.queues.now.items c.as_slice-lock-items.result.now c.loop-lock.queues.items c.loop-lock.lock-index c.loop-lock.invariant c.lock-item.result c.loop-lock-test.true c.lock-item.is c.put_last_at.new.queues.items c.put_last_at.ensures.here c.put_last_at.ensures.elsewhere c.put_last_at.ensures.room

pub returns-clause-requests : goal.returns-clause-requests
returns-clause-requests g c = λ p.
    turn_done (λ (m : Mode) (requests : List Request). requests ++ record { id = c.args.id; mode = m; is_held = c.args.is_held } ∷ []) c.args.queues.now.items c.as_slice-lock-items.result.now c.loop-lock.queues.items c.loop-lock.lock-index c.loop-lock.invariant c.loop-lock-test.false p
    ∙ (ap (λ (xs : List Lock). by_lock (λ (m : Mode) (requests : List Request). requests ++ record { id = c.args.id; mode = m; is_held = c.args.is_held } ∷ []) (mode_at xs p) (requests_at c.args.queues.now.items p)) c.as_slice-lock-items.ensures.locks ∙ last_lock c.args.is_held c.args.id (mode_at c.args.locks.now p) (requests_at c.args.queues.now.items p))

pub returns-clause-room : goal.returns-clause-room
returns-clause-room g c = c.loop-lock.invariant.room
