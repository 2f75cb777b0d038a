use Rattle.std.specs.Prelude.{refl}
use Rattle.std.proofs.Common.{ap, ◌∙◌}
use Rattle.lock_table.specs.Queues.{earlier, position_of, held_request_in_way}
use Rattle.lock_table.proofs.Positions.{held_place_in_way, earliest_next, earliest_last}
use Rattle.lock_table.proofs.queues.held_in_way.Goals as goal

pub loop-lock-init : goal.loop-lock-init
loop-lock-init g c = refl

pub loop-lock-preserved : goal.loop-lock-preserved
loop-lock-preserved g c =
    earliest_next (held_place_in_way c.args.entries.now c.args.queues.now c.args.id) c.as_slice-lock-items.result.now c.loop-lock.lock-index c.loop-lock.first _ c.loop-lock.invariant
    c.lock-item.result c.earlier_of-first.result c.loop-lock-test.true c.lock-item.is (c.earlier_of-first.ensures ∙ ap (λ o. earlier c.loop-lock.first (position_of c.args.entries.now o)) c.held_in_way_at-other.ensures)

pub returns : goal.returns
returns g c =
    earliest_last (held_place_in_way c.args.entries.now c.args.queues.now c.args.id) c.as_slice-lock-items.result.now c.loop-lock.lock-index c.loop-lock.first _ c.loop-lock.invariant c.loop-lock-test.false
    ∙ ap (held_request_in_way c.args.entries.now c.args.queues.now c.args.id) c.as_slice-lock-items.ensures.locks
