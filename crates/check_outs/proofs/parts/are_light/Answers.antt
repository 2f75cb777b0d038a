use Rattle.std.proofs.Common.{refl}
use Rattle.check_outs.proofs.Weighing.{light_all, light_next, too_heavy}
use Rattle.check_outs.proofs.parts.are_light.Goals as goal

pub returns-in_default : goal.returns-in_default
returns-in_default g c = (
  λ no. cc,
  λ light. absurd (too_heavy c.args.shelf.now c.args.drafts.now c.loop-own.own-index c.loop-own.room c.loop-own.invariant
      c.own-item.result c.as_slice.result.now c.loop-own-test.true c.own-item.is c.as_slice.ensures (c.in_default.ensures.none refl) light),
)

pub loop-own-preserved : goal.loop-own-preserved
loop-own-preserved g c =
    light_next c.args.shelf.now c.args.drafts.now c.loop-own.own-index c.loop-own.room c.loop-own.invariant
    c.own-item.result c.as_slice.result.now c.loop-own-test.true c.own-item.is c.as_slice.ensures c.in-Some.left c.in-Some.ensures.left

pub returns : goal.returns
returns g c = (λ yes. light_all c.args.shelf.now c.args.drafts.now c.loop-own.own-index c.loop-own.room c.loop-own.invariant c.loop-own-test.false, λ light. refl)
