use Rattle.check_outs.proofs.Weighing.{own_within, saved_next, saved_fits, saved_all}
use Rattle.check_outs.proofs.weights.saved_weight.Goals as goal

pub weight_of-sum-requires : goal.weight_of-sum-requires
weight_of-sum-requires g c =
    own_within c.args.check_outs.now c.loop-check_out.check_out-index c.loop-check_out.sum _ c.loop-check_out.invariant
    c.check_out-item.result c.drafts.result.now c.loop-check_out-test.true c.check_out-item.is c.drafts.ensures c.requires

pub overflow_add-sum : goal.overflow_add-sum
overflow_add-sum g c =
    saved_fits c.args.check_outs.now c.loop-check_out.check_out-index c.loop-check_out.sum _ c.loop-check_out.invariant
    c.check_out-item.result c.drafts.result.now c.loop-check_out-test.true c.check_out-item.is c.drafts.ensures c.weight_of-sum.result c.weight_of-sum.ensures c.requires

pub loop-check_out-preserved : goal.loop-check_out-preserved
loop-check_out-preserved g c =
    saved_next c.args.check_outs.now c.loop-check_out.check_out-index c.loop-check_out.sum _ c.loop-check_out.invariant
    c.check_out-item.result c.drafts.result.now c.loop-check_out-test.true c.check_out-item.is c.drafts.ensures c.weight_of-sum.result c.weight_of-sum.ensures

pub returns : goal.returns
returns g c = saved_all c.args.check_outs.now c.loop-check_out.check_out-index c.loop-check_out.sum _ c.loop-check_out.invariant c.loop-check_out-test.false
