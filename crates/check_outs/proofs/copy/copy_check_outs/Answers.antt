use Rattle.check_outs.proofs.Steps.{copied_next, copied_all}
use Rattle.check_outs.proofs.copy.copy_check_outs.Goals as goal

pub loop-check_out-preserved : goal.loop-check_out-preserved
loop-check_out-preserved g c =
    copied_next c.args.check_outs.now c.loop-check_out.check_out-index c.check_out-item.result c.in_ok-copy.field-0 c.loop-check_out.copies.items c.push.new.self.items
    c.push.result c.or.result _ c.in_ok-or.field-0 c.loop-check_out-test.true c.check_out-item.is c.in_ok-copy.ensures c.loop-check_out.invariant c.push.ensures.items c.or.ensures c.in_ok-or.was

pub returns : goal.returns
returns g c = copied_all c.args.check_outs.now c.loop-check_out.check_out-index c.loop-check_out.copies.items c.loop-check_out-test.false c.loop-check_out.invariant
