use Rattle.check_outs.proofs.Weighing.{left_short, left_shorter, left_next, left_all}
use Rattle.check_outs.proofs.parts.left_beside.Goals as goal

pub returns-in_err-left-clause-none : goal.returns-in_err-left-clause-none
returns-in_err-left-clause-none g c none =
    left_short c.args.drafts.now c.loop-draft.draft-index c.args.room c.loop-draft.left c.loop-draft.invariant c.draft-item.result c.loop-draft-test.true c.draft-item.is
    c.in_err-left.ensures

pub returns-in_err-left-2-clause-none : goal.returns-in_err-left-2-clause-none
returns-in_err-left-2-clause-none g c none =
    left_shorter c.args.drafts.now c.loop-draft.draft-index c.args.room c.loop-draft.left c.loop-draft.invariant c.draft-item.result c.loop-draft-test.true c.draft-item.is
    c.in_ok-left.left c.as_slice.result.now c.in_ok-left.ensures c.as_slice.ensures c.in_err-left-2.ensures

pub loop-draft-preserved : goal.loop-draft-preserved
loop-draft-preserved g c =
    left_next c.args.drafts.now c.loop-draft.draft-index c.args.room c.loop-draft.left c.loop-draft.invariant c.draft-item.result c.loop-draft-test.true c.draft-item.is
    c.in_ok-left.left c.as_slice.result.now c.in_ok-left.ensures c.as_slice.ensures c.in_ok-left-2.left c.in_ok-left-2.ensures

pub returns-clause-left : goal.returns-clause-left
returns-clause-left g c = left_all c.args.drafts.now c.loop-draft.draft-index c.args.room c.loop-draft.left c.loop-draft.invariant c.loop-draft-test.false
