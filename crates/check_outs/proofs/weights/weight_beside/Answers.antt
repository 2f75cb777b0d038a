use Rattle.std.proofs.Common.{◌∙◌, sym}
use Rattle.check_outs.proofs.Weighing.{beside_next, beside_same}
use Rattle.check_outs.proofs.weights.weight_beside.Goals.{then-ne, else-ne}
use Rattle.check_outs.proofs.weights.weight_beside.Goals as goal

pub loop-draft-preserved : goal.loop-draft-preserved
loop-draft-preserved g c = elim c.if-ne.branch [
  | then-ne w ↦ beside_next c.args.drafts.now c.loop-draft.draft-index c.args.place c.loop-draft.sum _ _ c.draft-item.result c.loop-draft-test.true c.draft-item.is
      c.loop-draft.invariant.sum c.loop-draft.invariant.bound c.if-ne.sum w.as_slice.result.now (sym c.ne.ensures ∙ w.if-ne.true) w.as_slice.ensures w.sum-is
  | else-ne w ↦ beside_same c.args.drafts.now c.loop-draft.draft-index c.args.place c.loop-draft.sum _ _ c.draft-item.result c.loop-draft-test.true c.draft-item.is
      c.loop-draft.invariant.sum c.loop-draft.invariant.bound c.if-ne.sum (sym c.ne.ensures ∙ w.if-ne.false) w.sum-is
]
