use Rattle.vault_inspector.proofs.Weighing.{weighed_next, weighed_fits, weighed_all}
use Rattle.vault_inspector.proofs.figures.weight_of.Goals as goal

pub overflow_add-total-in-loop-draft : goal.overflow_add-total-in-loop-draft
overflow_add-total-in-loop-draft g c =
    weighed_fits c.args.drafts.now c.loop-draft.draft-index c.loop-draft.total _ c.loop-draft.invariant
    c.draft-item.result c.as_slice.result.now c.loop-draft-test.true c.draft-item.is c.as_slice.ensures c.requires

pub loop-draft-preserved : goal.loop-draft-preserved
loop-draft-preserved g c =
    weighed_next c.args.drafts.now c.loop-draft.draft-index c.loop-draft.total _ c.loop-draft.invariant
    c.draft-item.result c.as_slice.result.now c.loop-draft-test.true c.draft-item.is c.as_slice.ensures

pub returns : goal.returns
returns g c = weighed_all c.args.drafts.now c.loop-draft.draft-index c.loop-draft.total _ c.loop-draft.invariant c.loop-draft-test.false
