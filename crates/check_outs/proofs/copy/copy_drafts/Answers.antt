use Rattle.std.proofs.Common.{ap}
use Rattle.check_outs.proofs.Steps.{copied_next, copied_all}
use Rattle.check_outs.proofs.copy.copy_drafts.Goals as goal

pub loop-draft-preserved : goal.loop-draft-preserved
loop-draft-preserved g c =
    copied_next c.args.drafts.now c.loop-draft.draft-index c.draft-item.result (record { place = c.draft-item.result.place; content = c.in_ok-content.content })
    c.loop-draft.copies.items c.push.new.self.items c.push.result c.or.result _ c.in_ok-or.field-0 c.loop-draft-test.true c.draft-item.is
    (ap (λ (content : _). record { place = c.draft-item.result.place; content = content }) c.in_ok-content.ensures) c.loop-draft.invariant c.push.ensures.items c.or.ensures c.in_ok-or.was

pub returns : goal.returns
returns g c = copied_all c.args.drafts.now c.loop-draft.draft-index c.loop-draft.copies.items c.loop-draft-test.false c.loop-draft.invariant
