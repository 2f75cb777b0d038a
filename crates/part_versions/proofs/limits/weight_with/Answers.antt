use Rattle.std.proofs.Common.{◌<◌, ◌≤◌, length, arith}
use Rattle.part_versions.proofs.Rooms.{weight_more, short_more, none_by_length, none_by_weight}
use Rattle.part_versions.proofs.limits.weight_with.Goals as goal

pub loop-draft-preserved : goal.loop-draft-preserved
loop-draft-preserved g c =
    let inside : c.loop-draft.draft-index < length c.args.drafts.now = omega arith in
    let fits : length c.as_slice-len.result.now ≤ 1024 = omega arith in
    let more = weight_more c.args.drafts.now c.loop-draft.draft-index c.draft-item.result c.as_slice-len.result.now inside c.as_slice-len.ensures c.draft-item.is in
    record {
      sum_is = omega (arith, more, c.loop-draft.invariant.sum_is);
      short = short_more c.args.drafts.now c.loop-draft.draft-index c.draft-item.result c.as_slice-len.result.now inside c.as_slice-len.ensures c.draft-item.is c.loop-draft.invariant.short fits;
      light = omega arith;
    }

pub returns-then-len-gt-LONGEST_CONTENT : goal.returns-then-len-gt-LONGEST_CONTENT
returns-then-len-gt-LONGEST_CONTENT g c =
    none_by_length c.args.weight c.args.drafts.now c.loop-draft.draft-index c.draft-item.result c.as_slice-len.result.now c.loop-draft-test.true c.as_slice-len.ensures c.draft-item.is c.if-len-gt-LONGEST_CONTENT.true

pub returns-then-sum-gt-MAX_WEIGHT : goal.returns-then-sum-gt-MAX_WEIGHT
returns-then-sum-gt-MAX_WEIGHT g c =
    none_by_weight c.args.weight c.args.drafts.now c.loop-draft.draft-index c.draft-item.result c.as_slice-len.result.now c.loop-draft.sum c.loop-draft-test.true c.as_slice-len.ensures c.draft-item.is
    c.loop-draft.invariant.sum_is c.if-sum-gt-MAX_WEIGHT.true
