use Rattle.std.proofs.Common.{◌-◌, ◌<◌, ◌∙◌, suc, ◌≡◌, length, length-set, drop, ap, arith}
use Rattle.part_versions.specs.Taken.{taken_all}
use Rattle.part_versions.proofs.Shelving.{taken_all-more}
use Rattle.part_versions.proofs.append.take_back.Goals as goal

pub index_mut-requires : goal.index_mut-requires
index_mut-requires g c =
    let there = c.requires (c.loop-left.left - 1) c.index-drafts-left.result (omega arith) in
    omega (arith, there, c.number.ensures, c.loop-left.invariant.whole)

pub loop-left-preserved : goal.loop-left-preserved
loop-left-preserved g c =
    let inside : c.loop-left.left - 1 < length c.args.drafts.now = omega arith in
    let next : suc (c.loop-left.left - 1) ≡ c.loop-left.left = omega arith in
    let there = c.requires (c.loop-left.left - 1) c.index-drafts-left.result inside in
    let within : c.number.result < length c.loop-left.parts.items = omega (arith, there, c.number.ensures, c.loop-left.invariant.whole) in
    record {
      items = taken_all-more c.args.parts.now.items c.loop-left.parts.items c.args.drafts.now (c.loop-left.left - 1) c.loop-left.left c.number.result c.index-drafts-left.result c.index_mut.result.now c.pop.new.self
          inside next c.loop-left.invariant.items c.number.ensures within c.index_mut.ensures.value c.pop.ensures;
      whole = length-set c.loop-left.parts.items c.number.result c.pop.new.self ∙ c.loop-left.invariant.whole;
      within = omega arith;
    }

pub returns : goal.returns
returns g c =
    let none_left : c.loop-left.left ≡ 0 = omega arith in
    c.loop-left.invariant.items ∙ ap (λ n. taken_all c.args.parts.now.items (drop n c.args.drafts.now)) none_left
