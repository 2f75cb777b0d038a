use Rattle.std.proofs.Common.{◌≤◌, ◌<◌, ◌+◌, ◌-◌, ◌==◌, not, rules, arith, length}
use Rattle.std.specs.Prelude.{count_by}
use Rattle.vault_state.specs.Limits.{most_drafts, most_weight, longest_content}
use Rattle.vault_state.specs.Shelf.{Draft, drafts_weight}
use Rattle.vault_state.specs.Drafts.{saved_weight}
use Rattle.check_outs.specs.Typed.{saved, drafts_at}
use Rattle.check_outs.proofs.Weighing.{own_light, own_lighter, too_many, by_weight}
use Rattle.check_outs.proofs.weights.may_save.Goals as goal

pub returns-then-count_beside-ge-MAX_DRAFTS : goal.returns-then-count_beside-ge-MAX_DRAFTS
returns-then-count_beside-ge-MAX_DRAFTS g c =
    let many : most_drafts ≤ count_by (λ (x : Draft). not (x.place == c.args.place)) (drafts_at c.args.check_outs.now c.args.number) = rw (← c.drafts_at-own.ensures, ← c.count_beside.ensures) c.if-count_beside-ge-MAX_DRAFTS.true in
    too_many c.args.shelf.now c.args.check_outs.now c.args.number c.args.place c.args.content.now c.requires.ascending c.requires.held many

pub weight_of-requires : goal.weight_of-requires
weight_of-requires g c = rw c.drafts_at-own.ensures (own_light c.args.shelf.now c.args.check_outs.now c.args.number c.args.place c.args.content.now c.requires.ascending c.requires.held c.requires.light)

pub overflow_sub-others : goal.overflow_sub-others
overflow_sub-others g c = rw (c.weight_of.ensures, c.saved_weight.ensures, c.drafts_at-own.ensures) (own_lighter c.args.check_outs.now c.args.number)

pub weight_beside-requires : goal.weight_beside-requires
weight_beside-requires g c = rw c.drafts_at-own.ensures (own_light c.args.shelf.now c.args.check_outs.now c.args.number c.args.place c.args.content.now c.requires.ascending c.requires.held c.requires.light)

-- the versions, and what is saved beside the draft
light : (g : _) (c : goal.After-weight g) → c.weight.result + (c.saved_weight.result - c.weight_of.result + c.weight_beside.result) ≤ most_weight
light g c =
    let a = c.weight.ensures.weight in
    let b = c.saved_weight.ensures in
    let d = c.weight_of.ensures in
    let e = c.weight_beside.ensures.less in
    let all = c.requires.light in
    let own : drafts_weight c.drafts_at-own.result.now ≤ saved_weight (saved c.args.check_outs.now) = rw c.drafts_at-own.ensures (own_lighter c.args.check_outs.now c.args.number) in
    omega arith

pub overflow_add-result : goal.overflow_add-result
overflow_add-result g c = let most = light g c in search rules

pub overflow_add-result-2 : goal.overflow_add-result-2
overflow_add-result-2 g c = let most = light g c in let short : length c.args.content.now ≤ longest_content = search rules in search rules

pub overflow_add-result-3 : goal.overflow_add-result-3
overflow_add-result-3 g c = let most = light g c in let short : length c.args.content.now ≤ longest_content = search rules in search rules

pub returns : goal.returns
returns g c =
    let short : length c.args.content.now ≤ longest_content = search rules in
    let few : count_by (λ (x : Draft). not (x.place == c.args.place)) (drafts_at c.args.check_outs.now c.args.number) < most_drafts = rw (← c.drafts_at-own.ensures, ← c.count_beside.ensures) (search rules) in
    by_weight c.args.shelf.now c.args.check_outs.now c.args.number c.args.place c.args.content.now c.requires.ascending c.requires.held
    c.weight.result c.saved_weight.result c.weight_of.result c.weight_beside.result short few c.weight.ensures.weight c.saved_weight.ensures
    (rw c.drafts_at-own.ensures at c.weight_of.ensures) (rw c.drafts_at-own.ensures at c.weight_beside.ensures.result)
