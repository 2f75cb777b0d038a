use Rattle.std.specs.Prelude.{replicate}
use Rattle.std.proofs.Common.{rules, ◌≡◌, ◌+◌, ◌-◌, ◌<◌, arith, ap, sym, ◌∙◌, drop}
use Rattle.std.proofs.lemmas.List.{drop-set-lt, drop-drop, drop-replicate}
use Rattle.vault_state.specs.Items.{spare_item}
use Rattle.vault_state.proofs.items.Items.with.Goals as goal

pub invariant_of-result : goal.invariant_of-result
invariant_of-result c =
    let len = c.self.inside.len in
    let room = c.self.inside.room in
    let kept = c.self.invariant in
    let later : len < len + 1 = omega arith in
    let fewer : 8 - len - 1 ≡ 8 - (len + 1) = omega arith in
    record {
      within = search rules;
      whole = search rules;
      spare = drop-set-lt (len + 1) room len c.args.item later ∙ (sym (drop-drop 1 len room) ∙ (ap (drop 1) kept.spare ∙ (drop-replicate 1 (8 - len) spare_item ∙ ap (λ n. replicate n spare_item) fewer)));
    }
