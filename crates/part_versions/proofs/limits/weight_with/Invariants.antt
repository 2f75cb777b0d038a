use Rattle.std.specs.Prelude.{◌≡◌, ◌+◌, ◌≤◌, nat_le, true, length, take}
use Rattle.std.specs.List.{list_all}
use Rattle.vault_state.specs.Shelf.{Draft, drafts_weight}
use Rattle.vault_state.specs.Limits.{longest_content, most_weight}
use Rattle.part_versions.proofs.limits.weight_with.Given as goal

abbrev pub invariant-loop-draft : goal.invariant-loop-draft
invariant-loop-draft g l = record {
  sum_is : l.sum ≡ l.weight + drafts_weight (take l.draft-index l.drafts);
  short : list_all (λ (draft : Draft). nat_le (length draft.content) longest_content) (take l.draft-index l.drafts) ≡ true;
  light : l.sum ≤ most_weight;
}
