-- What drafts need: short contents, a shelf that isn't too heavy with them, and room for versions. This project's own.
use Rattle.std.specs.Prelude.{ℕ, ◌+◌, Bool, ◌&&◌, ◌==◌, nat_le, if◌then◌else◌, List, length, count_by, Option, Some, None}
use Rattle.std.specs.List.{list_all}
use Rattle.vault_state.specs.Shelf.{Draft, versions_of, drafts_weight}
use Rattle.vault_state.specs.Limits.{longest_content, most_versions, most_weight}

-- how many of the drafts are for a place
abbrev pub count_of : List Draft → ℕ → ℕ
count_of drafts place = count_by (λ (draft : Draft). draft.place == place) drafts

-- the weight of a shelf of this weight with the drafts, if their contents are short and the sum isn't too much
abbrev pub weight_with : ℕ → List Draft → Option ℕ
weight_with weight drafts =
    if list_all (λ (draft : Draft). nat_le (length draft.content) longest_content) drafts
    && nat_le (weight + drafts_weight drafts) most_weight then Some (weight + drafts_weight drafts)
    else None

-- whether each draft's place has room for all drafts of that place
abbrev pub have_room : List (List (List ℕ)) → List Draft → Bool
have_room shelf drafts =
    list_all (λ (draft : Draft). nat_le (length (versions_of shelf draft.place) + count_of drafts draft.place) most_versions) drafts
