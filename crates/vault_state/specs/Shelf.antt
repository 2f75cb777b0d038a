-- The shelf: the versions of each part. This project's own. A shelf is a list. At position p stand the contents of place p's versions,
-- from the first on; a place past the list's end has none.
use Rattle.std.specs.Prelude.{◌≡◌, ◌≢◌, ℕ, zero, suc, ◌+◌, ◌≤◌, Bool, ◌&&◌, nat_le, List, [], ◌∷◌, ◌++◌, length, Option, None, slice_get, slice_index_or, sum_by, All}
use Rattle.std.specs.List.{list_all}
use Rattle.vault_state.specs.declared.draft.Draft.{Draft as DraftOver}
use Rattle.vault_state.specs.Limits.{longest_content, most_versions, most_weight, extra_weight}

-- a draft over plain bytes: a new content of a place
abbrev pub Draft : Type 0
Draft = DraftOver (List ℕ)

abbrev pub draft_at : ℕ → List ℕ → Draft
draft_at place content = record { place = place; content = content }

-- the contents of a place's versions, in order
abbrev pub versions_of : List (List (List ℕ)) → ℕ → List (List ℕ)
versions_of shelf place = slice_index_or shelf place []

-- the content of this number among these; the first has number 1
abbrev pub numbered : List (List ℕ) → ℕ → Option (List ℕ)
numbered versions zero = None
numbered versions (suc n) = slice_get versions n

-- the shelf with one more version of a place, behind its others
abbrev pub shelved : List (List (List ℕ)) → ℕ → List ℕ → List (List (List ℕ))
shelved [] zero content = (content ∷ []) ∷ []
shelved [] (suc place) content = [] ∷ shelved [] place content
shelved (versions ∷ shelf) zero content = (versions ++ content ∷ []) ∷ shelf
shelved (versions ∷ shelf) (suc place) content = versions ∷ shelved shelf place content

-- the shelf with these drafts as versions, one after another
abbrev pub shelved_all : List (List (List ℕ)) → List Draft → List (List (List ℕ))
shelved_all shelf [] = shelf
shelved_all shelf (draft ∷ drafts) = shelved_all (shelved shelf draft.place draft.content) drafts

-- what a content weighs
abbrev pub content_weight : List ℕ → ℕ
content_weight content = length content + extra_weight

-- what the versions of a place weigh together
abbrev pub versions_weight : List (List ℕ) → ℕ
versions_weight versions = sum_by content_weight versions

-- what all versions of a shelf weigh
abbrev pub weight : List (List (List ℕ)) → ℕ
weight shelf = sum_by versions_weight shelf

-- what the contents of some drafts weigh
abbrev pub drafts_weight : List Draft → ℕ
drafts_weight drafts = sum_by (λ (draft : Draft). content_weight draft.content) drafts

-- whether these drafts may all be shelved: each content is short enough, and with all of them no part has too many versions and the
-- shelf isn't too heavy
unfoldable pub is_shelvable : List (List (List ℕ)) → List Draft → Bool
is_shelvable shelf drafts =
    list_all (λ (draft : Draft). nat_le (length draft.content) longest_content) drafts
    && list_all (λ versions. nat_le (length versions) most_versions) (shelved_all shelf drafts)
    && nat_le (weight (shelved_all shelf drafts)) most_weight

-- The invariant of a shelf.
pub record IsShelf (shelf : List (List (List ℕ))) : Type 0 where
  pub short : All (λ versions. All (λ content. length content ≤ longest_content) versions) shelf
  pub few : All (λ versions. length versions ≤ most_versions) shelf
  pub light : weight shelf ≤ most_weight
  -- the last place of the list has a version, so no two lists are the same shelf
  pub trimmed : (place : ℕ) → suc place ≡ length shelf → versions_of shelf place ≢ []
