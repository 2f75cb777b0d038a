-- The drafts that check-outs saved: at most one of each part in a check-out. This project's own.
use Rattle.std.specs.Prelude.{◌≡◌, ℕ, true, Bool, ◌&&◌, ◌||◌, ◌==◌, not, nat_lt, List, [], ◌∷◌, ◌++◌, map, filter, find, Option}
use Rattle.std.specs.List.{AllByRecursion}
use Rattle.std.specs.Option.{option_map}
use Rattle.vault_state.specs.Shelf.{Draft, draft_at, drafts_weight}

-- a draft, with the number of the check-out that saved it
pub record SavedDraft : Type 0 where
  pub claim : ℕ
  pub draft : Draft

-- a draft of the check-out of this number
abbrev pub saved_by : ℕ → Draft → SavedDraft
saved_by number draft = record { claim = number; draft = draft }

-- a new content of a place, for the check-out of this number
abbrev pub new_draft : ℕ → ℕ → List ℕ → SavedDraft
new_draft number place content = saved_by number (draft_at place content)

-- drafts stand in the order of their check-outs' numbers, and of places in each check-out
abbrev pub comes_before : SavedDraft → SavedDraft → Bool
comes_before x y = nat_lt x.claim y.claim || ((x.claim == y.claim) && nat_lt x.draft.place y.draft.place)

-- the drafts with this one, which replaces one of the same check-out and place
abbrev pub with_draft : List SavedDraft → SavedDraft → List SavedDraft
with_draft drafts new = filter (λ x. comes_before x new) drafts ++ new ∷ filter (λ x. comes_before new x) drafts

-- the drafts of a check-out, by rising place
abbrev pub drafts_of : List SavedDraft → ℕ → List Draft
drafts_of drafts number = map (λ (x : SavedDraft). x.draft) (filter (λ (x : SavedDraft). x.claim == number) drafts)

-- the content of the draft of a place among these
abbrev pub content_at : List Draft → ℕ → Option (List ℕ)
content_at drafts place = option_map (λ (x : Draft). x.content) (find (λ (x : Draft). x.place == place) drafts)

-- the drafts of the other check-outs
abbrev pub without_drafts : List SavedDraft → ℕ → List SavedDraft
without_drafts drafts number = filter (λ (x : SavedDraft). not (x.claim == number)) drafts

-- what all drafts weigh
abbrev pub saved_weight : List SavedDraft → ℕ
saved_weight drafts = drafts_weight (map (λ (x : SavedDraft). x.draft) drafts)

-- the drafts are in the order of `comes_before`
unfoldable pub IsOrdered : List SavedDraft → Type 0
IsOrdered [] = Unit {0}
IsOrdered (x ∷ drafts) = AllByRecursion (λ y. comes_before x y ≡ true) drafts × IsOrdered drafts
