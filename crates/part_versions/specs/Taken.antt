-- Removing appended versions again. This project's own.
use Rattle.std.specs.Prelude.{ℕ, ◌-◌, List, [], ◌∷◌, length, take, slice_set}
use Rattle.vault_state.specs.Shelf.{Draft, versions_of}

-- all versions but the last
abbrev pub but_last : List (List ℕ) → List (List ℕ)
but_last versions = take (length versions - 1) versions

-- the shelf without a place's last version
abbrev pub taken : List (List (List ℕ)) → ℕ → List (List (List ℕ))
taken shelf place = slice_set shelf place (but_last (versions_of shelf place))

-- the shelf without the last version of each draft's place, the last draft first
abbrev pub taken_all : List (List (List ℕ)) → List Draft → List (List (List ℕ))
taken_all shelf [] = shelf
taken_all shelf (draft ∷ drafts) = taken (taken_all shelf drafts) draft.place
