-- The index behind a tree. This project's own.
use Rattle.std.specs.Prelude.{◌≡◌, ℕ, ◌+◌, ◌≤◌, Bool, false, List, [], ◌∷◌, ◌++◌, length, Some, slice_get, slice_index_or, slice_set}
use Rattle.std.specs.Option.{option_map_or}
use Rattle.std.specs.Str.{bytes_eq}
use Rattle.vault_state.specs.declared.place.Place.{Place}
use Rattle.vault_state.specs.Tree.{name_of, children_of, IsTree}

-- whether a place has this name
abbrev pub has_name : List Place → List ℕ → ℕ → Bool
has_name tree name place = option_map_or (λ own. bytes_eq own name) (name_of tree place) false

-- each place's children are in the list at its number
pub record IsIndexed (tree : List Place) (lists : List (List ℕ)) : Type 0 where
  -- invariant 2 of src/lib.rt
  pub whole : length lists ≡ length tree + 1
  -- invariant 3
  pub each : (p : ℕ) → p ≤ length tree → slice_get lists p ≡ Some (children_of tree p)

-- the invariant of a tree: of its places and of their index
pub record IsSoundTree (tree : List Place) (lists : List (List ℕ)) : Type 0 where
  -- invariant 1 of src/lib.rt, and then those of the index
  pub tree_is : IsTree tree
  pub indexed : IsIndexed tree lists

-- the lists with a new place after its siblings, and an empty list for its own children
abbrev pub with_child : List (List ℕ) → ℕ → ℕ → List (List ℕ)
with_child lists parent place = slice_set lists parent (slice_index_or lists parent [] ++ place ∷ []) ++ [] ∷ []
