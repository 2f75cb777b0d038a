-- Paths: the names from the library down to a place. This project's own.
use Rattle.std.specs.Prelude.{◌≡◌, ℕ, ◌-◌, ◌≤◌, ◌&&◌, ◌==◌, nat_le, if◌then◌else◌, List, [], ◌∷◌, length, ◌++◌, take, replicate, slice_get, Option, None, Some}
use Rattle.std.specs.List.{list_all, slice_split, flat_map, AllByRecursion}
use Rattle.std.proofs.Common.{sym, length-take-le}
use Rattle.vault_state.specs.Limits.{most_names}
use Rattle.vault_state.specs.Name.{is_name, IsName}

-- names that are a path
pub record IsPath (names : List (List ℕ)) : Type 0 where
  pub short : length names ≤ most_names
  pub each : AllByRecursion IsName names

-- how a path is spelled: a slash before each name, or a slash alone for the library
abbrev pub path_text : List (List ℕ) → List ℕ
path_text [] = 47 ∷ []
path_text (name ∷ names) = flat_map (λ n. 47 ∷ n) (name ∷ names)

-- words that are few enough and each a name
abbrev pub names_of : List (List ℕ) → Option (List (List ℕ))
names_of words = if nat_le (length words) most_names && list_all is_name words then Some words else None

-- the names between the slashes of a text
abbrev pub names_in : List ℕ → Option (List (List ℕ))
names_in text = names_of (slice_split (λ b. b == 47) text)

-- what stands behind the first slash: nothing for the library, else names
abbrev pub behind_slash : List ℕ → Option (List (List ℕ))
behind_slash [] = Some []
behind_slash (b ∷ text) = names_in (b ∷ text)

-- the path that a text spells, if it spells one
abbrev pub path_in : List ℕ → Option (List (List ℕ))
path_in [] = None
path_in (b ∷ text) = if b == 47 then behind_slash text else None

-- a path's names but for the last
abbrev pub front : List (List ℕ) → List (List ℕ)
front path = take (length path - 1) path

-- a path's last name; the library's has none
abbrev pub last : List (List ℕ) → Option (List ℕ)
last path = slice_get path (length path - 1)

-- the name that fills spare room
abbrev pub blank : List ℕ
blank = 95 ∷ []

-- names, and behind them spare room
abbrev pub filled : List (List ℕ) → List (List ℕ)
filled names = names ++ replicate (most_names - length names) blank

-- the room holds this many names, and is spare behind them
pub record IsFilled (room : List (List ℕ)) (len : ℕ) : Type 0 where
  pub within : len ≤ length room
  pub whole : length room ≡ most_names
  pub spare : room ≡ filled (take len room)

pub inverse_of_filled : (room : List (List ℕ)) (len : ℕ) → IsFilled room len
    → (filled (take len room) ≡ room) × (length (take len room) ≡ len)
inverse_of_filled room len h = (sym h.spare, length-take-le len room h.within)
