-- What the words of a claim's items say. This project's own.
use Rattle.std.specs.Prelude.{ℕ, ◌==◌, List, [], ◌∷◌, Option, Some, None, if◌then◌else◌}
use Rattle.vault_lines.specs.Reading.{each_in, ◌>>=◌}
use Rattle.vault_state.specs.Path.{path_in}
use Rattle.vault_state.specs.declared.ids.Intent.{Intent}
use Rattle.vault_state.specs.declared.ids.Intent.TheVariants.{Look, Change}
use Rattle.vault_state.specs.declared.claims.PathItem.{PathItem}

-- `r` to look, `w` to change
abbrev pub intent_in : ℕ → Option Intent
intent_in letter = if letter == 114 then Some Look else if letter == 119 then Some Change else None

-- an item: the letter of its intent, a colon and its path
abbrev pub item_in : List ℕ → Option PathItem
item_in [] = None
item_in (letter ∷ []) = None
item_in (letter ∷ colon ∷ word) = do
  intent ← intent_in letter
  path ← if colon == 58 then path_in word else None
  Some (record { intent = intent; path = path })

-- one item or more
abbrev pub items_in : List (List ℕ) → Option (List PathItem)
items_in [] = None
items_in (word ∷ words) = each_in item_in (word ∷ words)
