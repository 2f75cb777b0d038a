-- Places on one way down from the library.
use Rattle.std.specs.Prelude.{ℕ, Bool, ◌||◌, List}
use Rattle.vault_state.specs.declared.place.Place.{Place}
use Rattle.vault_state.specs.declared.claims.Item.{Item}
use Rattle.vault_state.specs.Tree.{is_under}

-- an item's place is under a place, or that place is under the item's
abbrev pub is_in_line : List Place → ℕ → Item → Bool
is_in_line tree p item = is_under tree p item.place || is_under tree item.place p
