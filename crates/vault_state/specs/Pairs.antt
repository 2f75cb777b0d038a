-- Items that meet, pair by pair.
use Rattle.std.specs.Prelude.{Bool, ◌||◌, ◌&&◌, List}
use Rattle.std.specs.List.{list_any}
use Rattle.vault_state.specs.declared.place.Place.{Place}
use Rattle.vault_state.specs.declared.claims.Item.{Item}
use Rattle.vault_state.specs.Tree.{is_under}
use Rattle.vault_state.specs.Claims.{is_change}

-- one is for change, and one lies at or under the other
abbrev pub pair_meets : List Place → Item → Item → Bool
pair_meets tree a b = (is_change a.intent || is_change b.intent) && (is_under tree a.place b.place || is_under tree b.place a.place)

-- some item of the one meets some item of the other
abbrev pub pairs_meet : List Place → List Item → List Item → Bool
pairs_meet tree c d = list_any (λ a. list_any (λ b. pair_meets tree a b) d) c
