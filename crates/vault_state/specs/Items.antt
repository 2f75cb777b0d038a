-- Items in an array of fixed length, the most that a claim has.
use Rattle.std.specs.Prelude.{◌≡◌, ℕ, ◌-◌, ◌≤◌, List, ◌++◌, length, take, drop, replicate}
use Rattle.std.proofs.Common.{sym, ap, ◌∙◌, length-take-le}
use Rattle.std.proofs.lemmas.List.{take-append-drop}
use Rattle.vault_state.specs.declared.claims.Item.{Item}
use Rattle.vault_state.specs.declared.ids.Intent.TheVariants.{Look}
use Rattle.vault_state.specs.Limits.{most_items}

-- the item that fills spare room
abbrev pub spare_item : Item
spare_item = record { intent = Look; place = 0 }

-- items, and behind them spare room
abbrev pub roomed : List Item → List Item
roomed items = items ++ replicate (most_items - length items) spare_item

-- the room holds this many items, and is spare behind them
pub record IsRoomed (room : List Item) (len : ℕ) : Type 0 where
  pub within : len ≤ length room
  pub whole : length room ≡ most_items
  pub spare : drop len room ≡ replicate (most_items - len) spare_item

pub inverse_of_roomed : (room : List Item) (len : ℕ) → IsRoomed room len → (roomed (take len room) ≡ room) × (length (take len room) ≡ len)
inverse_of_roomed room len h = (
  ap (λ n. take len room ++ replicate (most_items - n) spare_item) (length-take-le len room h.within)
      ∙ (ap (λ xs. take len room ++ xs) (sym h.spare) ∙ take-append-drop len room),
  length-take-le len room h.within,
)
