-- What always holds of a shelf's versions and of its weight. This project's own.
use Rattle.std.specs.Prelude.{◌≡◌, ℕ, List}
use Rattle.vault_state.specs.Shelf.{weight, IsShelf}

-- the shelf is well formed, and the stored weight is its weight
pub record IsSoundShelf (shelf : List (List (List ℕ))) (weight_known : ℕ) : Type 0 where
  -- invariants 1 and 2 of src/lib.rt
  pub shelf_is : IsShelf shelf
  pub weighed : weight_known ≡ weight shelf
