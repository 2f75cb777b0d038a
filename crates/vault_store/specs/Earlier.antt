-- Whether one vault may be an earlier state of another. This project's own.
use Rattle.std.specs.Prelude.{◌≡◌, ℕ, ◌≤◌, List, length, take}
use Rattle.vault_state.specs.Shelf.{versions_of}
use Rattle.vault_state.specs.Vault.{Vault}

-- a list begins with another
abbrev pub BeginsWith : {A : Type 0} → List A → List A → Type 0
BeginsWith whole first = take (length first) whole ≡ first

-- The second vault has all of the first that no effect takes away: its places are the first places there, with the same parents, names
-- and kinds; each part's versions are the first versions there; and no fewer check-out numbers were given.
pub record IsEarlier (earlier later : Vault) : Type 0 where
  pub places : BeginsWith later.tree earlier.tree
  pub versions : (place : ℕ) → BeginsWith (versions_of later.shelf place) (versions_of earlier.shelf place)
  pub numbers : earlier.last_long ≤ later.last_long
