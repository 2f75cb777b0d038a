use Rattle.std.proofs.Common.{ℕ, ◌<◌}
use Rattle.vault_state.specs.Shelf.{versions_of}
use Rattle.vault_store.specs.Earlier.{BeginsWith}
use Rattle.vault_pairing.proofs.earlier.are_all_first_versions.Given as goal

abbrev pub invariant-loop-number : goal.invariant-loop-number
invariant-loop-number g l = (place : ℕ) → place < l.number → BeginsWith (versions_of l.later.shelf place) (versions_of l.earlier.shelf place)
