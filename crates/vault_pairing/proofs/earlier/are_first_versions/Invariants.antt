use Rattle.std.proofs.Common.{◌≡◌, ℕ, ◌<◌, slice_get}
use Rattle.vault_state.specs.Shelf.{versions_of}
use Rattle.vault_pairing.proofs.earlier.are_first_versions.Given as goal

abbrev pub invariant-loop-index : goal.invariant-loop-index
invariant-loop-index g l = (i : ℕ) → i < l.index → slice_get (versions_of l.later l.place) i ≡ slice_get (versions_of l.earlier l.place) i
