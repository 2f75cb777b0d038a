use Rattle.std.proofs.Common.{◌≡◌, ℕ, ◌+◌, ◌<◌, slice_get}
use Rattle.vault_pairing.proofs.earlier.are_first_places.Given as goal

abbrev pub invariant-loop-number : goal.invariant-loop-number
invariant-loop-number g l = (i : ℕ) → i + 1 < l.number → slice_get l.later i ≡ slice_get l.earlier i
