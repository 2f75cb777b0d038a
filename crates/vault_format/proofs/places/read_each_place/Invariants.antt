use Rattle.std.proofs.Common.{◌≡◌, ◌+◌, [], length}
use Rattle.vault_format.specs.Places.{AreReadOn}
use Rattle.vault_format.proofs.places.read_each_place.Given as goal

abbrev pub invariant-loop-number : goal.invariant-loop-number
invariant-loop-number g l = record { so : AreReadOn l.version [] [] l.tree l.shelf l.initial.rest l.rest; size : length l.tree + 1 ≡ l.number }
