use Rattle.std.proofs.Common.{◌≡◌, ◌+◌, ◌<◌, length}
use Rattle.vault_format.specs.Snapshot.{current_version}
use Rattle.vault_format.specs.Places.{AreReadOn}
use Rattle.vault_format.proofs.places.read_places_on.Given as goal

abbrev pub invariant-loop-number : goal.invariant-loop-number
invariant-loop-number g l = record {
  so : AreReadOn current_version l.fn.tree l.fn.shelf l.tree l.shelf l.initial.rest l.rest;
  size : length l.tree + 1 ≡ l.number;
  few : length l.fn.tree < l.count → length l.tree < l.count;
}
