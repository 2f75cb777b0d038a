use Rattle.std.proofs.Common.{◌≡◌, ◌*◌, ◌^◌, ◌≤◌, length, map}
use Rattle.std.specs.Prelude.{sum_by}
use Rattle.std.specs.List.{range_with_len}
use Rattle.vault_state.specs.Shelf.{versions_of}
use Rattle.vault_inspector.proofs.counts.version_count.Given as goal

abbrev pub invariant-loop-place : goal.invariant-loop-place
invariant-loop-place g l = record {
  counted : l.total ≡ sum_by length (map (versions_of l.shelf) (range_with_len 0 l.place));
  few : l.total ≤ l.place * 2 ^ 32;
}
