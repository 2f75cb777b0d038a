use Rattle.std.specs.Prelude.{◌≡◌, ◌≤◌, length, drop}
use Rattle.part_versions.specs.Taken.{taken_all}
use Rattle.part_versions.proofs.append.take_back.Given as goal

abbrev pub invariant-loop-left : goal.invariant-loop-left
invariant-loop-left g l = record {
  items : l.parts.items ≡ taken_all l.fn.parts.items (drop l.left l.drafts);
  whole : length l.parts.items ≡ length l.fn.parts.items;
  within : l.left ≤ length l.drafts;
}

abbrev pub decreases-loop-left : goal.decreases-loop-left
decreases-loop-left g l = l.left
