use Rattle.std.specs.Prelude.{◌≡◌, ◌-◌, ◌≤◌, [], ◌++◌, length, vec_len, vec_capacity, replicate}
use Rattle.part_versions.proofs.append.pad.Given as goal

abbrev pub invariant-loop-alloc : goal.invariant-loop-alloc
invariant-loop-alloc g l = record {
  items : l.parts.items ≡ l.fn.parts.items ++ replicate (length l.parts.items - length l.fn.parts.items) [];
  below : length l.parts.items ≤ l.len;
  room : vec_capacity l.fn.parts ≤ vec_capacity l.parts;
}

abbrev pub decreases-loop-alloc : goal.decreases-loop-alloc
decreases-loop-alloc g l = l.len - vec_len l.parts
