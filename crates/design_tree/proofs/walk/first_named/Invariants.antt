use Rattle.std.proofs.Common.{◌≡◌, drop}
use Rattle.std.specs.List.{find}
use Rattle.design_tree.specs.Index.{has_name}
use Rattle.design_tree.proofs.walk.first_named.Given as goal

-- the first of those that are left is the first of all
abbrev pub invariant-loop-place : goal.invariant-loop-place
invariant-loop-place l = find (has_name l.places l.name) (drop l.place-index l.among) ≡ find (has_name l.places l.name) l.among
