use Rattle.std.proofs.Common.{◌≡◌, ◌++◌, drop}
use Rattle.std.specs.List.{filter_map}
use Rattle.vault_state.specs.Tree.{name_of}
use Rattle.design_tree.proofs.walk.names_in.Given as goal

-- the names so far, and those of the places that are left
abbrev pub invariant-loop-place : goal.invariant-loop-place
invariant-loop-place g l = l.names.items ++ filter_map (name_of l.places) (drop l.place-index l.among) ≡ filter_map (name_of l.places) l.among
