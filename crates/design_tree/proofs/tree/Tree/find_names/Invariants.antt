use Rattle.std.proofs.Common.{◌≡◌, ◌≤◌, length, drop}
use Rattle.vault_state.specs.Tree.{find_below, find_place}
use Rattle.design_tree.proofs.tree.Tree.find_names.Given as goal

-- the names that are left lead from here to where all lead
abbrev pub invariant-loop-name : goal.invariant-loop-name
invariant-loop-name g l = (find_below l.self l.at (drop l.name-index l.names) ≡ find_place l.self l.names) × (l.at ≤ length l.self)
