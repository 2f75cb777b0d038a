use Rattle.std.proofs.Common.{◌≡◌, ◌++◌, drop, map}
use Rattle.vault_model.specs.Step.{at_path}
use Rattle.check_outs.proofs.telling.at_paths.Given as goal

-- the items so far with their paths, and those that are left
abbrev pub invariant-loop-item : goal.invariant-loop-item
invariant-loop-item g l = l.told.items ++ map (at_path l.tree) (drop l.item-index l.items) ≡ map (at_path l.tree) l.items
