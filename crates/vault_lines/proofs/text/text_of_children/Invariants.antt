use Rattle.std.proofs.Common.{◌≡◌, ◌++◌, ◌∷◌, length, take}
use Rattle.std.specs.Prelude.{codes, decimal}
use Rattle.std.specs.List.{flat_map}
use Rattle.vault_lines.proofs.text.text_of_children.Given as goal

abbrev pub invariant-loop-name : goal.invariant-loop-name
invariant-loop-name g l = l.text.items ≡ codes "OK list " ++ decimal (length l.names) ++ flat_map (λ name. 32 ∷ name) (take l.name-index l.names)
