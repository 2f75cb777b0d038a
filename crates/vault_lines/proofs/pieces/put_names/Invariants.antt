use Rattle.std.proofs.Common.{◌≡◌, ◌++◌, ◌∷◌, take}
use Rattle.std.specs.List.{flat_map}
use Rattle.vault_lines.proofs.pieces.put_names.Given as goal

abbrev pub invariant-loop-name : goal.invariant-loop-name
invariant-loop-name g l = l.text.items ≡ l.initial.text.items ++ flat_map (λ name. 47 ∷ name) (take l.name-index l.names)
