use Rattle.std.proofs.Common.{◌≡◌, ◌++◌, ◌∷◌, take}
use Rattle.std.specs.List.{flat_map}
use Rattle.vault_state.specs.Path.{path_text}
use Rattle.vault_lines.proofs.pieces.put_drafts.Given as goal

abbrev pub invariant-loop-path : goal.invariant-loop-path
invariant-loop-path g l = l.text.items ≡ l.initial.text.items ++ flat_map (λ path. 32 ∷ path_text path) (take l.path-index l.paths)
