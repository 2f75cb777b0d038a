use Rattle.std.proofs.Common.{◌≡◌, ◌++◌, ◌∷◌, take}
use Rattle.std.specs.List.{flat_map}
use Rattle.vault_lines.specs.Texts.{item_text}
use Rattle.vault_lines.proofs.pieces.put_items.Given as goal

abbrev pub invariant-loop-item : goal.invariant-loop-item
invariant-loop-item g l = l.text.items ≡ l.initial.text.items ++ flat_map (λ item. 32 ∷ item_text item) (take l.item-index l.items)
