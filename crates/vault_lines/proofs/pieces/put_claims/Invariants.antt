use Rattle.std.proofs.Common.{◌≡◌, ◌++◌, ◌∷◌, take}
use Rattle.std.specs.List.{flat_map}
use Rattle.vault_lines.specs.Texts.{claim_text}
use Rattle.vault_lines.proofs.pieces.put_claims.Given as goal

abbrev pub invariant-loop-id : goal.invariant-loop-id
invariant-loop-id g l = l.text.items ≡ l.initial.text.items ++ flat_map (λ id. 32 ∷ claim_text id) (take l.id-index l.ids)
