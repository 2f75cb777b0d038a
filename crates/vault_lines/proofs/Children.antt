-- Names appended one by one.
use Rattle.std.proofs.Common.{◌≡◌, ℕ, ◌+◌, ◌<◌, ◌≤◌, List, [], ◌∷◌, ◌++◌}
use Rattle.std.proofs.Common.{length, take, get_or, sym, ap, ◌∙◌, append-nil, append_assoc}
use Rattle.std.specs.List.{flat_map}
use Rattle.std.proofs.lemmas.Grind.{flat_map-append}
use Rattle.std.proofs.lemmas.List.{take_more, take_all}
use Rattle.vault_lines.specs.Texts.{newline}

abbrev spaced : List (List ℕ) → List ℕ
spaced names = flat_map (λ (name : List ℕ). 32 ∷ name) names

module _ (head : List ℕ) (names : List (List ℕ)) (i : ℕ) (text : List ℕ) (so_far : text ≡ head ++ spaced (take i names)) where
  pub name_told : (name bytes behind more : List ℕ) → i < length names → name ≡ get_or names i name → bytes ≡ name
      → behind ≡ text ++ 32 ∷ [] → more ≡ behind ++ bytes
      → more ≡ head ++ spaced (take (i + 1) names)
  name_told name bytes behind more inside is same first second =
      let told : spaced (take (i + 1) names) ≡ spaced (take i names) ++ (32 ∷ name) =
      ap spaced (take_more names i name inside ∙ ap (λ (x : List ℕ). take i names ++ x ∷ []) (sym is))
      ∙ flat_map-append (λ (x : List ℕ). 32 ∷ x) (take i names) (name ∷ [])
      ∙ ap (λ (rest : List ℕ). spaced (take i names) ++ 32 ∷ rest) (append-nil name) in
      second ∙ ap (λ (front : List ℕ). front ++ bytes) (first ∙ ap (λ (front : List ℕ). front ++ 32 ∷ []) so_far)
      ∙ ap (λ (back : List ℕ). ((head ++ spaced (take i names)) ++ 32 ∷ []) ++ back) same
      ∙ append_assoc (head ++ spaced (take i names)) (32 ∷ []) name
      ∙ append_assoc head (spaced (take i names)) (32 ∷ name)
      ∙ ap (λ (back : List ℕ). head ++ back) (sym told)

  pub all_told : (more : List ℕ) → length names ≤ i → more ≡ text ++ newline → more ≡ head ++ spaced names ++ newline
  all_told more past last =
      last
      ∙ ap (λ (front : List ℕ). front ++ newline) (so_far ∙ ap (λ (all : List (List ℕ)). head ++ spaced all) (take_all i names past))
