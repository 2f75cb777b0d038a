-- Words joined by a separator, and cut again.
use Rattle.std.specs.Prelude.{◌≡◌, ℕ, ◌==◌, true, false, List, [], ◌∷◌, All}
use Rattle.std.proofs.Common.{ap, ◌∙◌}
use Rattle.std.specs.List.{slice_split, join_with_byte, AllByRecursion}
use Rattle.std.proofs.lemmas.List.Splits.{slice_split_at, slice_split_none}
use Rattle.std.proofs.lemmas.Bool.Decides.{nat_tests}
use Rattle.std.proofs.Common.{arith}

-- no byte of the word is the separator
abbrev pub IsFree : ℕ → List ℕ → Type 0
IsFree separator word = All (λ b. (b == separator) ≡ false) word

-- words without the separator, joined by it, are cut into these words
pub split_joined : (separator : ℕ) (word : List ℕ) (words : List (List ℕ)) → AllByRecursion (IsFree separator) (word ∷ words) → slice_split (λ b. b == separator) (join_with_byte separator (word ∷ words)) ≡ word ∷ words
split_joined separator word [] h = slice_split_none (λ b. b == separator) word h.0
split_joined separator word (next ∷ words) h =
    let itself : (separator == separator) ≡ true = grind (arith, nat_tests) in
    slice_split_at (λ b. b == separator) word separator (join_with_byte separator (next ∷ words)) h.0 itself
    ∙ ap (λ parts. word ∷ parts) (split_joined separator next words h.1)
