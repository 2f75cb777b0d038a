-- A pass over all check-outs.
use Rattle.std.specs.Prelude.{◌≡◌, ℕ, ◌≤◌, List, ◌++◌, length, map, take, drop}
use Rattle.std.proofs.Common.{arith, ap, ◌∙◌, append-nil}
use Rattle.std.proofs.lemmas.List.{length-map, take_all, drop_all}

-- when each has had its turn, and the list is written back
pub all_turned : {X : Type 0} (f : X → X) (old items : List X) (turn len : ℕ) → items ≡ map f (take turn old) ++ drop turn old → length old ≤ turn → len ≡ length old → take len (items ++ drop (length items) old) ≡ map f old
all_turned {X = X} f old items turn len turned done same =
    let same_length : length (map f old) ≡ length old = length-map _ _ in
    let all : items ≡ map f old = turned ∙ ap (λ xs. map f xs ++ drop turn old) (take_all turn old done) ∙ ap (λ ys. map f old ++ ys) (drop_all turn old done) ∙ append-nil (map f old) in
    let long : length items ≡ length old = ap length all ∙ same_length in
    ap (λ xs. take len (xs ++ drop (length xs) old)) all
    ∙ ap (λ ys. take len (map f old ++ ys)) (drop_all (length (map f old)) old (omega (arith, same_length)))
    ∙ ap (take len) (append-nil (map f old))
    ∙ take_all len (map f old) (omega (arith, same_length))
