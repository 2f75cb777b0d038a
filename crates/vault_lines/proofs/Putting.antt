-- Texts that grow piece by piece.
use Rattle.std.proofs.Common.{◌≡◌, ℕ, ◌+◌, ◌<◌, ◌≤◌, List, [], ◌∷◌, ◌++◌}
use Rattle.std.proofs.Common.{length, take, get_or, sym, ap, ◌∙◌, append-nil, append_assoc}
use Rattle.std.specs.List.{flat_map}
use Rattle.std.proofs.lemmas.Grind.{flat_map-append}
use Rattle.std.proofs.lemmas.List.{take_more, take_all}
use Rattle.std.proofs.lemmas.List.Concat.{flat_map-cons}

-- a piece, and the next
pub two_pieces : (a b c one more : List ℕ) → b ≡ a ++ one → c ≡ b ++ more → c ≡ a ++ (one ++ more)
two_pieces a b c one more first next = next ∙ ap (λ (l : List ℕ). l ++ more) first ∙ append_assoc a one more

-- the bytes of the first things, and of the next
pub adds_more : {X : Type 0} (f : X → List ℕ) (xs : List X) (i : ℕ) (x : X) (a b c : List ℕ)
    → i < length xs → get_or xs i x ≡ x → b ≡ a ++ flat_map f (take i xs) → c ≡ b ++ f x → c ≡ a ++ flat_map f (take (i + 1) xs)
adds_more f xs i x a b c within is first next =
    let cut = take_more xs i x within ∙ ap (λ (y : _). take i xs ++ y ∷ []) is in
    let one = flat_map-cons f x [] ∙ append-nil (f x) in
    let split = ap (flat_map f) cut ∙ flat_map-append f (take i xs) (x ∷ []) ∙ ap (λ (l : List ℕ). flat_map f (take i xs) ++ l) one in
    next ∙ ap (λ (l : List ℕ). l ++ f x) first ∙ append_assoc a (flat_map f (take i xs)) (f x) ∙ ap (λ (l : List ℕ). a ++ l) (sym split)

-- the bytes of all things, when none is left
pub adds_all : {X : Type 0} (f : X → List ℕ) (xs : List X) (i : ℕ) (a b : List ℕ) → length xs ≤ i → b ≡ a ++ flat_map f (take i xs) → b ≡ a ++ flat_map f xs
adds_all f xs i a b none_left first = first ∙ ap (λ (ys : List _). a ++ flat_map f ys) (take_all i xs none_left)
