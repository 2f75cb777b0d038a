-- A loop over a list, one element further.
use Rattle.std.specs.Prelude.{◌≡◌, ℕ, ◌+◌, ◌<◌, ◌≤◌, List, [], ◌∷◌, ◌++◌, length, take, drop, if◌then◌else◌, is_ok, Result, Ok, Err}
use Rattle.std.specs.Result.{result_or}
use Rattle.std.proofs.Common.{ap, sym, ◌∙◌, get_or}
use Rattle.std.proofs.lemmas.List.{take_more, take_all, at_drop_more}

module _ {X : Type 0} (total : List X → ℕ) (of_one : X → ℕ) (adds : (x : X) (xs : List X) → total (x ∷ xs) ≡ of_one x + total xs) where
  -- what is left of a total, with one element taken
  pub one_taken : (xs : List X) (i : ℕ) (x : X) → i < length xs → x ≡ get_or xs i x → total (drop i xs) ≡ of_one x + total (drop (i + 1) xs)
  one_taken xs i x inside is = at_drop_more total xs i x inside ∙ adds (get_or xs i x) (drop (i + 1) xs) ∙ ap (λ (y : X). of_one y + total (drop (i + 1) xs)) (sym is)

-- a copy behind the copies so far, and all copies
pub copied_next : {X E F : Type 0} (xs : List X) (i : ℕ) (x y : X) (old new : List X) (pushed : Result (Unit {0}) E) (other : Result (Unit {0}) F) (failed : F) (done : Unit {0})
    → i < length xs → x ≡ get_or xs i x → y ≡ x → old ≡ take i xs → new ≡ (if is_ok pushed then old ++ y ∷ [] else old) → other ≡ result_or pushed (Err failed) → other ≡ Ok done → new ≡ take (i + 1) xs
copied_next xs i x y old new (Ok u) other failed done inside is same so_far push or ok =
    push ∙ ap (λ front. front ++ y ∷ []) so_far ∙ ap (λ (z : _). take i xs ++ z ∷ []) (same ∙ is) ∙ sym (take_more xs i x inside)
copied_next xs i x y old new (Err e) other failed done inside is same so_far push or ok = cc

pub copied_all : {X : Type 0} (xs : List X) (i : ℕ) (copies : List X) → length xs ≤ i → copies ≡ take i xs → copies ≡ xs
copied_all xs i copies past so_far = so_far ∙ take_all i xs past
