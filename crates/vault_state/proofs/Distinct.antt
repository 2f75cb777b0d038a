-- Lists whose members have keys of their own.
use Rattle.std.specs.Prelude.{◌≡◌, Bool, true, false, List, [], ◌∷◌, ◌++◌, map, filter, All}
use Rattle.std.proofs.Common.{cond}
use Rattle.std.specs.List.{IsDistinct, AllByRecursion}
use Rattle.std.proofs.lemmas.List.Elements.{All-head, All-tail}

module _ {X K : Type 0} (e : K → K → Bool) (key : X → K) where
  all_push : (P : K → Type 0) (xs : List X) (y : X) → AllByRecursion P (map key xs) → P (key y) → AllByRecursion P (map key (xs ++ y ∷ []))
  all_push P [] y all h = (h, tt)
  all_push P (x ∷ xs) y all h = (all.0, all_push P xs y all.1 h)

  all_filter : (P : K → Type 0) (test : X → Bool) (xs : List X) → AllByRecursion P (map key xs) → AllByRecursion P (map key (filter test xs))
  all_filter P test [] all = tt
  all_filter P test (x ∷ xs) all = by_test (test x) all.0 (all_filter P test xs all.1)
    where
      by_test : (b : Bool) → P (key x) → AllByRecursion P (map key (filter test xs)) → AllByRecursion P (map key (cond b (x ∷ filter test xs) (filter test xs)))
      by_test true h rest = (h, rest)
      by_test false h rest = rest

  -- one more member at the end, whose key is new
  pub IsDistinct-push : (xs : List X) (y : X) → IsDistinct e (map key xs) → All (λ x. e (key x) (key y) ≡ false) xs → IsDistinct e (map key (xs ++ y ∷ []))
  unfolding IsDistinct
  IsDistinct-push [] y distinct fresh = (tt, tt)
  IsDistinct-push (x ∷ xs) y distinct fresh = (
    all_push (λ k. e (key x) k ≡ false) xs y distinct.0 (All-head (λ z. e (key z) (key y) ≡ false) x xs fresh),
    IsDistinct-push xs y distinct.1 (All-tail (λ z. e (key z) (key y) ≡ false) x xs fresh),
  )

  -- fewer members
  pub IsDistinct-filter : (test : X → Bool) (xs : List X) → IsDistinct e (map key xs) → IsDistinct e (map key (filter test xs))
  unfolding IsDistinct
  IsDistinct-filter test [] distinct = tt
  IsDistinct-filter test (x ∷ xs) distinct = by_test (test x) (all_filter (λ k. e (key x) k ≡ false) test xs distinct.0) (IsDistinct-filter test xs distinct.1)
    where
      by_test : (b : Bool) → AllByRecursion (λ k. e (key x) k ≡ false) (map key (filter test xs)) → IsDistinct e (map key (filter test xs)) → IsDistinct e (map key (cond b (x ∷ filter test xs) (filter test xs)))
      by_test true h rest = (h, rest)
      by_test false h rest = rest
