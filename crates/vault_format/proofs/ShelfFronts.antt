-- Shelves that have the first versions of a whole one.
use Rattle.std.proofs.Common.{◌≡◌, ◌≢◌, ℕ, suc, ◌≤◌, true, List, [], ◌∷◌, ◌++◌, length, refl, sym, ◌∙◌, ap, subst, arith, append_assoc, All, inl, inr}
use Rattle.std.specs.Prelude.{nat_le}
use Rattle.std.proofs.lemmas.Bool.Decides.{eqb_tells}
use Rattle.std.proofs.lemmas.List.{append-nil, get_or_default, length-append}
use Rattle.std.proofs.lemmas.List.Sums.{sum_by-cons, sum_by-append, list_all-from_AllPass}
use Rattle.vault_state.specs.Limits.{most_versions}
use Rattle.vault_state.specs.Shelf.{versions_of, shelved, content_weight, versions_weight, weight, is_shelvable, IsShelf, draft_at}
use Rattle.vault_state.proofs.Overlaps.{and_intro}
use Rattle.vault_state.proofs.Shelves.{versions_of-shelved, versions_of-shelved_other, le_true}
use Rattle.vault_format.specs.Places.{IsFrontOf, shelf_with}
use Rattle.vault_format.proofs.SpelledLists.{IsContent}
use Rattle.vault_format.proofs.Spelled.{contents_of}
use Rattle.vault_format.proofs.ListsRead.{all_next}

-- a place that can't have a version has none
pub no_versions : (shelf : List (List (List ℕ))) (p : ℕ) → (versions_of shelf p ≢ [] → ⊥) → versions_of shelf p ≡ []
no_versions shelf p never = by_versions (versions_of shelf p) refl
  where
    by_versions : (versions : List (List ℕ)) → versions_of shelf p ≡ versions → versions_of shelf p ≡ []
    by_versions [] is = is
    by_versions (x ∷ xs) is = absurd (never (λ none. let e = sym is ∙ none in cc))

-- they are no heavier
weight_front : (shelf whole : List (List (List ℕ))) → IsFrontOf shelf whole → weight shelf ≤ weight whole
weight_front [] whole front = omega arith
weight_front (versions ∷ shelf) [] front =
    let here = ap versions_weight (front 0).1 in
    let rest = weight_front shelf [] (λ p. front (suc p)) in
    omega (arith, here, rest, sum_by-cons versions_weight versions shelf, sum_by-append content_weight versions (front 0).0)
weight_front (versions ∷ shelf) (all ∷ whole) front =
    let here = ap versions_weight (front 0).1 in
    let rest = weight_front shelf whole (λ p. front (suc p)) in
    omega (arith, here, rest, sum_by-cons versions_weight versions shelf, sum_by-cons versions_weight all whole, sum_by-append content_weight versions (front 0).0)

-- the part's next version in a whole shelf is a content, and may be shelved
module _ (shelf whole : List (List (List ℕ))) (part : ℕ) (content : List ℕ) (is : IsShelf whole) (front : IsFrontOf (shelved shelf part content) whole) where
  pub next_short : IsContent content
  next_short =
      let versions : versions_of whole part ≡ versions_of shelf part ++ content ∷ (front part).0 =
      (front part).1 ∙ ap (λ (l : List (List ℕ)). l ++ (front part).0) (versions_of-shelved shelf part content) ∙ append_assoc (versions_of shelf part) (content ∷ []) (front part).0 in
      all_next IsContent (versions_of shelf part) (front part).0 content (subst (λ (l : List (List ℕ)). All IsContent l) versions (contents_of whole is part).short)

  few_at : (p : ℕ) → length (versions_of (shelved shelf part content) p) ≤ most_versions
  few_at p = omega (arith, (contents_of whole is p).few, ap length (front p).1, length-append (versions_of (shelved shelf part content) p) (front p).0)

  pub next_shelvable : is_shelvable shelf (draft_at part content ∷ []) ≡ true
  unfolding is_shelvable
  next_shelvable =
      and_intro _ _
      (and_intro _ _ (and_intro _ _ (le_true _ _ next_short) refl)
      (list_all-from_AllPass (λ versions. nat_le (length versions) most_versions) (shelved shelf part content)
      (λ p d inside. le_true _ _ (omega (arith, few_at p, ap length (get_or_default (shelved shelf part content) p d [] inside))))))
      (le_true _ _ (omega (arith, weight_front (shelved shelf part content) whole front, is.light)))

-- contents shelved one after another
pub shelf_with-append : (shelf : List (List (List ℕ))) (part : ℕ) (xs ys : List (List ℕ)) → shelf_with shelf part (xs ++ ys) ≡ shelf_with (shelf_with shelf part xs) part ys
shelf_with-append shelf part [] ys = refl
shelf_with-append shelf part (x ∷ xs) ys = shelf_with-append (shelved shelf part x) part xs ys

pub versions_of-shelf_with : (shelf : List (List (List ℕ))) (part : ℕ) (xs : List (List ℕ)) → versions_of (shelf_with shelf part xs) part ≡ versions_of shelf part ++ xs
versions_of-shelf_with shelf part [] = sym (append-nil (versions_of shelf part))
versions_of-shelf_with shelf part (x ∷ xs) =
    versions_of-shelf_with (shelved shelf part x) part xs
    ∙ ap (λ (l : List (List ℕ)). l ++ xs) (versions_of-shelved shelf part x)
    ∙ append_assoc (versions_of shelf part) (x ∷ []) xs

pub versions_of-shelf_with_other : (shelf : List (List (List ℕ))) (part : ℕ) (xs : List (List ℕ)) (other : ℕ) → part ≢ other → versions_of (shelf_with shelf part xs) other ≡ versions_of shelf other
versions_of-shelf_with_other shelf part [] other differ = refl
versions_of-shelf_with_other shelf part (x ∷ xs) other differ = versions_of-shelf_with_other (shelved shelf part x) part xs other differ ∙ versions_of-shelved_other shelf part x other differ

-- with fewer contents a shelf is still a front
pub shorter_front : (shelf whole : List (List (List ℕ))) (part : ℕ) (xs ys : List (List ℕ)) → IsFrontOf (shelf_with shelf part (xs ++ ys)) whole → IsFrontOf (shelf_with shelf part xs) whole
shorter_front shelf whole part xs ys front p = elim (eqb_tells part p) [
  | inl here ↦ (ys ++ (front p).0, subst (λ (q : ℕ). versions_of whole q ≡ versions_of (shelf_with shelf part xs) q ++ (ys ++ (front p).0)) here.1 (at_part (subst (λ (q : ℕ). versions_of whole q ≡ versions_of (shelf_with shelf part (xs ++ ys)) q ++ (front p).0) (sym here.1) (front p).1)))
  | inr other ↦ ((front p).0, (front p).1 ∙ ap (λ (l : List (List ℕ)). l ++ (front p).0) (versions_of-shelf_with_other shelf part (xs ++ ys) p other.1 ∙ sym (versions_of-shelf_with_other shelf part xs p other.1)))
]
  where
    at_part : versions_of whole part ≡ versions_of (shelf_with shelf part (xs ++ ys)) part ++ (front p).0 → versions_of whole part ≡ versions_of (shelf_with shelf part xs) part ++ (ys ++ (front p).0)
    at_part is =
        is ∙ ap (λ (l : List (List ℕ)). l ++ (front p).0) (versions_of-shelf_with shelf part (xs ++ ys) ∙ sym (append_assoc (versions_of shelf part) xs ys) ∙ ap (λ (l : List (List ℕ)). l ++ ys) (sym (versions_of-shelf_with shelf part xs)))
        ∙ append_assoc (versions_of (shelf_with shelf part xs) part) ys (front p).0
