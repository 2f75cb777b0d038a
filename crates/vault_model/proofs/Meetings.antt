-- What overlap and "under" mean.
use Rattle.std.specs.Prelude.{◌≡◌, ℕ, suc, ◌<◌, ◌≤◌, ◌↔◌, ◌⊎◌, ◌||◌, ◌==◌, Bool, true, false, List, length, Option, None, Some, refl}
use Rattle.std.proofs.Common.{sym, ◌∙◌, arith, inl, inr}
use Rattle.vault_state.specs.declared.place.Place.{Place}
use Rattle.vault_state.specs.declared.claims.Item.{Item}
use Rattle.vault_state.specs.Tree.{parent_of, is_under}
use Rattle.vault_state.specs.Claims.{look_set, change_set, meet, overlap}
use Rattle.vault_model.specs.Laws.{UnderIsByParents, OverlapIsAMeeting, OverlapIsSymmetric}
use Rattle.vault_state.proofs.Walks.{is_under-step, is_under-top, is_under-same}
use Rattle.vault_state.proofs.Overlaps.{or_cases, or_left, or_right, eq_from, eq_itself, meet_from, meet_to}

or_swapped : (a b : Bool) → (a || b) ≡ (b || a)
or_swapped true true = refl
or_swapped true false = refl
or_swapped false true = refl
or_swapped false false = refl

pub symmetric : OverlapIsSymmetric
unfolding overlap
symmetric tree c d = or_swapped (meet tree (change_set tree c) (look_set tree d)) (meet tree (change_set tree d) (look_set tree c))

abbrev Somewhere : List Place → List Item → List Item → Type 0
Somewhere tree c d = (p : ℕ) × (p ≤ length tree) × (((change_set tree c p ≡ true) × (look_set tree d p ≡ true)) ⊎ ((change_set tree d p ≡ true) × (look_set tree c p ≡ true)))

pub meeting : OverlapIsAMeeting
unfolding overlap
meeting tree c d = (
  λ e. by_half (or_cases _ _ e),
  λ found. by_side found.0 (let within = found.1 in omega arith) found.2,
)
  where
    by_half : (meet tree (change_set tree c) (look_set tree d) ≡ true) ⊎ (meet tree (change_set tree d) (look_set tree c) ≡ true) → Somewhere tree c d
    by_half (inl h) = let met = meet_from (suc (length tree)) (change_set tree c) (look_set tree d) h in let below = met.1 in (met.0, omega arith, inl (met.2, met.3))
    by_half (inr h) = let met = meet_from (suc (length tree)) (change_set tree d) (look_set tree c) h in let below = met.1 in (met.0, omega arith, inr (met.2, met.3))

    by_side : (p : ℕ) → p < suc (length tree) → ((change_set tree c p ≡ true) × (look_set tree d p ≡ true)) ⊎ ((change_set tree d p ≡ true) × (look_set tree c p ≡ true))
        → (meet tree (change_set tree c) (look_set tree d) || meet tree (change_set tree d) (look_set tree c)) ≡ true
    by_side p h (inl both) = or_left (meet tree (change_set tree c) (look_set tree d)) _ (meet_to (suc (length tree)) (change_set tree c) (look_set tree d) p h both.0 both.1)
    by_side p h (inr both) = or_right (meet tree (change_set tree c) (look_set tree d)) _ (meet_to (suc (length tree)) (change_set tree d) (look_set tree c) p h both.0 both.1)

abbrev ByParent : List Place → ℕ → ℕ → Type 0
ByParent tree p q = (p ≡ q) ⊎ ((r : ℕ) × (parent_of tree p ≡ Some r) × (is_under tree r q ≡ true))

pub by_parents : UnderIsByParents
by_parents tree p q kept = by_parent (parent_of tree p) refl
  where
    same : p ≡ q → is_under tree p q ≡ true
    same e = is_under-same tree p q (rw e (eq_itself q))

    from_parent : (r : ℕ) → parent_of tree p ≡ Some r → is_under tree r q ≡ true → is_under tree p q ≡ true
    from_parent r e h = is_under-step tree p q r kept.parents e ∙ or_right (p == q) (is_under tree r q) h

    back : ByParent tree p q → is_under tree p q ≡ true
    back (inl e) = same e
    back (inr found) = from_parent found.0 found.1 found.2

    by_parent : (o : Option ℕ) → parent_of tree p ≡ o → (is_under tree p q ≡ true) ↔ ByParent tree p q
    by_parent None e = (λ h. inl (eq_from p q (sym (is_under-top tree p q e) ∙ h)), back)
    by_parent (Some r) e = (λ h. by_case (or_cases _ _ (sym (is_under-step tree p q r kept.parents e) ∙ h)), back)
      where
        by_case : ((p == q) ≡ true) ⊎ (is_under tree r q ≡ true) → ByParent tree p q
        by_case (inl h) = inl (eq_from p q h)
        by_case (inr h) = inr (r, e, h)
