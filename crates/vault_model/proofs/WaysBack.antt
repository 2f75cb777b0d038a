-- The way to a place leads back to it.
use Rattle.std.specs.Prelude.{◌≡◌, ℕ, zero, suc, ◌+◌, ◌<◌, ◌≤◌, ◌==◌, true, List, [], ◌∷◌, ◌++◌, length, Option, None, Some, slice_get, slice_index_or, position, refl}
use Rattle.std.proofs.Common.{sym, ap, subst, arith}
use Rattle.std.specs.Option.{option_map, option_and_then}
use Rattle.std.specs.Str.{bytes_eq}
use Rattle.std.proofs.lemmas.Option.{slice_get-get_or}
use Rattle.std.proofs.lemmas.List.Quantifiers.{position-Some}
use Rattle.std.proofs.lemmas.Slice.Eq.{bytes_eq-Decides}
use Rattle.vault_state.specs.declared.place.Place.{Place}
use Rattle.vault_state.specs.Tree.{no_place, is_child, child, find_below, find_place, path_of, IsTree}
use Rattle.vault_model.specs.Laws.{PathLeadsBack}
use Rattle.vault_state.proofs.Ways.{path_of-step}
use Rattle.vault_state.proofs.Growth.{none_passes}
use Rattle.vault_state.proofs.Overlaps.{and_both, eq_from, eq_itself}

-- a place is the child of its parent by its name
child_is : (tree : List Place) (i : ℕ) (x : Place) → IsTree tree → slice_get tree i ≡ Some x → child tree x.parent x.name ≡ Some (suc i)
child_is tree i x is e = by_position (position (is_child x.parent x.name) tree) refl
  where
    own : is_child x.parent x.name x ≡ true
    own = rw (eq_itself x.parent, (bytes_eq-Decides x.name x.name).1 refl) refl

    by_position : (o : Option ℕ) → position (is_child x.parent x.name) tree ≡ o → option_map (λ k. k + 1) o ≡ Some (suc i)
    by_position None none = let fails = none_passes (is_child x.parent x.name) tree i x none e in let yes = own in cc
    by_position (Some j) found =
        let first = position-Some (is_child x.parent x.name) tree j x found in
        let there : slice_get tree j ≡ Some (slice_index_or tree j x) = slice_get-get_or tree j x first.0 in
        let both = and_both ((slice_index_or tree j x).parent == x.parent) (bytes_eq (slice_index_or tree j x).name x.name) first.1 in
        let same : j ≡ i = is.siblings j i (slice_index_or tree j x) x there e (eq_from _ _ both.0) ((bytes_eq-Decides (slice_index_or tree j x).name x.name).0 both.1) in
        ap Some (omega (arith, same))

-- one name more leads to the child by it
find_below-last : (tree : List Place) (at : ℕ) (names : List (List ℕ)) (name : List ℕ) (p q : ℕ) → find_below tree at names ≡ Some p → child tree p name ≡ Some q → find_below tree at (names ++ name ∷ []) ≡ Some q
find_below-last tree at [] name p q led next =
    let same : at ≡ p = cc in
    by_child (child tree at name) (subst (λ k. child tree k name ≡ Some q) (sym same) next)
  where
    by_child : (o : Option ℕ) → o ≡ Some q → option_and_then (λ k. find_below tree k []) o ≡ Some q
    by_child None e = cc
    by_child (Some k) e = e
find_below-last tree at (first ∷ names) name p q led next = by_child (child tree at first) led (λ k e. find_below-last tree k names name p q e next)
  where
    by_child : (o : Option ℕ) → option_and_then (λ k. find_below tree k names) o ≡ Some p → ((k : ℕ) → find_below tree k names ≡ Some p → find_below tree k (names ++ name ∷ []) ≡ Some q) → option_and_then (λ k. find_below tree k (names ++ name ∷ [])) o ≡ Some q
    by_child None e rest = cc
    by_child (Some k) e rest = rest k e

pub path_leads_back : PathLeadsBack
path_leads_back tree place is there = within place place (omega arith) there
  where
    -- any place, to stand for one past the end
    none : Place
    none = no_place

    within : (n p : ℕ) → p ≤ n → p ≤ length tree → find_place tree (path_of tree p) ≡ Some p
    within n zero below inside = refl
    within zero (suc p) below inside = absurd (omega (arith, below))
    within (suc n) (suc p) below inside =
        let x = slice_index_or tree p none in
        let read : slice_get tree p ≡ Some x = slice_get-get_or tree p none (omega (arith, inside)) in
        let lower : x.parent < suc p = is.parents (suc p) x.parent (ap (option_map (λ (y : Place). y.parent)) read) in
        subst (λ way. find_place tree way ≡ Some (suc p)) (sym (path_of-step tree p x is.parents read))
        (find_below-last tree 0 (path_of tree x.parent) x.name x.parent (suc p) (within n x.parent (omega (arith, lower, below)) (omega (arith, lower, inside))) (child_is tree p x is read))
