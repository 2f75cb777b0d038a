-- The index, when a place is put into it.
use Rattle.std.specs.Prelude.{◌≡◌, ◌≢◌, ℕ, zero, suc, ◌+◌, ◌<◌, ◌≤◌, Bool, true, false, ◌==◌, List, [], ◌∷◌, ◌++◌, length, None, Some, slice_get, slice_index_or, slice_set, map, refl}
use Rattle.std.proofs.Common.{sym, ap, ◌∙◌, arith, length-append, cond, ◌⊎◌, inl, inr}
use Rattle.std.proofs.Math.ListN.{length-set}
use Rattle.std.proofs.lemmas.Option.{get_or_from_slice_get}
use Rattle.std.proofs.lemmas.List.{append-nil}
use Rattle.std.proofs.lemmas.Bool.{cases_lt}
use Rattle.std.proofs.lemmas.Bool.Decides.{nat_tests}
use Rattle.vault_state.specs.declared.place.Place.{Place}
use Rattle.std.proofs.Math.Seq.{map-set_same}
use Rattle.std.proofs.lemmas.List.{map-append, map-set, get_or-map}
use Rattle.vault_state.specs.Tree.{may_have, child, is_full, children_of}
use Rattle.vault_state.proofs.Depths.{had}
use Rattle.vault_state.proofs.NewTree.{tree_new}
use Rattle.vault_state.proofs.Walks.{Rises}
use Rattle.vault_state.proofs.Growth.{slice_get-push_old, slice_get-push_new, IsTree-push}
use Rattle.design_tree.specs.Index.{IsIndexed, IsSoundTree, with_child}
use Rattle.design_tree.proofs.Children.{children_of-push, children_of-past}

slice_get-set_same : {X : Type 0} (xs : List X) (i : ℕ) (y : X) → i < length xs → slice_get (slice_set xs i y) i ≡ Some y
slice_get-set_same [] i y h = absurd (omega arith)
slice_get-set_same (x ∷ xs) zero y h = refl
slice_get-set_same (x ∷ xs) (suc i) y h = slice_get-set_same xs i y (omega arith)

slice_get-set_other : {X : Type 0} (xs : List X) (i j : ℕ) (y : X) → i ≢ j → slice_get (slice_set xs i y) j ≡ slice_get xs j
slice_get-set_other [] i j y other = refl
slice_get-set_other (x ∷ xs) zero zero y other = absurd (other refl)
slice_get-set_other (x ∷ xs) zero (suc j) y other = refl
slice_get-set_other (x ∷ xs) (suc i) zero y other = refl
slice_get-set_other (x ∷ xs) (suc i) (suc j) y other = slice_get-set_other xs i j y (λ e. other (ap suc e))

module _ (tree : List Place) (x : Place) (lists : List (List ℕ)) where
  -- the list of the new place's siblings, with the new place
  abbrev siblings : List ℕ
  siblings = slice_index_or lists x.parent [] ++ (length tree + 1) ∷ []

  -- the index of the tree with one more place
  pub IsIndexed-push : Rises tree → x.parent ≤ length tree → IsIndexed tree lists → IsIndexed (tree ++ x ∷ []) (with_child lists x.parent (length tree + 1))
  IsIndexed-push rises there indexed = record {
    whole = omega (arith, length-append tree (x ∷ []), length-append (slice_set lists x.parent siblings) ([] ∷ []), length-set lists x.parent siblings, indexed.whole);
    each = λ p h. by_place p (let longer = length-append tree (x ∷ []) in omega arith) (cases_lt p (suc (length tree)));
  }
    where
      old_siblings : slice_index_or lists x.parent [] ≡ children_of tree x.parent
      old_siblings = get_or_from_slice_get lists x.parent _ [] (indexed.each x.parent there)

      at_old : (p : ℕ) → p ≤ length tree → (b : Bool) → (x.parent == p) ≡ b → slice_get (slice_set lists x.parent siblings) p ≡ Some (children_of tree p ++ cond b ((length tree + 1) ∷ []) [])
      at_old p h true e =
          let same : x.parent ≡ p = grind (arith, nat_tests, e) in
          let inside : x.parent < length lists = omega (arith, indexed.whole) in
          ap (slice_get (slice_set lists x.parent siblings)) (sym same) ∙ slice_get-set_same lists x.parent siblings inside ∙ ap (λ cs. Some (cs ++ (length tree + 1) ∷ [])) (old_siblings ∙ ap (children_of tree) same)
      at_old p h false e =
          let other : x.parent ≢ p = grind (arith, nat_tests, e) in
          slice_get-set_other lists x.parent p siblings other ∙ indexed.each p h ∙ ap Some (sym (append-nil (children_of tree p)))

      at_new : slice_get (with_child lists x.parent (length tree + 1)) (suc (length tree)) ≡ Some (children_of (tree ++ x ∷ []) (suc (length tree)))
      at_new =
          let long : suc (length tree) ≡ length (slice_set lists x.parent siblings) = omega (arith, length-set lists x.parent siblings, indexed.whole) in
          let other : (x.parent == suc (length tree)) ≡ false = grind (arith, nat_tests) in
          let none : children_of (tree ++ x ∷ []) (suc (length tree)) ≡ [] =
          children_of-push tree x (suc (length tree)) ∙ ap (λ b. children_of tree (suc (length tree)) ++ cond b ((length tree + 1) ∷ []) []) other ∙ append-nil _ ∙ children_of-past tree (suc (length tree)) rises (omega arith) in
          ap (slice_get (with_child lists x.parent (length tree + 1))) long ∙ slice_get-push_new (slice_set lists x.parent siblings) [] ∙ ap Some (sym none)

      by_place : (p : ℕ) → p ≤ suc (length tree) → (p < suc (length tree)) ⊎ (suc (length tree) ≤ p) → slice_get (with_child lists x.parent (length tree + 1)) p ≡ Some (children_of (tree ++ x ∷ []) p)
      by_place p h (inl old) =
          let inside : p < length (slice_set lists x.parent siblings) = omega (arith, length-set lists x.parent siblings, indexed.whole) in
          slice_get-push_old (slice_set lists x.parent siblings) [] p inside ∙ at_old p (omega arith) (x.parent == p) refl ∙ ap Some (sym (children_of-push tree x p))
      by_place p h (inr new) =
          let same : suc (length tree) ≡ p = omega arith in
          ap (slice_get (with_child lists x.parent (length tree + 1))) (sym same) ∙ at_new ∙ ap (λ n. Some (children_of (tree ++ x ∷ []) n)) same

  -- the invariant of a tree holds with one more place
  pub IsSoundTree-push : IsSoundTree tree lists → x.parent ≤ length tree → may_have tree x.parent x.kind ≡ true → child tree x.parent x.name ≡ None → is_full tree x.parent ≡ false → IsSoundTree (tree ++ x ∷ []) (with_child lists x.parent (length tree + 1))
  IsSoundTree-push kept there kind fresh room = record {
    tree_is = let both = had tree x.parent x.kind kind in IsTree-push tree x kept.tree_is there both.1 both.0 fresh room;
    indexed = IsIndexed-push kept.tree_is.parents there kept.indexed;
  }

-- the lists in their holders, after one holder got one more place and an empty holder came last
pub with_child-map : {X : Type 0} (f : X → List ℕ) (xs : List X) (i place : ℕ) (old grown fresh : X) → i < length xs → old ≡ slice_index_or xs i old → f grown ≡ f old ++ place ∷ [] → f fresh ≡ []
    → map f (slice_set xs i grown ++ fresh ∷ []) ≡ with_child (map f xs) i place
with_child-map f xs i place old grown fresh inside is grows none =
    let siblings : slice_index_or (map f xs) i [] ≡ f old = get_or-map f xs i old [] inside ∙ ap f (sym is) in
    map-append f (slice_set xs i grown) (fresh ∷ [])
    ∙ ap (λ l. map f (slice_set xs i grown) ++ l ∷ []) none
    ∙ ap (λ ls. ls ++ [] ∷ []) (map-set f xs i grown ∙ ap (slice_set (map f xs) i) (grows ∙ ap (λ l. l ++ place ∷ []) (sym siblings)))

-- the lists stay where one holder was put back with the list that it had
pub map-put_back : {X : Type 0} (f : X → List ℕ) (xs : List X) (i : ℕ) (old back : X) → old ≡ slice_index_or xs i old → f back ≡ f old → map f (slice_set xs i back) ≡ map f xs
map-put_back f xs i old back is same = map-set_same f xs i back old (same ∙ ap f is)

-- the tree of the library alone
new_indexed : (p : ℕ) → p ≤ 0 → slice_get ([] ∷ []) p ≡ Some (children_of [] p)
new_indexed zero h = refl
new_indexed (suc p) h = absurd (omega arith)

pub IsSoundTree-new : (tree : List Place) (lists : List (List ℕ)) → tree ≡ [] → lists ≡ [] ∷ [] → IsSoundTree tree lists
IsSoundTree-new tree lists none one = rw (none, one) (record { tree_is = tree_new; indexed = record { whole = refl; each = new_indexed } })
