-- A tree with one more place.
use Rattle.std.specs.Prelude.{◌≡◌, ℕ, zero, suc, ◌+◌, ◌<◌, ◌≤◌, Bool, true, false, not, ◌||◌, ◌==◌, nat_le, List, [], ◌∷◌, ◌++◌, length, Option, None, Some, slice_get, slice_index_or, position, refl}
use Rattle.std.proofs.Common.{rules, sym, ap, ◌∙◌, arith, length-append, cond, ltb, ◌⊎◌, inl, inr}
use Rattle.std.specs.Option.{option_map, option_map_or, option_and_then, IfSome}
use Rattle.std.specs.Str.{bytes_eq}
use Rattle.std.specs.List.{position_or_len}
use Rattle.std.proofs.lemmas.Option.{slice_get_past, slice_get_within, get_or_from_slice_get}
use Rattle.std.proofs.lemmas.List.Elements.{All-weaker}
use Rattle.std.proofs.lemmas.List.Sums.{prefix_len_passes, sum_by-append}
use Rattle.std.proofs.lemmas.Slice.Eq.{bytes_eq-Decides}
use Rattle.std.proofs.lemmas.Bool.{cases_lt}
use Rattle.std.proofs.lemmas.Bool.Decides.{nat_tests}
use Rattle.vault_state.specs.declared.place.Place.{Place}
use Rattle.vault_state.specs.declared.place.Kind.{Kind}
use Rattle.vault_state.specs.declared.place.Kind.TheVariants.{Library}
use Rattle.vault_state.specs.declared.claims.Item.{Item}
use Rattle.vault_state.specs.Tree.{parent_of, is_under_within, is_under, depth_within, depth, kind_of, is_part_kind, is_part, may_stand, is_child, child, find_below, find_place, children_count, is_full, IsTree}
use Rattle.vault_state.specs.Limits.{most_places, most_children}
use Rattle.vault_state.specs.Vault.{AreThere}
use Rattle.vault_state.proofs.Depths.{stands_shallow}
use Rattle.vault_state.proofs.Walks.{Rises, same_at, depth-step, depth-top}

pub slice_get-push_old : {X : Type 0} (xs : List X) (y : X) (i : ℕ) → i < length xs → slice_get (xs ++ y ∷ []) i ≡ slice_get xs i
slice_get-push_old [] y i h = absurd (omega arith)
slice_get-push_old (x ∷ xs) y zero h = refl
slice_get-push_old (x ∷ xs) y (suc i) h = slice_get-push_old xs y i (omega arith)

pub slice_get-push_new : {X : Type 0} (xs : List X) (y : X) → slice_get (xs ++ y ∷ []) (length xs) ≡ Some y
slice_get-push_new [] y = refl
slice_get-push_new (x ∷ xs) y = slice_get-push_new xs y

pub slice_get-push_past : {X : Type 0} (xs : List X) (y : X) (i : ℕ) → length xs < i → slice_get (xs ++ y ∷ []) i ≡ None
slice_get-push_past xs y i h = slice_get_past (xs ++ y ∷ []) i (omega (arith, length-append xs (y ∷ [])))

module _ (tree : List Place) (x : Place) where
  abbrev grown : List Place
  grown = tree ++ x ∷ []

  pub parent_of-push_old : (p : ℕ) → p ≤ length tree → parent_of grown p ≡ parent_of tree p
  parent_of-push_old zero h = refl
  parent_of-push_old (suc n) h = ap (option_map (λ (place : Place). place.parent)) (slice_get-push_old tree x n (omega arith))

  pub parent_of-push_new : parent_of grown (suc (length tree)) ≡ Some x.parent
  parent_of-push_new = ap (option_map (λ (place : Place). place.parent)) (slice_get-push_new tree x)

  pub parent_of-push_past : (p : ℕ) → suc (length tree) < p → parent_of grown p ≡ None
  parent_of-push_past zero h = refl
  parent_of-push_past (suc n) h = ap (option_map (λ (place : Place). place.parent)) (slice_get-push_past tree x n (omega arith))

  pub Rises-push : Rises tree → x.parent ≤ length tree → Rises grown
  Rises-push rises there p parent e = by_place (cases_lt p (suc (length tree)))
    where
      new_place : p ≡ suc (length tree) → parent < p
      new_place same =
          let known : parent_of grown p ≡ Some x.parent = rw same parent_of-push_new in
          let is : x.parent ≡ parent = cc in
          omega arith

      past_place : suc (length tree) < p → parent < p
      past_place far = let none = parent_of-push_past p far in cc

      by_rest : (p < suc (suc (length tree))) ⊎ (suc (suc (length tree)) ≤ p) → suc (length tree) ≤ p → parent < p
      by_rest (inl h) k = new_place (omega arith)
      by_rest (inr h) k = past_place (omega arith)

      by_place : (p < suc (length tree)) ⊎ (suc (length tree) ≤ p) → parent < p
      by_place (inl h) = rises p parent (sym (parent_of-push_old p (omega arith)) ∙ e)
      by_place (inr h) = by_rest (cases_lt p (suc (suc (length tree)))) h

  pub under_within-push : (n p q : ℕ) → Rises tree → p ≤ length tree → is_under_within n grown p q ≡ is_under_within n tree p q
  under_within-push zero p q rises h = refl
  under_within-push (suc n) p q rises h =
      ap (λ o. (p == q) || option_map_or (λ r. is_under_within n grown r q) o false) (parent_of-push_old p h)
      ∙ ap (λ b. (p == q) || b) (same_at (parent_of tree p) _ _ false (λ r e. let lower : r < p = rises p r e in under_within-push n r q rises (omega arith)))

  -- a new place changes nothing about the places before it
  pub is_under-push : (p q : ℕ) → Rises tree → p ≤ length tree → is_under grown p q ≡ is_under tree p q
  is_under-push p q rises h = under_within-push p p q rises h

  pub depth_within-push : (n p : ℕ) → Rises tree → p ≤ length tree → depth_within n grown p ≡ depth_within n tree p
  depth_within-push zero p rises h = refl
  depth_within-push (suc n) p rises h =
      ap (λ o. option_map_or (λ r. suc (depth_within n grown r)) o 0) (parent_of-push_old p h)
      ∙ same_at (parent_of tree p) _ _ 0 (λ r e. let lower : r < p = rises p r e in ap suc (depth_within-push n r rises (omega arith)))

  pub depth-push : (p : ℕ) → Rises tree → p ≤ length tree → depth grown p ≡ depth tree p
  depth-push p rises h = depth_within-push p p rises h

  pub depth-push_new : Rises tree → x.parent ≤ length tree → depth grown (suc (length tree)) ≡ suc (depth tree x.parent)
  depth-push_new rises there =
      depth-step grown (suc (length tree)) x.parent (Rises-push rises there) parent_of-push_new
      ∙ ap suc (depth-push x.parent rises there)

  -- nor the kind of one of them
  pub kind_of-push : (p : ℕ) → p ≤ length tree → kind_of grown p ≡ kind_of tree p
  kind_of-push zero h = refl
  kind_of-push (suc n) h = ap (λ o. option_map_or (λ (place : Place). place.kind) o Library) (slice_get-push_old tree x n (omega arith))

  pub kind_of-push_new : kind_of grown (suc (length tree)) ≡ x.kind
  kind_of-push_new = ap (λ o. option_map_or (λ (place : Place). place.kind) o Library) (slice_get-push_new tree x)

  kind_of-push_past : (p : ℕ) → suc (length tree) < p → kind_of grown p ≡ Library
  kind_of-push_past zero h = refl
  kind_of-push_past (suc n) h = ap (λ o. option_map_or (λ (place : Place). place.kind) o Library) (slice_get-push_past tree x n (omega arith))

  pub is_part-push : (p : ℕ) → p ≤ length tree → is_part grown p ≡ is_part tree p
  is_part-push p h = ap is_part_kind (kind_of-push p h)

  -- under a place that is no part, it leaves no part above a place
  pub no_parts_above-push : Rises tree → x.parent ≤ length tree → is_part tree x.parent ≡ false → ((p parent : ℕ) → parent_of tree p ≡ Some parent → is_part tree parent ≡ false)
      → (p parent : ℕ) → parent_of grown p ≡ Some parent → is_part grown parent ≡ false
  no_parts_above-push rises there above none p parent e = by_place (cases_lt p (suc (length tree))) (cases_lt p (suc (suc (length tree))))
    where
      by_place : (p < suc (length tree)) ⊎ (suc (length tree) ≤ p) → (p < suc (suc (length tree))) ⊎ (suc (suc (length tree)) ≤ p) → is_part grown parent ≡ false
      by_place (inl h) other =
          let old : parent_of tree p ≡ Some parent = sym (parent_of-push_old p (omega (arith, h))) ∙ e in
          is_part-push parent (omega (arith, rises p parent old, h)) ∙ none p parent old
      by_place (inr h) (inl g) =
          let last : p ≡ suc (length tree) = omega (arith, h, g) in
          let known : parent_of grown p ≡ Some x.parent = rw last parent_of-push_new in
          let same : x.parent ≡ parent = cc in
          rw (← same) (is_part-push x.parent there ∙ above)
      by_place (inr h) (inr g) = let past = parent_of-push_past p (omega (arith, g)) in cc

  -- one that may stand under its parent leaves each kind at its depths
  pub kinds-push : Rises tree → x.parent ≤ length tree → may_stand x.kind (suc (depth tree x.parent)) ≡ true → ((p : ℕ) → may_stand (kind_of tree p) (depth tree p) ≡ true)
      → (p : ℕ) → may_stand (kind_of grown p) (depth grown p) ≡ true
  kinds-push rises there stands kinds p = by_place (cases_lt p (suc (length tree)))
    where
      by_parts : {k l : Kind} {c d : ℕ} → k ≡ l → c ≡ d → may_stand l d ≡ true → may_stand k c ≡ true
      by_parts same_kind same_depth known = rw (same_kind, same_depth) known

      by_rest : (p < suc (suc (length tree))) ⊎ (suc (suc (length tree)) ≤ p) → suc (length tree) ≤ p → may_stand (kind_of grown p) (depth grown p) ≡ true
      by_rest (inl h) k =
          let same : p ≡ suc (length tree) = omega arith in
          by_parts (ap (kind_of grown) same ∙ kind_of-push_new) (ap (depth grown) same ∙ depth-push_new rises there) stands
      by_rest (inr h) k = by_parts (kind_of-push_past p (omega arith)) (depth-top grown p (parent_of-push_past p (omega arith))) refl

      by_place : (p < suc (length tree)) ⊎ (suc (length tree) ≤ p) → may_stand (kind_of grown p) (depth grown p) ≡ true
      by_place (inl h) = by_parts (kind_of-push p (omega arith)) (depth-push p rises (omega arith)) (kinds p)
      by_place (inr h) = by_rest (cases_lt p (suc (suc (length tree)))) h

-- no element passes where `position` finds none
pub none_passes : {X : Type 0} (p : X → Bool) (xs : List X) (i : ℕ) (a : X) → position p xs ≡ None → slice_get xs i ≡ Some a → p a ≡ false
none_passes p xs i a none e =
    let inside : i < length xs = slice_get_within xs i a e in
    let here = get_or_from_slice_get xs i a a e in
    by_test (cases_lt (position_or_len p xs) (length xs)) (ltb (position_or_len p xs) (length xs)) refl inside here
  where
    fails : not (p a) ≡ true → p a ≡ false
    fails h = by_value (p a) h
      where
        by_value : (b : Bool) → not b ≡ true → b ≡ false
        by_value true k = sym k
        by_value false k = refl

    by_test : (position_or_len p xs < length xs) ⊎ (length xs ≤ position_or_len p xs) → (b : Bool) → ltb (position_or_len p xs) (length xs) ≡ b → i < length xs → slice_index_or xs i a ≡ a → p a ≡ false
    by_test (inl h) b k inside here = grind (arith, none, h)
    by_test (inr h) b k inside here = fails (ap (λ y. not (p y)) (sym here) ∙ prefix_len_passes (λ y. not (p y)) xs i a (omega arith))

module _ (tree : List Place) (x : Place) where
  -- one more child of its parent
  pub children_count-push : (p : ℕ) → children_count (grown tree x) p ≡ children_count tree p + cond (x.parent == p) 1 0
  children_count-push p = sum_by-append (λ (place : Place). cond (place.parent == p) 1 0) tree (x ∷ []) ∙ omega arith

  fresh : child tree x.parent x.name ≡ None → position (is_child x.parent x.name) tree ≡ None
  fresh e = by_option (position (is_child x.parent x.name) tree) e
    where
      by_option : (o : Option ℕ) → option_map (λ i. i + 1) o ≡ None → o ≡ None
      by_option None h = refl
      by_option (Some i) h = cc

  -- no place before is a child of its parent by its name
  pub none_alike : child tree x.parent x.name ≡ None → (i : ℕ) (a : Place) → slice_get tree i ≡ Some a → a.parent ≡ x.parent → a.name ≡ x.name → ⊥
  none_alike none i a there parents names =
      let fails : is_child x.parent x.name a ≡ false = none_passes _ tree i a (fresh none) there in
      let same : bytes_eq a.name x.name ≡ true = (bytes_eq-Decides a.name x.name).1 names in
      let equal : (a.parent == x.parent) ≡ true = search (rules, parents) in
      let both : is_child x.parent x.name a ≡ true = rw (equal, same) refl in
      cc

  pub siblings-push : child tree x.parent x.name ≡ None
      → ((i j : ℕ) (a b : Place) → slice_get tree i ≡ Some a → slice_get tree j ≡ Some b → a.parent ≡ b.parent → a.name ≡ b.name → i ≡ j)
      → (i j : ℕ) (a b : Place) → slice_get (grown tree x) i ≡ Some a → slice_get (grown tree x) j ≡ Some b → a.parent ≡ b.parent → a.name ≡ b.name → i ≡ j
  siblings-push none differ i j a b ei ej parents names = by_places (place_of i a ei) (place_of j b ej)
    where
      -- an element of the grown tree is the new one, or one of the tree
      place_of : (k : ℕ) (y : Place) → slice_get (grown tree x) k ≡ Some y → ((k ≡ length tree) × (y ≡ x)) ⊎ (slice_get tree k ≡ Some y)
      place_of k y e = by_rest (cases_lt k (length tree)) (cases_lt k (suc (length tree)))
        where
          by_rest : (k < length tree) ⊎ (length tree ≤ k) → (k < suc (length tree)) ⊎ (suc (length tree) ≤ k) → ((k ≡ length tree) × (y ≡ x)) ⊎ (slice_get tree k ≡ Some y)
          by_rest (inl h) other = inr (sym (slice_get-push_old tree x k h) ∙ e)
          by_rest (inr h) (inl g) =
              let same : k ≡ length tree = omega arith in
              let known : slice_get (grown tree x) k ≡ Some x = rw same (slice_get-push_new tree x) in
              let is : y ≡ x = cc in
              inl (same, is)
          by_rest (inr h) (inr g) = let known = slice_get-push_past tree x k (omega arith) in cc

      by_places : ((i ≡ length tree) × (a ≡ x)) ⊎ (slice_get tree i ≡ Some a) → ((j ≡ length tree) × (b ≡ x)) ⊎ (slice_get tree j ≡ Some b) → i ≡ j
      by_places (inl g) (inl h) = cc
      by_places (inl g) (inr h) = absurd (none_alike none j b h (sym parents ∙ ap (λ (y : Place). y.parent) g.1) (sym names ∙ ap (λ (y : Place). y.name) g.1))
      by_places (inr g) (inl h) = absurd (none_alike none i a g (parents ∙ ap (λ (y : Place). y.parent) h.1) (names ∙ ap (λ (y : Place). y.name) h.1))
      by_places (inr g) (inr h) = differ i j a b g h parents names

  pub IsTree-push : IsTree tree → x.parent ≤ length tree → may_stand x.kind (suc (depth tree x.parent)) ≡ true → is_part tree x.parent ≡ false → child tree x.parent x.name ≡ None → is_full tree x.parent ≡ false → IsTree (grown tree x)
  IsTree-push h there stands above none room = record {
    few = let longer = length-append tree (x ∷ []) in grind (arith, nat_tests, free.0);
    parents = Rises-push tree x h.parents there;
    shallow = λ p. stands_shallow (kind_of (grown tree x) p) (depth (grown tree x) p) (kinds p);
    no_parts_above = no_parts_above-push tree x h.parents there above h.no_parts_above;
    siblings = siblings-push none h.siblings;
    narrow = λ p. rw (children_count-push p) (by_parent p (x.parent == p) refl);
    kinds = kinds;
  }
    where
      kinds : (p : ℕ) → may_stand (kind_of (grown tree x) p) (depth (grown tree x) p) ≡ true
      kinds = kinds-push tree x h.parents there stands h.kinds

      both_false : (a b : Bool) → (a || b) ≡ false → (a ≡ false) × (b ≡ false)
      both_false true b e = cc
      both_false false b e = (refl, e)

      free : (nat_le most_places (length tree + 1) ≡ false) × (nat_le most_children (children_count tree x.parent) ≡ false)
      free = both_false _ _ room

      few_children : children_count tree x.parent < most_children
      few_children = grind (arith, nat_tests, free.1)

      by_parent : (p : ℕ) (b : Bool) → (x.parent == p) ≡ b → children_count tree p + cond (x.parent == p) 1 0 ≤ most_children
      by_parent p true e = let same : x.parent ≡ p = grind (arith, nat_tests, e) in rw e (let fewer : children_count tree p < most_children = rw (← same) few_children in omega arith)
      by_parent p false e = let bound = h.narrow p in rw e (omega arith)

child_there : (tree : List Place) (parent : ℕ) (name : List ℕ) → IfSome (child tree parent name) (λ p. p ≤ length tree)
child_there tree parent name = by_test (ltb (position_or_len (is_child parent name) tree) (length tree)) refl
  where
    by_test : (b : Bool) → ltb (position_or_len (is_child parent name) tree) (length tree) ≡ b → IfSome (option_map (λ i. i + 1) (cond b (Some (position_or_len (is_child parent name) tree)) None)) (λ p. p ≤ length tree)
    by_test true e = grind (arith, nat_tests, e)
    by_test false e = tt

find_below_there : (tree : List Place) (at : ℕ) (names : List (List ℕ)) → at ≤ length tree → IfSome (find_below tree at names) (λ p. p ≤ length tree)
find_below_there tree at [] h = h
find_below_there tree at (name ∷ names) h = by_child (child tree at name) (child_there tree at name) (λ next k. find_below_there tree next names k)
  where
    by_child : (o : Option ℕ) → IfSome o (λ p. p ≤ length tree) → ((next : ℕ) → next ≤ length tree → IfSome (find_below tree next names) (λ p. p ≤ length tree)) → IfSome (option_and_then (λ next. find_below tree next names) o) (λ p. p ≤ length tree)
    by_child None k f = tt
    by_child (Some next) k f = f next k

-- what a path leads to is there
pub find_place_there : (tree : List Place) (path : List (List ℕ)) → IfSome (find_place tree path) (λ p. p ≤ length tree)
find_place_there tree path = find_below_there tree 0 path (omega arith)

-- items stay there as the tree grows
pub AreThere-push : (tree : List Place) (x : Place) (items : List Item) → AreThere tree items → AreThere (tree ++ x ∷ []) items
AreThere-push tree x items = All-weaker (λ (item : Item). item.place ≤ length tree) (λ (item : Item). item.place ≤ length (tree ++ x ∷ [])) (λ item h. let longer = length-append tree (x ∷ []) in omega arith) items
