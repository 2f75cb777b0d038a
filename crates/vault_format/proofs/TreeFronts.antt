-- The first places of a tree are a tree, and what follows them may be made there.
use Rattle.std.proofs.Common.{◌≡◌, ℕ, zero, suc, ◌+◌, ◌<◌, ◌≤◌, ◌==◌, Bool, true, false, not, cond, ltb, List, [], ◌∷◌, ◌++◌, length, get_or, Some, None, refl, sym, ◌∙◌, ap, subst, arith, length-append, inl, inr}
use Rattle.std.specs.Prelude.{slice_get, position}
use Rattle.std.specs.Option.{option_map, option_map_or}
use Rattle.std.specs.List.{position_or_len}
use Rattle.std.specs.Str.{bytes_eq}
use Rattle.std.proofs.lemmas.Bool.{cases_lt, le-ltb}
use Rattle.std.proofs.lemmas.Bool.Decides.{nat_tests}
use Rattle.std.proofs.lemmas.Option.{slice_get_past, slice_get_within, slice_get-get_or}
use Rattle.std.proofs.lemmas.List.Sums.{prefix_len_is, sum_by-append}
use Rattle.std.proofs.lemmas.Slice.Eq.{bytes_eq-Decides}
use Rattle.vault_state.specs.declared.place.Place.{Place}
use Rattle.vault_state.specs.Limits.{most_places, most_children}
use Rattle.vault_state.specs.declared.place.Kind.{Kind}
use Rattle.vault_state.specs.declared.place.Kind.TheVariants.{Library}
use Rattle.vault_state.specs.Tree.{parent_of, depth, kind_of, is_part_kind, is_part, may_stand, is_child, child, children_count, is_full, IsTree}
use Rattle.vault_state.proofs.Walks.{Rises, depth-top}
use Rattle.vault_state.proofs.Growth.{slice_get-push_old, slice_get-push_new, parent_of-push_new, kind_of-push_new, is_part-push, depth-push, depth-push_new, children_count-push}
use Rattle.vault_state.proofs.Overlaps.{and_both, eq_from, eq_itself}
use Rattle.vault_state.proofs.Lists.{slice_get-front}
use Rattle.design_tree.specs.Added.{refusal}
use Rattle.vault_format.specs.declared.version.FileVersion.{FileVersion}
use Rattle.vault_format.specs.Snapshot.{IsKindIn, AreKindsIn}
use Rattle.vault_format.proofs.SpelledPlaces.{parent-front, depth_same}

-- the same kind may stand at the same depth
pub stands : {k l : Kind} {c d : ℕ} → k ≡ l → c ≡ d → may_stand k c ≡ true → may_stand l d ≡ true
stands kinds depths known = rw (sym kinds, sym depths) known

module _ (front rest : List Place) where
  parent_past : (p : ℕ) → length front < p → parent_of front p ≡ None
  parent_past zero past = absurd (omega (arith, past))
  parent_past (suc n) past = ap (option_map (λ (place : Place). place.parent)) (slice_get_past front n (omega (arith, past)))

  pub rises_front : Rises (front ++ rest) → Rises front
  rises_front rises p parent is = elim (cases_lt (length front) p) [
    | inl past ↦ (let none = parent_past p past in absurd (cc))
    | inr within ↦ rises p parent (parent-front front rest p within ∙ is)
  ]

  pub depth_front : Rises (front ++ rest) → (p : ℕ) → p ≤ length front → depth (front ++ rest) p ≡ depth front p
  depth_front rises p within = depth_same (front ++ rest) front (length front) p p (λ q le. parent-front front rest q le) rises within

  kind_front : (p : ℕ) → p ≤ length front → kind_of (front ++ rest) p ≡ kind_of front p
  kind_front zero within = refl
  kind_front (suc n) within = ap (λ o. option_map_or (λ (place : Place). place.kind) o Library) (slice_get-front front rest n (omega (arith, within)))

  kind_past : (p : ℕ) → length front < p → kind_of front p ≡ Library
  kind_past zero past = absurd (omega (arith, past))
  kind_past (suc n) past = ap (λ o. option_map_or (λ (place : Place). place.kind) o Library) (slice_get_past front n (omega (arith, past)))

  still_there : (i : ℕ) (a : Place) → slice_get front i ≡ Some a → slice_get (front ++ rest) i ≡ Some a
  still_there i a is = slice_get-front front rest i (slice_get_within front i a is) ∙ is

  pub tree_front : IsTree (front ++ rest) → IsTree front
  tree_front is = record {
    few = omega (arith, is.few, length-append front rest);
    parents = rises_front is.parents;
    shallow = λ p. elim (cases_lt (length front) p) [
      | inl past ↦ omega (arith, depth-top front p (parent_past p past))
      | inr within ↦ omega (arith, depth_front is.parents p within, is.shallow p)
    ];
    no_parts_above = λ p parent e. elim (cases_lt (length front) p) [
      | inl past ↦ (let none = parent_past p past in absurd (cc))
      | inr within ↦
          let whole = parent-front front rest p within ∙ e in
          ap is_part_kind (sym (kind_front parent (omega (arith, is.parents p parent whole, within)))) ∙ is.no_parts_above p parent whole
    ];
    kinds = λ p. elim (cases_lt (length front) p) [
      | inl past ↦ stands (sym (kind_past p past)) (sym (depth-top front p (parent_past p past))) refl
      | inr within ↦ stands (kind_front p within) (depth_front is.parents p within) (is.kinds p)
    ];
    siblings = λ i j a b at_i at_j parents names. is.siblings i j a b (still_there i a at_i) (still_there j b at_j) parents names;
    narrow = λ p. omega (arith, is.narrow p, sum_by-append (λ (place : Place). cond (place.parent == p) 1 0) front rest);
  }

-- a version that can spell the kinds of a tree can spell those of its first places
pub kinds_front : (version : FileVersion) (front rest : List Place) → IsTree (front ++ rest) → AreKindsIn version (front ++ rest) → AreKindsIn version front
kinds_front version front rest is kinds i place at =
    let whole = still_there front rest i place at in
    let lower : place.parent < suc i = is.parents (suc i) place.parent (ap (option_map (λ (x : Place). x.parent)) whole) in
    let inside = slice_get_within front i place at in
    subst (λ (d : ℕ). IsKindIn version place.kind (suc d)) (depth_front front rest is.parents place.parent (omega (arith, lower, inside))) (kinds i place whole)

-- and with a place more, whose kind it can spell
pub kinds_push : (version : FileVersion) (tree : List Place) (x : Place) → Rises tree → x.parent ≤ length tree → AreKindsIn version tree → IsKindIn version x.kind (suc (depth tree x.parent)) → AreKindsIn version (tree ++ x ∷ [])
kinds_push version tree x rises there kinds own i place at = elim (cases_lt i (length tree)) [
  | inl old ↦
      let before : slice_get tree i ≡ Some place = sym (slice_get-push_old tree x i old) ∙ at in
      let lower : place.parent < suc i = rises (suc i) place.parent (ap (option_map (λ (y : Place). y.parent)) before) in
      subst (λ (d : ℕ). IsKindIn version place.kind (suc d)) (sym (depth-push tree x place.parent rises (omega (arith, lower, old)))) (kinds i place before)
  | inr new ↦
      let inside = slice_get_within (tree ++ x ∷ []) i place at in
      let last : i ≡ length tree = omega (arith, inside, new, length-append tree (x ∷ [])) in
      let read : slice_get (tree ++ x ∷ []) i ≡ Some x = ap (slice_get (tree ++ x ∷ [])) last ∙ slice_get-push_new tree x in
      let same : x ≡ place = cc in
      subst (λ (y : Place). IsKindIn version y.kind (suc (depth (tree ++ x ∷ []) y.parent))) same
      (subst (λ (d : ℕ). IsKindIn version x.kind (suc d)) (sym (depth-push tree x x.parent rises there)) own)
]

-- no element passes, so none is found
none_found : {X : Type 0} (p : X → Bool) (xs : List X) (d : X) → ((i : ℕ) (a : X) → slice_get xs i ≡ Some a → p a ≡ true → ⊥) → position p xs ≡ None
none_found {X} p xs d never =
    let all : position_or_len p xs ≡ length xs = prefix_len_is (λ y. not (p y)) xs (length xs) d (omega arith) (λ k h. fails (p (get_or xs k d)) (never k (get_or xs k d) (slice_get-get_or xs k d h))) (λ h. absurd (omega (arith, h))) in
    let past : ltb (position_or_len p xs) (length xs) ≡ false = le-ltb _ _ (omega (arith, all)) in
    ap (λ (b : Bool). cond b (Some (position_or_len p xs)) None) past
  where
    fails : (b : Bool) → (b ≡ true → ⊥) → not b ≡ true
    fails true wrong = absurd (wrong refl)
    fails false wrong = refl

-- the last place of a tree was one that may be made
module _ (tree : List Place) (x : Place) (is : IsTree (tree ++ x ∷ [])) where
  pub last_parent : x.parent ≤ length tree
  last_parent = let lower : x.parent < suc (length tree) = is.parents (suc (length tree)) x.parent (parent_of-push_new tree x) in omega (arith, lower)

  rises : Rises tree
  rises = rises_front tree (x ∷ []) is.parents

  no_part : is_part tree x.parent ≡ false
  no_part = sym (is_part-push tree x x.parent last_parent) ∙ is.no_parts_above (suc (length tree)) x.parent (parent_of-push_new tree x)

  no_child : child tree x.parent x.name ≡ None
  no_child =
      ap (option_map (λ (i : ℕ). i + 1))
      (none_found (is_child x.parent x.name) tree x (λ i a there alike.
      let both = and_both (a.parent == x.parent) (bytes_eq a.name x.name) alike in
      let inside = slice_get_within tree i a there in
      let same = is.siblings i (length tree) a x (slice_get-push_old tree x i inside ∙ there) (slice_get-push_new tree x) (eq_from a.parent x.parent both.0) ((bytes_eq-Decides a.name x.name).0 both.1) in
      omega (arith, same, inside)))

  no_limit : is_full tree x.parent ≡ false
  no_limit =
      let few : length tree + 1 < most_places = omega (arith, is.few, length-append tree (x ∷ [])) in
      let one : ◌≡◌ {A = ℕ} (cond (x.parent == x.parent) 1 0) 1 = ap (λ (b : Bool). cond b 1 0) (eq_itself x.parent) in
      let narrow : children_count tree x.parent < most_children = omega (arith, is.narrow x.parent, children_count-push tree x x.parent, one) in
      grind (arith, nat_tests)

  pub last_stands : may_stand x.kind (suc (depth tree x.parent)) ≡ true
  last_stands = stands (kind_of-push_new tree x) (depth-push_new tree x rises last_parent) (is.kinds (suc (length tree)))

  pub may_follow : refusal tree x.parent x.name x.kind ≡ None
  may_follow = rw (no_part, last_stands, no_child, no_limit) refl
