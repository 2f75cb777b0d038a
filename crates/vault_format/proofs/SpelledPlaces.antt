-- The places of a snapshot are of one tree, and their versions of one shelf.
use Rattle.std.proofs.Common.{◌≡◌, ℕ, zero, suc, ◌+◌, ◌-◌, ◌<◌, ◌≤◌, ◌^◌, Bool, true, false, List, [], ◌∷◌, ◌++◌, length, Option, refl, sym, ◌∙◌, ap, subst, arith, append_assoc, length-append, All, inl, inr}
use Rattle.std.specs.Prelude.{slice_get, Some}
use Rattle.std.specs.Option.{option_map, option_map_or}
use Rattle.std.proofs.lemmas.Bool.{cases_lt}
use Rattle.std.proofs.lemmas.List.{ext_get_or, get_or_past}
use Rattle.std.proofs.lemmas.List.Elements.{All-head, All-tail}
use Rattle.vault_state.specs.declared.place.Place.{Place}
use Rattle.vault_state.specs.Name.{IsName}
use Rattle.vault_state.specs.declared.place.Kind.{Kind}
use Rattle.vault_state.specs.declared.place.Kind.TheVariants.{Library}
use Rattle.vault_state.specs.Tree.{parent_of, depth_within, depth, kind_of, is_part_kind, is_part, may_stand, new_place, IsTree}
use Rattle.vault_state.specs.Shelf.{versions_of, IsShelf}
use Rattle.vault_state.specs.Vault.{Vault}
use Rattle.vault_state.proofs.Walks.{Rises, same_at, depth-step}
use Rattle.vault_state.proofs.Lists.{slice_get-front}
use Rattle.vault_journal.specs.Spelling.{in_four, name_bytes}
use Rattle.vault_format.specs.declared.version.FileVersion.{FileVersion}
use Rattle.vault_format.specs.Snapshot.{versions_bytes, versions_field, kind_field, kind_bytes, places_bytes, IsKindIn, AreKindsIn}
use Rattle.vault_format.proofs.KindBytes.{kinds_told}
use Rattle.vault_format.proofs.OneReading.{one_number, same_front}
use Rattle.vault_format.proofs.SpelledLists.{name_tells, AreContents, versions_tell}

pub parent-front : (xs ys : List Place) (p : ℕ) → p ≤ length xs → parent_of (xs ++ ys) p ≡ parent_of xs p
parent-front xs ys zero h = refl
parent-front xs ys (suc k) h = ap (option_map (λ (place : Place). place.parent)) (slice_get-front xs ys k (omega (arith, h)))

-- trees that agree on the first places agree on their depths
pub depth_same : (t u : List Place) (m n p : ℕ) → ((q : ℕ) → q ≤ m → parent_of t q ≡ parent_of u q) → Rises t → p ≤ m → depth_within n t p ≡ depth_within n u p
depth_same t u m zero p agree rises h = refl
depth_same t u m (suc n) p agree rises h =
    same_at (parent_of t p) (λ r. suc (depth_within n t r)) (λ r. suc (depth_within n u r)) 0 (λ r e. let lower : r < p = rises p r e in ap suc (depth_same t u m n r agree rises (omega (arith, lower, h))))
    ∙ ap (λ (o : Option ℕ). option_map_or (λ r. suc (depth_within n u r)) o 0) (agree p h)

-- and on their kinds
kind-front : (xs ys : List Place) (p : ℕ) → p ≤ length xs → kind_of (xs ++ ys) p ≡ kind_of xs p
kind-front xs ys zero h = refl
kind-front xs ys (suc k) h = ap (λ (o : Option Place). option_map_or (λ (place : Place). place.kind) o Library) (slice_get-front xs ys k (omega (arith, h)))

pub part_same : (t u front xs ys : List Place) (p : ℕ) → t ≡ front ++ xs → u ≡ front ++ ys → p ≤ length front → is_part t p ≡ is_part u p
part_same t u front xs ys p t_is u_is h = ap (λ (l : List Place). is_part l p) t_is ∙ ap is_part_kind (kind-front front xs p h ∙ sym (kind-front front ys p h)) ∙ ap (λ (l : List Place). is_part l p) (sym u_is)

depth_agrees : (t u front xs ys : List Place) (p : ℕ) → t ≡ front ++ xs → u ≡ front ++ ys → Rises t → p ≤ length front → depth t p ≡ depth u p
depth_agrees t u front xs ys p t_is u_is rises h = depth_same t u (length front) p p agree rises h
  where
    agree : (q : ℕ) → q ≤ length front → parent_of t q ≡ parent_of u q
    agree q le = ap (λ (l : List Place). parent_of l q) t_is ∙ parent-front front xs q le ∙ sym (parent-front front ys q le) ∙ ap (λ (l : List Place). parent_of l q) (sym u_is)

pub record HasPlace (place : Place) : Type 0 where
  pub parent : place.parent < 2 ^ 32
  pub name : IsName place.name

-- what the bytes determine about places from this number on
pub record AreTold (v w : Vault) (from : ℕ) (xs ys : List Place) (a b : List ℕ) : Type 0 where
  pub places : xs ≡ ys
  pub rest : a ≡ b
  pub versions : (p : ℕ) → from ≤ p → p < from + length xs → is_part v.tree p ≡ true → versions_of v.shelf p ≡ versions_of w.shelf p

-- the place behind the first ones
pub place_here : (front : List Place) (x : Place) (xs : List Place) → slice_get (front ++ x ∷ xs) (length front) ≡ Some x
place_here [] x xs = refl
place_here (z ∷ front) x xs = place_here front x xs

module _ (tree front : List Place) (x : Place) (xs : List Place) (is : tree ≡ front ++ x ∷ xs) where
  pub at_here : slice_get tree (length front) ≡ Some x
  at_here = ap (λ (t : List Place). slice_get t (length front)) is ∙ place_here front x xs

  pub kind_here : kind_of tree (suc (length front)) ≡ x.kind
  kind_here = ap (λ (o : Option Place). option_map_or (λ (place : Place). place.kind) o Library) at_here

  pub parent_here : parent_of tree (suc (length front)) ≡ Some x.parent
  parent_here = ap (option_map (λ (place : Place). place.parent)) at_here

  pub stands_here : IsTree tree → may_stand x.kind (suc (depth tree x.parent)) ≡ true
  stands_here tree_is =
      same_stands kind_here (depth-step tree (suc (length front)) x.parent tree_is.parents parent_here) (tree_is.kinds (suc (length front)))
    where
      same_stands : {k l : Kind} {c d : ℕ} → k ≡ l → c ≡ d → may_stand k c ≡ true → may_stand l d ≡ true
      same_stands kinds depths known = rw (sym kinds, sym depths) known

module _ (version : FileVersion) (v w : Vault) (is_v : IsTree v.tree) (is_w : IsTree w.tree) (kinds_v : AreKindsIn version v.tree) (kinds_w : AreKindsIn version w.tree) (contents_v : (p : ℕ) → AreContents (versions_of v.shelf p)) (contents_w : (p : ℕ) → AreContents (versions_of w.shelf p)) where
  -- the kind and the versions of one place
  part_told : (n : ℕ) (b c : Bool) (s t : List ℕ) → b ≡ c
      → kind_bytes version b (versions_of v.shelf n) ++ s ≡ kind_bytes version c (versions_of w.shelf n) ++ t → (b ≡ true → versions_of v.shelf n ≡ versions_of w.shelf n) × (s ≡ t)
  part_told n true true s t same told =
      let field = kind_field version true in
      let of_v = versions_bytes (versions_of v.shelf n) in
      let of_w = versions_bytes (versions_of w.shelf n) in
      let behind = (same_front field field (of_v ++ s) (of_w ++ t) refl (sym (append_assoc field of_v s) ∙ told ∙ append_assoc field of_w t)).1 in
      let both = versions_tell (versions_of v.shelf n) (versions_of w.shelf n) s t (contents_v n) (contents_w n) behind in
      (λ yes. both.0, both.1)
  part_told n false false s t same told = let field = kind_field version false ++ [] in (λ yes. absurd (cc), (same_front field field s t refl told).1)
  part_told n true false s t same told = absurd (cc)
  part_told n false true s t same told = absurd (cc)

  -- what stands behind their names determines the kinds of two places under one parent
  kind_tells : (front : List Place) (x y : Place) (xs ys : List Place) (s t : List ℕ) → v.tree ≡ front ++ x ∷ xs → w.tree ≡ front ++ y ∷ ys → x.parent ≡ y.parent
      → kind_bytes version (is_part v.tree (suc (length front))) (versions_of v.shelf (suc (length front))) ++ s ≡ kind_bytes version (is_part w.tree (suc (length front))) (versions_of w.shelf (suc (length front))) ++ t → x.kind ≡ y.kind
  kind_tells front x y xs ys s t v_is w_is parents same =
      let n = suc (length front) in
      let part_v = ap is_part_kind (kind_here v.tree front x xs v_is) in
      let part_w = ap is_part_kind (kind_here w.tree front y ys w_is) in
      let behind_v = versions_field (is_part v.tree n) (versions_of v.shelf n) in
      let behind_w = versions_field (is_part w.tree n) (versions_of w.shelf n) in
      let lower : x.parent < n = is_v.parents n x.parent (parent_here v.tree front x xs v_is) in
      let deep : depth v.tree x.parent ≡ depth w.tree y.parent = depth_agrees v.tree w.tree front (x ∷ xs) (y ∷ ys) x.parent v_is w_is is_v.parents (omega (arith, lower)) ∙ ap (depth w.tree) parents in
      let d = suc (depth v.tree x.parent) in
      let stands_y = subst (λ (e : ℕ). may_stand y.kind (suc e) ≡ true) (sym deep) (stands_here w.tree front y ys w_is is_w) in
      let in_x = kinds_v (length front) x (at_here v.tree front x xs v_is) in
      let in_y = subst (λ (e : ℕ). IsKindIn version y.kind (suc e)) (sym deep) (kinds_w (length front) y (at_here w.tree front y ys w_is)) in
      let fields : kind_field version (is_part_kind x.kind) ++ (behind_v ++ s) ≡ kind_field version (is_part_kind y.kind) ++ (behind_w ++ t) =
      ap (λ (b : Bool). kind_field version b ++ (behind_v ++ s)) (sym part_v) ∙ sym (append_assoc (kind_field version (is_part v.tree n)) behind_v s) ∙ same
      ∙ append_assoc (kind_field version (is_part w.tree n)) behind_w t ∙ ap (λ (b : Bool). kind_field version b ++ (behind_w ++ t)) part_w in
      kinds_told version x.kind y.kind d (behind_v ++ s) (behind_w ++ t) (stands_here v.tree front x xs v_is is_v) stands_y in_x in_y fields

  regroup : (p m c r a : List ℕ) → ((p ++ (m ++ c)) ++ r) ++ a ≡ p ++ (m ++ (c ++ (r ++ a)))
  regroup p m c r a = simp append_assoc

  at_place : (p n : ℕ) → (is_part v.tree n ≡ true → versions_of v.shelf n ≡ versions_of w.shelf n) → n ≤ p → is_part v.tree p ≡ true → (n < p → versions_of v.shelf p ≡ versions_of w.shelf p) → versions_of v.shelf p ≡ versions_of w.shelf p
  at_place p n here above part past = elim (cases_lt n p) [ inl later ↦ past later | inr not_later ↦ (let same : n ≡ p = omega (arith, above, not_later) in subst (λ (q : ℕ). is_part v.tree q ≡ true → versions_of v.shelf q ≡ versions_of w.shelf q) same here part) ]

  pub places_tell : (front xs ys : List Place) (a b : List ℕ) → v.tree ≡ front ++ xs → w.tree ≡ front ++ ys → length xs ≡ length ys → All HasPlace xs → All HasPlace ys
      → places_bytes version v (suc (length front)) xs ++ a ≡ places_bytes version w (suc (length front)) ys ++ b → AreTold v w (suc (length front)) xs ys a b
  places_tell front [] [] a b v_is w_is size has_xs has_ys same = record { places = refl; rest = same; versions = λ p above below part. absurd (omega (arith, above, below)) }
  places_tell front [] (y ∷ ys) a b v_is w_is size has_xs has_ys same = absurd (omega (arith, size))
  places_tell front (x ∷ xs) [] a b v_is w_is size has_xs has_ys same = absurd (omega (arith, size))
  places_tell front (x ∷ xs) (y ∷ ys) a b v_is w_is size has_xs has_ys same =
      let n = suc (length front) in
      let s = places_bytes version v (suc n) xs ++ a in
      let t = places_bytes version w (suc n) ys ++ b in
      let of_v = kind_bytes version (is_part v.tree n) (versions_of v.shelf n) in
      let of_w = kind_bytes version (is_part w.tree n) (versions_of w.shelf n) in
      let first_x = All-head HasPlace x xs has_xs in
      let first_y = All-head HasPlace y ys has_ys in
      let whole = sym (regroup (in_four x.parent) (name_bytes x.name) of_v (places_bytes version v (suc n) xs) a) ∙ same ∙ regroup (in_four y.parent) (name_bytes y.name) of_w (places_bytes version w (suc n) ys) b in
      let parents = one_number x.parent y.parent (name_bytes x.name ++ (of_v ++ s)) (name_bytes y.name ++ (of_w ++ t)) first_x.parent first_y.parent whole in
      let names = name_tells x.name y.name (of_v ++ s) (of_w ++ t) first_x.name first_y.name parents.1 in
      let kinds = kind_tells front x y xs ys s t v_is w_is parents.0 names.1 in
      let place_is : x ≡ y = λ i. new_place (parents.0 i) (names.0 i) (kinds i) in
      let longer : length (front ++ x ∷ []) ≡ n = omega (arith, length-append front (x ∷ [])) in
      let v_too : v.tree ≡ (front ++ x ∷ []) ++ xs = v_is ∙ sym (append_assoc front (x ∷ []) xs) in
      let w_too : w.tree ≡ (front ++ x ∷ []) ++ ys = w_is ∙ ap (λ (z : Place). front ++ z ∷ ys) (sym place_is) ∙ sym (append_assoc front (x ∷ []) ys) in
      let parts = part_same v.tree w.tree (front ++ x ∷ []) xs ys n v_too w_too (omega (arith, longer)) in
      let told = part_told n (is_part v.tree n) (is_part w.tree n) s t parts names.1 in
      let others =
      places_tell (front ++ x ∷ []) xs ys a b v_too w_too (omega (arith, size)) (All-tail HasPlace x xs has_xs) (All-tail HasPlace y ys has_ys)
      (subst (λ (k : ℕ). places_bytes version v (suc k) xs ++ a ≡ places_bytes version w (suc k) ys ++ b) (sym longer) told.1) in
      record {
        places = ap (λ (z : Place). z ∷ xs) place_is ∙ ap (λ (zs : List Place). y ∷ zs) others.places;
        rest = others.rest;
        versions = λ p above below part. at_place p n told.0 above part (λ past. others.versions p (omega (arith, longer, past)) (omega (arith, longer, below)) part);
      }

-- shelves with the same versions of each place are one
pub one_shelf : (s t : List (List (List ℕ))) → IsShelf s → IsShelf t → ((p : ℕ) → versions_of s p ≡ versions_of t p) → s ≡ t
one_shelf s t is_s is_t same = ext_get_or [] s t size (λ i h. same i)
  where
    not_shorter : (k l : List (List (List ℕ))) → IsShelf l → ((p : ℕ) → versions_of k p ≡ versions_of l p) → length k < length l → ⊥
    not_shorter k l is_l agree less =
        let last : ℕ = length l - 1 in
        is_l.trimmed last (omega (arith, less)) (sym (agree last) ∙ get_or_past k last [] (omega (arith, less)))

    size : length s ≡ length t
    size = elim (cases_lt (length s) (length t)) [
      | inl less ↦ absurd (not_shorter s t is_t same less)
      | inr not_less ↦ elim (cases_lt (length t) (length s)) [ inl more ↦ absurd (not_shorter t s is_s (λ p. sym (same p)) more) | inr not_more ↦ omega (arith, not_less, not_more) ]
    ]
