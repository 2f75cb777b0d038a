-- The lengths of texts.
use Rattle.std.specs.Prelude.{◌≡◌, ℕ, zero, suc, ◌+◌, ◌*◌, ◌<◌, ◌≤◌, ◌&&◌, nat_le, true, List, [], ◌∷◌, ◌++◌, length, codes, decimal, Option, None, Some, slice_get, slice_index_or, All, refl}
use Rattle.std.specs.List.{flat_map, AllByRecursion, list_all}
use Rattle.std.specs.Option.{option_map}
use Rattle.std.proofs.Common.{sym, subst, ap, arith, length-append}
use Rattle.std.proofs.lemmas.Fmt.{length-decimal-le}
use Rattle.std.proofs.lemmas.Bool.Decides.{nat_tests}
use Rattle.hex.specs.Hex.{encode_with, lower_digits}
use Rattle.vault_state.specs.Limits.{last_number, longest_name}
use Rattle.vault_state.specs.Name.{is_name_byte, IsName}
use Rattle.vault_state.specs.Path.{path_text}
use Rattle.vault_state.specs.Tree.{parent_of, depth, path_of}
use Rattle.vault_state.specs.Vault.{IsGiven}
use Rattle.vault_state.specs.declared.place.Place.{Place}
use Rattle.vault_state.specs.declared.ids.ClaimId.{ClaimId}
use Rattle.vault_state.specs.declared.ids.ClaimId.TheVariants.{Long, Short}
use Rattle.vault_state.proofs.Overlaps.{and_both}
use Rattle.vault_state.proofs.Walks.{Rises, depth-step}
use Rattle.vault_state.proofs.Ways.{path_of-step}
use Rattle.vault_lines.specs.Texts.{claim_text, content_text}

pub joined : (a b : List ℕ) (m n : ℕ) → length a ≤ m → length b ≤ n → length (a ++ b) ≤ m + n
joined a b m n la lb = omega (arith, length-append a b, la, lb)

pub same : (n : ℕ) → n ≤ n
same n = omega arith

-- pieces of at most m bytes each
pub in_row : {X : Type 0} (f : X → List ℕ) (m : ℕ) (xs : List X) → AllByRecursion (λ x. length (f x) ≤ m) xs → length (flat_map f xs) ≤ length xs * m
in_row f m [] each = omega arith
in_row f m (x ∷ xs) each = grind (arith, length-append (f x) (flat_map f xs), each.0, in_row f m xs each.1)

-- a claim's text
pub claim_short : (m n : ℕ) (id : ClaimId) → IsGiven m n id → m ≤ last_number → n ≤ last_number → length (claim_text id) ≤ 11
claim_short m n (Long k) given long short =
    let digits = length-decimal-le 10 k (omega arith) (omega (arith, given.1, long)) (omega (arith, given.1, long)) in
    joined (codes "c") (decimal k) 1 10 (same 1) digits
claim_short m n (Short k) given long short =
    let digits = length-decimal-le 10 k (omega arith) (omega (arith, given.1, short)) (omega (arith, given.1, short)) in
    joined (codes "h") (decimal k) 1 10 (same 1) digits

pub encoded : (t xs : List ℕ) → length (encode_with t xs) ≡ length xs * 2
unfolding encode_with
encoded t [] = refl
encoded t (x ∷ xs) = let rest = encoded t xs in omega (arith, rest)

pub content_short : (n : ℕ) (content : List ℕ) → 0 < n → length content ≤ n → length (content_text content) ≤ n * 2
content_short n [] some short = omega (arith, some)
content_short n (b ∷ content) some short = omega (arith, encoded lower_digits (b ∷ content), short)

pub name_short : (name : List ℕ) → IsName name → length name ≤ 32
name_short name is =
    let outer = and_both (nat_le 1 (length name)) (nat_le (length name) longest_name && list_all is_name_byte name) is in
    let inner = and_both (nat_le (length name) longest_name) (list_all is_name_byte name) outer.1 in
    let few : nat_le (length name) 32 ≡ true = inner.0 in
    grind (arith, nat_tests, few)

pub get_at : {X : Type 0} (xs : List X) (i : ℕ) (x : X) → slice_get xs i ≡ Some x → (i < length xs) × (slice_index_or xs i x ≡ x)
get_at [] i x e = cc
get_at (y ∷ xs) zero x e = let is : y ≡ x = cc in (omega arith, is)
get_at (y ∷ xs) (suc i) x e = let found = get_at xs i x e in (omega (arith, found.0), found.1)

-- the path of a place: few names, each of them short

abbrev pub AreShort : List (List ℕ) → Type 0
AreShort names = AllByRecursion (λ name. length name ≤ 32) names

pushed_short : (names : List (List ℕ)) (name : List ℕ) → AreShort names → length name ≤ 32 → AreShort (names ++ name ∷ [])
pushed_short [] name each last = (last, tt)
pushed_short (n ∷ names) name each last = (each.0, pushed_short names name each.1 last)

module _ (tree : List Place) (rises : Rises tree) (named : All (λ (place : Place). IsName place.name) tree) where
  way_within : (n p : ℕ) → p ≤ n → AreShort (path_of tree p) × (length (path_of tree p) ≤ depth tree p)
  way_within n zero low = (tt, omega arith)
  way_within zero (suc p) low = absurd (omega (arith, low))
  way_within (suc n) (suc p) low = by_place (slice_get tree p) refl (λ q h. way_within n q h)
    where
      by_place : (o : Option Place) → slice_get tree p ≡ o → ((q : ℕ) → q ≤ n → AreShort (path_of tree q) × (length (path_of tree q) ≤ depth tree q)) → AreShort (path_of tree (suc p)) × (length (path_of tree (suc p)) ≤ depth tree (suc p))
      by_place None e rest =
          let none : path_of tree (suc p) ≡ [] = rw e refl in
          (subst AreShort (sym none) tt, omega (arith, ap length none))
      by_place (Some x) e rest =
          let parent : parent_of tree (suc p) ≡ Some x.parent = ap (option_map (λ (y : Place). y.parent)) e in
          let lower = rises (suc p) x.parent parent in
          let above = rest x.parent (omega (arith, lower, low)) in
          let step = path_of-step tree p x rises e in
          let named_x : length x.name ≤ 32 = name_short x.name (named_at p x e) in (
            subst AreShort (sym step) (pushed_short (path_of tree x.parent) x.name above.0 named_x),
            omega (arith, ap length step, length-append (path_of tree x.parent) (x.name ∷ []), above.1, depth-step tree (suc p) x.parent rises parent),
          )
        where
          named_at : (i : ℕ) (y : Place) → slice_get tree i ≡ Some y → IsName y.name
          named_at i y h = let at = get_at tree i y h in subst (λ (z : Place). IsName z.name) at.1 (named i y at.0)

  pub way_short : (p : ℕ) → AreShort (path_of tree p) × (length (path_of tree p) ≤ depth tree p)
  way_short p = way_within p p (same p)

-- the text of a path of at most seven names
pub path_short : (names : List (List ℕ)) → AreShort names → length names ≤ 7 → length (path_text names) ≤ 231
path_short [] each few = omega arith
path_short (name ∷ names) each few =
    let row = in_row (λ n. 47 ∷ n) 33 (name ∷ names) (slashed (name ∷ names) each) in
    omega (arith, row, few)
  where
    slashed : (ns : List (List ℕ)) → AreShort ns → AllByRecursion (λ n. length (47 ∷ n) ≤ 33) ns
    slashed [] each = tt
    slashed (n ∷ ns) each = (omega (arith, each.0), slashed ns each.1)
