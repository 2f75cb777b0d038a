-- A connection's own bytes.
use Rattle.std.proofs.Common.{◌≡◌, ◌↔◌, ◌⊎◌, ℕ, zero, suc, ◌<◌, Bool, true, false, not, cond, ◌||◌, ◌&&◌, ◌==◌, List, [], ◌∷◌, ◌++◌, length, take, drop, refl, sym, ap, subst, ◌∙◌, inl, inr, arith, append_assoc}
use Rattle.std.specs.Prelude.{slice_index_or}
use Rattle.std.proofs.lemmas.Bool.{false≢true}
use Rattle.std.proofs.lemmas.Bool.Decides.{nat_tests}
use Rattle.first_line.specs.declared.line.FirstLine.{FirstLine}
use Rattle.first_line.specs.declared.line.FirstLine.TheVariants as first
use Rattle.first_line.specs.Foreign.{mark, Begins, HasMark, IsForeign, IsForeignBehind}
use Rattle.first_line.specs.Own.{begins, has_mark, is_foreign_behind, before, own_part, OwnBytesAreNotForeign}

-- the tests hold where the relations do

or_to : (a b : Bool) → (a || b) ≡ true → (a ≡ true) ⊎ (b ≡ true)
or_to true b e = inl refl
or_to false b e = inr e

or_from_left : (a b : Bool) → a ≡ true → (a || b) ≡ true
or_from_left true b e = refl
or_from_left false b e = cc

or_from_right : (a b : Bool) → b ≡ true → (a || b) ≡ true
or_from_right true b e = refl
or_from_right false b e = e

and_to : (a b : Bool) → (a && b) ≡ true → (a ≡ true) × (b ≡ true)
and_to true b e = (refl, e)
and_to false b e = cc

and_from : (a b : Bool) → a ≡ true → b ≡ true → (a && b) ≡ true
and_from true b e f = f
and_from false b e f = cc

begins_is : (xs bytes : List ℕ) → (begins xs bytes ≡ true) ↔ Begins xs bytes
begins_is [] bytes = (λ e. tt, λ h. refl)
begins_is (x ∷ xs) [] = (λ e. cc, λ h. absurd h)
begins_is (x ∷ xs) (b ∷ bytes) =
    let rest = begins_is xs bytes in (
      λ e. let both = and_to (b == x) (begins xs bytes) e in (grind (arith, nat_tests, both.0), rest.0 both.1),
      λ h. let same : (b == x) ≡ true = grind (arith, nat_tests, h.0) in and_from (b == x) (begins xs bytes) same (rest.1 h.1),
    )

has_mark_is : (bytes : List ℕ) → (has_mark bytes ≡ true) ↔ HasMark bytes
has_mark_is [] = (λ e. cc, λ h. absurd h)
has_mark_is (b ∷ bytes) =
    let here = begins_is mark (b ∷ bytes) in
    let rest = has_mark_is bytes in
    (λ e. there here.0 rest.0 (or_to (begins mark (b ∷ bytes)) (not (b == 10) && has_mark bytes) e), back here.1 rest.1)
  where
    there : (begins mark (b ∷ bytes) ≡ true → Begins mark (b ∷ bytes)) → (has_mark bytes ≡ true → HasMark bytes)
        → (begins mark (b ∷ bytes) ≡ true) ⊎ ((not (b == 10) && has_mark bytes) ≡ true) → HasMark (b ∷ bytes)
    there here rest (inl h) = inl (here h)
    there here rest (inr h) = let both = and_to (not (b == 10)) (has_mark bytes) h in
        inr (grind (arith, nat_tests, both.0), rest both.1)

    back : (Begins mark (b ∷ bytes) → begins mark (b ∷ bytes) ≡ true) → (HasMark bytes → has_mark bytes ≡ true) → HasMark (b ∷ bytes) → has_mark (b ∷ bytes) ≡ true
    back here rest (inl h) = or_from_left (begins mark (b ∷ bytes)) _ (here h)
    back here rest (inr h) = let other : not (b == 10) ≡ true = grind (arith, nat_tests, h.0) in
        or_from_right (begins mark (b ∷ bytes)) _ (and_from (not (b == 10)) (has_mark bytes) other (rest h.1))

either_is : (xs bytes : List ℕ) → ((begins xs bytes || has_mark bytes) ≡ true) ↔ (Begins xs bytes ⊎ HasMark bytes)
either_is xs bytes = (λ e. there (or_to _ _ e), back)
  where
    there : (begins xs bytes ≡ true) ⊎ (has_mark bytes ≡ true) → Begins xs bytes ⊎ HasMark bytes
    there (inl h) = inl ((begins_is xs bytes).0 h)
    there (inr h) = inr ((has_mark_is bytes).0 h)

    back : Begins xs bytes ⊎ HasMark bytes → (begins xs bytes || has_mark bytes) ≡ true
    back (inl h) = or_from_left (begins xs bytes) (has_mark bytes) ((begins_is xs bytes).1 h)
    back (inr h) = or_from_right (begins xs bytes) (has_mark bytes) ((has_mark_is bytes).1 h)

pub foreign_is : (line : FirstLine) (bytes : List ℕ) → (is_foreign_behind line bytes ≡ true) ↔ IsForeignBehind line bytes
foreign_is first.Nothing bytes = either_is (22 ∷ []) bytes
foreign_is first.Open bytes = has_mark_is bytes
foreign_is first.Space bytes = either_is (72 ∷ 84 ∷ 84 ∷ 80 ∷ 47 ∷ []) bytes
foreign_is first.H bytes = either_is (84 ∷ 84 ∷ 80 ∷ 47 ∷ []) bytes
foreign_is first.Ht bytes = either_is (84 ∷ 80 ∷ 47 ∷ []) bytes
foreign_is first.Htt bytes = either_is (80 ∷ 47 ∷ []) bytes
foreign_is first.Http bytes = either_is (47 ∷ []) bytes
foreign_is first.Foreign bytes = (λ e. tt, λ h. refl)
foreign_is first.Own bytes = (λ e. cc, λ h. absurd h)

same_test : (a b : Bool) → (a ≡ true → b ≡ true) → (b ≡ true → a ≡ true) → a ≡ b
same_test true b f g = sym (f refl)
same_test false true f g = g refl
same_test false false f g = refl

-- two lines of which the same has to come have the same test
same_behind : (one other : FirstLine) (xs ys : List ℕ) → (IsForeignBehind one xs ↔ IsForeignBehind other ys) → is_foreign_behind one xs ≡ is_foreign_behind other ys
same_behind one other xs ys h =
    same_test (is_foreign_behind one xs) (is_foreign_behind other ys) (λ e. (foreign_is other ys).1 (h.0 ((foreign_is one xs).0 e))) (λ e. (foreign_is one xs).1 (h.1 ((foreign_is other ys).0 e)))

before_same : (p q : List ℕ → Bool) (bytes : List ℕ) → ((xs : List ℕ) → p xs ≡ q xs) → before p bytes ≡ before q bytes
before_same p q [] same = refl
before_same p q (b ∷ bytes) same =
    ap (λ t. cond t [] (b ∷ before (λ more. p (b ∷ more)) bytes)) (same (b ∷ []))
    ∙ ap (λ tail. cond (q (b ∷ [])) [] (b ∷ tail)) (before_same (λ more. p (b ∷ more)) (λ more. q (b ∷ more)) bytes (λ xs. same (b ∷ xs)))

-- one byte that doesn't show it is the connection's own, and one that does isn't
pub own_step : (line next : FirstLine) (b : ℕ) (bytes : List ℕ) → ((more : List ℕ) → IsForeignBehind line (b ∷ more) ↔ IsForeignBehind next more)
    → (IsForeignBehind next [] → ⊥) → own_part line (b ∷ bytes) ≡ b ∷ own_part next bytes
own_step line next b bytes step own =
    ap (λ t. cond t [] (b ∷ before (λ more. is_foreign_behind line (b ∷ more)) bytes)) (same_behind line next (b ∷ []) [] (step []) ∙ never)
    ∙ ap (λ tail. b ∷ tail) (before_same (λ more. is_foreign_behind line (b ∷ more)) (is_foreign_behind next) bytes (λ xs. same_behind line next (b ∷ xs) xs (step xs)))
  where
    refuted : (t : Bool) → (t ≡ true → ⊥) → t ≡ false
    refuted true f = absurd (f refl)
    refuted false f = refl

    never : is_foreign_behind next [] ≡ false
    never = refuted (is_foreign_behind next []) (λ e. own ((foreign_is next []).0 e))

pub own_stops : (line next : FirstLine) (b : ℕ) (bytes : List ℕ) → ((more : List ℕ) → IsForeignBehind line (b ∷ more) ↔ IsForeignBehind next more)
    → IsForeignBehind next [] → own_part line (b ∷ bytes) ≡ []
own_stops line next b bytes step foreign =
    ap (λ t. cond t [] (b ∷ before (λ more. is_foreign_behind line (b ∷ more)) bytes)) (same_behind line next (b ∷ []) [] (step []) ∙ (foreign_is next []).1 foreign)

before_always : (bytes : List ℕ) → before (λ more. true) bytes ≡ []
before_always [] = refl
before_always (b ∷ bytes) = refl

before_never : (bytes : List ℕ) → before (λ more. false) bytes ≡ bytes
before_never [] = refl
before_never (b ∷ bytes) = ap (λ tail. b ∷ tail) (before_never bytes)

-- of a line that is another protocol's nothing is its own, and of one that is none all is
pub none_own : (line : FirstLine) → line ≡ first.Foreign → (bytes : List ℕ) → own_part line bytes ≡ []
none_own line is bytes = ap (λ l. own_part l bytes) is ∙ before_always bytes

pub all_own : (bytes : List ℕ) → own_part first.Own bytes ≡ bytes
all_own bytes = before_never bytes

-- what comes before the first byte with which a test holds
abbrev IsFront : (List ℕ → Bool) → List ℕ → List ℕ → Type 0
IsFront test bytes front = (test front ≡ false)
    × ((front ≡ bytes) ⊎ ((next : ℕ) × (rest : List ℕ) × (bytes ≡ front ++ next ∷ rest) × (test (front ++ next ∷ []) ≡ true)))

fronts : (test : List ℕ → Bool) (bytes : List ℕ) → test [] ≡ false → IsFront test bytes (before test bytes)
fronts test [] none = (none, inl refl)
fronts test (b ∷ bytes) none = by_first (test (b ∷ [])) refl (λ own. fronts (λ more. test (b ∷ more)) bytes own)
  where
    by_rest : (front : List ℕ) → IsFront (λ more. test (b ∷ more)) bytes front → IsFront test (b ∷ bytes) (b ∷ front)
    by_rest front (clear, inl all) = (clear, inl (ap (λ tail. b ∷ tail) all))
    by_rest front (clear, inr cut) = (clear, inr (cut.0, cut.1, ap (λ tail. b ∷ tail) cut.2, cut.3))

    by_first : (t : Bool) → test (b ∷ []) ≡ t → (test (b ∷ []) ≡ false → IsFront (λ more. test (b ∷ more)) bytes (before (λ more. test (b ∷ more)) bytes))
        → IsFront test (b ∷ bytes) (cond t [] (b ∷ before (λ more. test (b ∷ more)) bytes))
    by_first true e rest = (none, inr (b, bytes, refl, e))
    by_first false e rest = by_rest (before (λ more. test (b ∷ more)) bytes) (rest e)

pub own_bytes : OwnBytesAreNotForeign
own_bytes bytes = (λ foreign. absurd (false≢true (sym is.0 ∙ (foreign_is first.Nothing front).1 foreign)), by_cut is.1)
  where
    front : List ℕ
    front = own_part first.Nothing bytes

    is : IsFront (is_foreign_behind first.Nothing) bytes front
    is = fronts (is_foreign_behind first.Nothing) bytes refl

    by_cut : (front ≡ bytes) ⊎ ((next : ℕ) × (rest : List ℕ) × (bytes ≡ front ++ next ∷ rest) × (is_foreign_behind first.Nothing (front ++ next ∷ []) ≡ true))
        → (front ≡ bytes) ⊎ ((next : ℕ) × (rest : List ℕ) × (bytes ≡ front ++ next ∷ rest) × IsForeign (front ++ next ∷ []))
    by_cut (inl all) = inl all
    by_cut (inr cut) = inr (cut.0, cut.1, cut.2, (foreign_is first.Nothing (front ++ cut.0 ∷ [])).0 cut.3)

-- One more byte of a walk.

at_drop : (xs : List ℕ) (i d : ℕ) → i < length xs → drop i xs ≡ slice_index_or xs i d ∷ drop (suc i) xs
at_drop [] i d inside = absurd (omega (arith, inside))
at_drop (x ∷ xs) zero d inside = refl
at_drop (x ∷ xs) (suc i) d inside = at_drop xs i d (omega (arith, inside))

at_take : (xs : List ℕ) (i d : ℕ) → i < length xs → take (suc i) xs ≡ take i xs ++ slice_index_or xs i d ∷ []
at_take [] i d inside = absurd (omega (arith, inside))
at_take (x ∷ xs) zero d inside = refl
at_take (x ∷ xs) (suc i) d inside = ap (λ tail. x ∷ tail) (at_take xs i d (omega (arith, inside)))

-- what was heard of the bytes so far
abbrev pub IsHeard : FirstLine → List ℕ → ℕ → FirstLine → Type 0
IsHeard start bytes count line = (more : List ℕ) → IsForeignBehind start (bytes ++ more) ↔ IsForeignBehind line (drop count bytes ++ more)

-- and that all so far is the connection's own
abbrev pub IsOwn : FirstLine → List ℕ → ℕ → FirstLine → Type 0
IsOwn start bytes count line = (more : List ℕ) → own_part start (bytes ++ more) ≡ take count bytes ++ own_part line (drop count bytes ++ more)

abbrev pub IsStep : FirstLine → ℕ → FirstLine → Type 0
IsStep line byte next = (more : List ℕ) → IsForeignBehind line (byte ∷ more) ↔ IsForeignBehind next more

module _ (start line next : FirstLine) (bytes : List ℕ) (count d : ℕ) (inside : count < length bytes) (step : IsStep line (slice_index_or bytes count d) next) where
  pub heard_next : IsHeard start bytes count line → IsHeard start bytes (suc count) next
  heard_next heard more =
      let here : IsForeignBehind start (bytes ++ more) ↔ IsForeignBehind line (slice_index_or bytes count d ∷ (drop (suc count) bytes ++ more)) =
      subst (λ l. IsForeignBehind start (bytes ++ more) ↔ IsForeignBehind line (l ++ more)) (at_drop bytes count d inside) (heard more) in
      let one = step (drop (suc count) bytes ++ more) in
      (λ h. one.0 (here.0 h), λ h. here.1 (one.1 h))

  pub own_next : (IsForeignBehind next [] → ⊥) → IsOwn start bytes count line → IsOwn start bytes (suc count) next
  own_next clear own more =
      own more
      ∙ ap (λ l. take count bytes ++ own_part line (l ++ more)) (at_drop bytes count d inside)
      ∙ ap (λ l. take count bytes ++ l) (own_step line next (slice_index_or bytes count d) (drop (suc count) bytes ++ more) step clear)
      ∙ sym (append_assoc (take count bytes) (slice_index_or bytes count d ∷ []) (own_part next (drop (suc count) bytes ++ more)))
      ∙ ap (λ l. l ++ own_part next (drop (suc count) bytes ++ more)) (sym (at_take bytes count d inside))

  -- the walk ends at the byte that shows another protocol
  pub own_ends : IsForeignBehind next [] → next ≡ first.Foreign → IsOwn start bytes count line → (more : List ℕ) → own_part start (bytes ++ more) ≡ take count bytes ++ own_part next more
  own_ends foreign is own more =
      own more
      ∙ ap (λ l. take count bytes ++ own_part line (l ++ more)) (at_drop bytes count d inside)
      ∙ ap (λ l. take count bytes ++ l) (own_stops line next (slice_index_or bytes count d) (drop (suc count) bytes ++ more) step foreign)
      ∙ ap (λ l. take count bytes ++ l) (sym (none_own next is more))
