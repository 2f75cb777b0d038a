-- The first part of a list that is cut.
use Rattle.std.proofs.Common.{◌≡◌, ℕ, ◌+◌, ◌<◌, ◌≤◌, ◌==◌, Bool, not, List, [], ◌∷◌, take, drop, length, Option, Some, None, refl, sym, ap, ◌∙◌, arith, subst, inl, inr}
use Rattle.std.specs.Prelude.{nat_lt, position, IfSome}
use Rattle.std.specs.List.{slice_split, onto_first, position_or_len}
use Rattle.std.proofs.lemmas.Bool.{cases_Bool, false_from_ne_true, le-ltb, lt-ltb, ltb-true, ltb-false, cond-true, cond-false}
use Rattle.std.proofs.lemmas.Option.{cond_some}
use Rattle.std.proofs.lemmas.List.Splits.{slice_split_first, slice_split-cons_no}
use Rattle.std.proofs.lemmas.List.Sums.{position_or_len_is}
use Rattle.memchr.specs.Find.{IsFirstByte, is_byte}

pub split_at_some : (separator : ℕ) (bs : List ℕ) (at : ℕ) → position (λ b. b == separator) bs ≡ Some at
    → slice_split (λ b. b == separator) bs ≡ take at bs ∷ slice_split (λ b. b == separator) (drop (at + 1) bs)
split_at_some separator bs at e =
    let found = cond_some (nat_lt (position_or_len (λ b. b == separator) bs) (length bs)) (position_or_len (λ b. b == separator) bs) at e in
    let P : ℕ → Type 0 = λ n. slice_split (λ b. b == separator) bs ≡ take n bs ∷ slice_split (λ b. b == separator) (drop (n + 1) bs) in
    subst P found.1 (slice_split_first (λ b. b == separator) bs 0 (ltb-true _ _ found.0))

none_passes : (p : ℕ → Bool) (bs : List ℕ) → length bs ≤ position_or_len p bs → slice_split p bs ≡ bs ∷ []
none_passes p [] h = refl
none_passes p (b ∷ bs) h =
    elim (cases_Bool (p b)) [
      | inl passes ↦
          let first : position_or_len p (b ∷ bs) ≡ 0 = cond-false (not (p b)) (1 + position_or_len p bs) 0 (ap not passes) in
          absurd (omega (arith, h, first))
      | inr no_pass ↦
          let first : position_or_len p (b ∷ bs) ≡ 1 + position_or_len p bs = cond-true (not (p b)) (1 + position_or_len p bs) 0 (ap not no_pass) in
          slice_split-cons_no p b bs no_pass ∙ ap (onto_first b) (none_passes p bs (omega (arith, h, first)))
    ]

pub split_at_none : (separator : ℕ) (bs : List ℕ) → position (λ b. b == separator) bs ≡ None → slice_split (λ b. b == separator) bs ≡ bs ∷ []
split_at_none separator bs e =
    elim (cases_Bool (nat_lt (position_or_len (λ b. b == separator) bs) (length bs))) [
      | inl passes ↦ cc (sym e ∙ cond-true _ (Some (position_or_len (λ b. b == separator) bs)) None passes)
      | inr past ↦ none_passes (λ b. b == separator) bs (ltb-false _ _ past)
    ]

-- how much is left behind a separator: one more than the bytes, so that an empty rest is more than none
abbrev pub bytes_left : Option (List ℕ) → ℕ
bytes_left None = 0
bytes_left (Some rest) = length rest + 1

-- where a separator stands first, as a search of all bytes at once finds it
pub first_place : (separator : ℕ) (bs : List ℕ) (found : Option ℕ) → IsFirstByte (is_byte separator) bs found
    → found ≡ position (λ b. b == separator) bs
first_place separator bs None nowhere =
    let all = position_or_len_is (λ b. b == separator) bs (length bs) 0 (omega arith)
    (λ k below. false_from_ne_true _ (nowhere k (omega arith) below))
    (λ past. absurd (omega (arith, past))) in
    sym (cond-false _ (Some (position_or_len (λ b. b == separator) bs)) None (le-ltb _ _ (omega (arith, all))))
first_place separator bs (Some at) first =
    let here = position_or_len_is (λ b. b == separator) bs at 0 (omega (arith, first.0.high))
    (λ k below. false_from_ne_true _ (first.0.before k (omega arith) below))
    (λ within. first.1) in
    ap Some (sym here) ∙ sym (cond-true _ (Some (position_or_len (λ b. b == separator) bs)) None (lt-ltb _ _ (omega (arith, here, first.0.high))))

pub first_within : (separator : ℕ) (bs : List ℕ) (found : Option ℕ) → IsFirstByte (is_byte separator) bs found → IfSome found (λ at. at < length bs)
first_within separator bs None nowhere = tt
first_within separator bs (Some at) first = first.0.high
