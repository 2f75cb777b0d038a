-- Which words are numbers.
use Rattle.std.proofs.Common.{◌≡◌, ℕ, ◌<◌, ◌^◌, true, ◌&&◌, List, Some, None, sym, ap, ◌∙◌, arith, nat_lt}
use Rattle.std.specs.Prelude.{decimal}
use Rattle.std.specs.Str.{bytes_eq}
use Rattle.std.specs.Str.Parse.{digits_value}
use Rattle.std.proofs.lemmas.Fmt.{decimal_is_IsNumeral}
use Rattle.std.proofs.lemmas.Slice.Eq.{bytes_eq-Decides}
use Rattle.std.proofs.lemmas.Bool.{and_parts, and_from, lt-ltb, ltb-true, cond-true, cond-false, false_from_ne_true}
use Rattle.vault_lines.specs.Words.{number_in}

pub number_is : (w : List ℕ) (n : ℕ) → n < 2 ^ 32 → w ≡ decimal n → number_in w ≡ Some n
number_is w n fits spelled =
    let wide : n < 2 ^ 64 = omega arith in
    let value : digits_value 10 w ≡ n = ap (digits_value 10) spelled ∙ (decimal_is_IsNumeral n wide).1 in
    let test : (nat_lt n (2 ^ 32) && bytes_eq (decimal n) w) ≡ true =
    and_from _ _ (lt-ltb n (2 ^ 32) fits) ((bytes_eq-Decides (decimal n) w).1 (sym spelled)) in
    rw value (cond-true _ (Some n) None test)

-- what the number of a word is
pub number_holds : (w : List ℕ) → (nat_lt (digits_value 10 w) (2 ^ 32) && bytes_eq (decimal (digits_value 10 w)) w) ≡ true
    → (digits_value 10 w < 2 ^ 32) × (w ≡ decimal (digits_value 10 w))
number_holds w test =
    let parts = and_parts _ _ test in
    (ltb-true _ _ parts.0, sym ((bytes_eq-Decides (decimal (digits_value 10 w)) w).0 parts.1))

pub number_none : (w : List ℕ) → ((n : ℕ) → n < 2 ^ 32 → w ≡ decimal n → ⊥) → number_in w ≡ None
number_none w never =
    cond-false _ (Some (digits_value 10 w)) None
    (false_from_ne_true _ (λ test. let holds = number_holds w test in never (digits_value 10 w) holds.0 holds.1))
