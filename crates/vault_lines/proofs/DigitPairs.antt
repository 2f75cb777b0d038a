-- Pairs of digits, by what each byte is worth.
use Rattle.std.proofs.Common.{◌≡◌, ℕ, ◌+◌, ◌*◌, ◌<◌, ◌≤◌, ◌⊎◌, inl, inr, Option, Some, None, unwrap_or, Result, Ok, Err, refl, sym, ap, arith}
use Rattle.hex.specs.Hex.{digit_or_error, hex_digit_value, pair_value, value_at, ◌>>=◌}
use Rattle.hex.specs.declared.error.FromHexError.{FromHexError}

value_is : (o : Option ℕ) (worth : ℕ) → worth ≡ unwrap_or o 16 → worth ≤ 15 → o ≡ Some worth
value_is (Some v) worth e small = ap Some (sym e)
value_is None worth e small = absurd (omega (arith, e))

small_value : (c v : ℕ) → hex_digit_value c ≡ Some v → v < 16
small_value c v h = grind (arith)

no_value : (o : Option ℕ) (worth : ℕ) → ((v : ℕ) → o ≡ Some v → v < 16) → worth ≡ unwrap_or o 16 → 15 < worth → o ≡ None
no_value None worth small e large = refl
no_value (Some v) worth small e large = let below = small v refl in absurd (omega (arith, e, below))

-- two digits spell a byte
pub pair_is : (high low i h l : ℕ) → h ≡ unwrap_or (hex_digit_value high) 16 → l ≡ unwrap_or (hex_digit_value low) 16 → h ≤ 15 → l ≤ 15
    → pair_value high low i ≡ Ok (h * 16 + l)
pair_is high low i h l eh el sh sl =
    let first : value_at high i ≡ Ok h = ap (digit_or_error high i) (value_is (hex_digit_value high) h eh sh) in
    let second : value_at low (i + 1) ≡ Ok l = ap (digit_or_error low (i + 1)) (value_is (hex_digit_value low) l el sl) in
    rw (first, second) refl

refused_behind : (r : Result ℕ FromHexError) (low i : ℕ) → hex_digit_value low ≡ None
    → (e : FromHexError) × ((r >>= λ h. value_at low i >>= λ l. Ok (h * 16 + l)) ≡ Err e)
refused_behind (Ok h) low i none = (_, ap (λ (o : Option ℕ). digit_or_error low i o >>= λ l. Ok (h * 16 + l)) none)
refused_behind (Err e) low i none = (e, refl)

-- two bytes of which one is no digit spell none
pub pair_refused : (high low i h l : ℕ) → h ≡ unwrap_or (hex_digit_value high) 16 → l ≡ unwrap_or (hex_digit_value low) 16
    → (15 < h) ⊎ ((h ≤ 15) × (15 < l)) → (e : FromHexError) × (pair_value high low i ≡ Err e)
pair_refused high low i h l eh el (inl large) = (
  _,
  ap (λ (o : Option ℕ). digit_or_error high i o >>= λ h. value_at low (i + 1) >>= λ l. Ok (h * 16 + l))
      (no_value (hex_digit_value high) h (small_value high) eh large),
)
pair_refused high low i h l eh el (inr large) =
    refused_behind (value_at high i) low (i + 1) (no_value (hex_digit_value low) l (small_value low) el large.1)
