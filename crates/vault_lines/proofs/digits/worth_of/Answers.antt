-- The table is held against the definition at each of the 256 bytes, by computing.
use Rattle.std.proofs.Common.{◌≡◌, ℕ, zero, suc, ◌<◌, ◌==◌, Bool, true, ◌&&◌, get_or, List, unwrap_or, refl, arith, inl, inr}
use Rattle.std.proofs.lemmas.Bool.{and_parts, cases_eq, eqb-true}
use Rattle.hex.specs.Hex.{hex_digit_value}
use Rattle.vault_lines.specs.declared.digits.TheConstants.{WORTHS}
use Rattle.vault_lines.proofs.digits.worth_of.Goals as goal

-- the table is right below n
right_below : List ℕ → ℕ → Bool
right_below table zero = true
right_below table (suc n) = (get_or table n 0 == unwrap_or (hex_digit_value n) 16) && right_below table n

right_at : (table : List ℕ) (n : ℕ) → right_below table n ≡ true → (byte : ℕ) → byte < n
    → get_or table byte 0 ≡ unwrap_or (hex_digit_value byte) 16
unfolding right_below
right_at table zero h byte below = absurd (omega arith)
right_at table (suc n) h byte below =
    let parts = and_parts (get_or table n 0 == unwrap_or (hex_digit_value n) 16) (right_below table n) h in
    elim (cases_eq byte n) [
      | inl same ↦ rw same (eqb-true _ _ parts.0)
      | inr other ↦ right_at table n parts.1 byte (omega arith)
    ]

from_table : (table : List ℕ) (byte : ℕ) → byte < 256 → right_below table 256 ≡ true
    → get_or table byte 0 ≡ unwrap_or (hex_digit_value byte) 16
from_table table byte below right = right_at table 256 right byte below

pub returns : goal.returns
unfolding right_below
returns c = from_table WORTHS c.args.digit (omega arith) refl
