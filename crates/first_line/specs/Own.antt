-- Which bytes of a connection are its own: those before the first one that shows another protocol. This project's own.
use Rattle.std.specs.Prelude.{◌≡◌, ◌⊎◌, ℕ, Bool, true, false, not, ◌||◌, ◌&&◌, ◌==◌, if◌then◌else◌, List, [], ◌∷◌, ◌++◌}
use Rattle.first_line.specs.declared.line.FirstLine.{FirstLine}
use Rattle.first_line.specs.declared.line.FirstLine.TheVariants as first
use Rattle.first_line.specs.Foreign.{mark, IsForeign}

-- whether `Begins`, `HasMark` and `IsForeignBehind` hold
abbrev pub begins : List ℕ → List ℕ → Bool
begins [] bytes = true
begins (x ∷ xs) [] = false
begins (x ∷ xs) (b ∷ bytes) = (b == x) && begins xs bytes

abbrev pub has_mark : List ℕ → Bool
has_mark [] = false
has_mark (b ∷ bytes) = begins mark (b ∷ bytes) || (not (b == 10) && has_mark bytes)

abbrev pub is_foreign_behind : FirstLine → List ℕ → Bool
is_foreign_behind first.Nothing more = begins (22 ∷ []) more || has_mark more
is_foreign_behind first.Open more = has_mark more
is_foreign_behind first.Space more = begins (72 ∷ 84 ∷ 84 ∷ 80 ∷ 47 ∷ []) more || has_mark more
is_foreign_behind first.H more = begins (84 ∷ 84 ∷ 80 ∷ 47 ∷ []) more || has_mark more
is_foreign_behind first.Ht more = begins (84 ∷ 80 ∷ 47 ∷ []) more || has_mark more
is_foreign_behind first.Htt more = begins (80 ∷ 47 ∷ []) more || has_mark more
is_foreign_behind first.Http more = begins (47 ∷ []) more || has_mark more
is_foreign_behind first.Foreign more = true
is_foreign_behind first.Own more = false

-- the bytes before the first one with which the test holds of all so far
abbrev pub before : (List ℕ → Bool) → List ℕ → List ℕ
before test [] = []
before test (b ∷ bytes) = if test (b ∷ []) then [] else b ∷ before (λ more. test (b ∷ more)) bytes

-- of the bytes behind this much of a first line, those that are its connection's own
abbrev pub own_part : FirstLine → List ℕ → List ℕ
own_part line bytes = before (is_foreign_behind line) bytes

-- A connection's own bytes aren't another protocol's. They are all, or with the next one they are.
abbrev pub OwnBytesAreNotForeign : Type 0
OwnBytesAreNotForeign = (bytes : List ℕ) → (IsForeign (own_part first.Nothing bytes) → ⊥)
    × ((own_part first.Nothing bytes ≡ bytes)
    ⊎ ((next : ℕ) × (rest : List ℕ) × (bytes ≡ own_part first.Nothing bytes ++ next ∷ rest) × IsForeign (own_part first.Nothing bytes ++ next ∷ [])))
