-- What the first bytes of another protocol are. This project's own.
use Rattle.std.specs.Prelude.{◌≡◌, ◌≢◌, ◌⊎◌, ⊤, ℕ, List, [], ◌∷◌}
use Rattle.first_line.specs.declared.line.FirstLine.{FirstLine}
use Rattle.first_line.specs.declared.line.FirstLine.TheVariants as first

-- ` HTTP/`
abbrev pub mark : List ℕ
mark = 32 ∷ 72 ∷ 84 ∷ 84 ∷ 80 ∷ 47 ∷ []

-- the bytes begin with these
abbrev pub Begins : List ℕ → List ℕ → Type 0
Begins [] bytes = ⊤
Begins (x ∷ xs) [] = ⊥
Begins (x ∷ xs) (b ∷ bytes) = (b ≡ x) × Begins xs bytes

-- the mark stands in the first line of the bytes: here, or further on with no line feed before it
abbrev pub HasMark : List ℕ → Type 0
HasMark [] = ⊥
HasMark (b ∷ bytes) = Begins mark (b ∷ bytes) ⊎ ((b ≢ 10) × HasMark bytes)

-- the bytes are another protocol's: the first is that of TLS, or the mark stands in the first line
abbrev pub IsForeign : List ℕ → Type 0
IsForeign bytes = Begins (22 ∷ []) bytes ⊎ HasMark bytes

-- what has to come after this much of a first line, so that the bytes are another protocol's
abbrev pub IsForeignBehind : FirstLine → List ℕ → Type 0
IsForeignBehind first.Nothing more = IsForeign more
IsForeignBehind first.Open more = HasMark more
IsForeignBehind first.Space more = Begins (72 ∷ 84 ∷ 84 ∷ 80 ∷ 47 ∷ []) more ⊎ HasMark more
IsForeignBehind first.H more = Begins (84 ∷ 84 ∷ 80 ∷ 47 ∷ []) more ⊎ HasMark more
IsForeignBehind first.Ht more = Begins (84 ∷ 80 ∷ 47 ∷ []) more ⊎ HasMark more
IsForeignBehind first.Htt more = Begins (80 ∷ 47 ∷ []) more ⊎ HasMark more
IsForeignBehind first.Http more = Begins (47 ∷ []) more ⊎ HasMark more
IsForeignBehind first.Foreign more = ⊤
IsForeignBehind first.Own more = ⊥
