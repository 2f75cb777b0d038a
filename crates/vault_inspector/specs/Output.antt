-- How much of a text is written.
use Rattle.std.specs.Prelude.{◌≡◌, List, ◌++◌, ℕ, Option, Result, MatchResult}
use Rattle.std.specs.Io.KnownBytes.{Appends}

-- a writer that held some bytes got a first part of a text
pub record GetsPart (old new : Option (List ℕ)) (text : List ℕ) : Type 0 where
  pub part : List ℕ
  pub rest : List ℕ
  pub whole : text ≡ part ++ rest
  pub got : Appends old new part

-- at Ok it got the whole text, otherwise a first part of it
abbrev pub Writes : {T E : Type 0} → Option (List ℕ) → Option (List ℕ) → List ℕ → Result T E → Type 0
Writes old new text result = MatchResult result (λ _. Appends old new text) (λ _. GetsPart old new text)
