-- The results of reading. This project's own.
use Rattle.std.specs.Prelude.{◌≡◌, ℕ, List, [], ◌∷◌, Option, Some, None, Result, Ok, Err}
use Rattle.vault_lines.specs.declared.error.LineError.{LineError}
use Rattle.vault_lines.specs.declared.error.LineError.TheVariants.{BadLine, NoMemory}

-- a call's result is what there is to read: the value, or `BadLine` if there is none. Out of memory, it says nothing.
abbrev pub Gives : {X : Type 0} → Result X LineError → Option X → Type 0
Gives (Ok x) there = there ≡ Some x
Gives (Err BadLine) there = there ≡ None
Gives (Err NoMemory) there = Unit {0}

-- the second step, if the first gave a value: the `?` of these definitions
infixl 10 ◌>>=◌
abbrev pub ◌>>=◌ : {A B : Type 0} → Option A → (A → Option B) → Option B
None >>= f = None
(Some x) >>= f = f x

-- what each word says, if every word says something
abbrev pub each_in : {X : Type 0} → (List ℕ → Option X) → List (List ℕ) → Option (List X)
each_in read [] = Some []
each_in read (word ∷ words) = do
  x ← read word
  xs ← each_in read words
  Some (x ∷ xs)
