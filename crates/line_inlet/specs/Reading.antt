-- What is known of the bytes of a connection that is read. This project's own.
use Rattle.std.specs.Prelude.{◌≡◌, ℕ, ◌<◌, List, length, take, Option, None, Result, MatchResult}
use Rattle.std.specs.Io.KnownBytes.{Appends, Consumes, Keeps, IsAtEnd}

-- the bytes that are still to come, and those that it gave, each where they are known
pub record Reading : Type 0 where
  pub ahead : Option (List ℕ)
  pub behind : Option (List ℕ)

-- nothing is known
abbrev pub unknown : Reading
unknown = record { ahead = None; behind = None }

-- of a reader the bytes that are still to come are known, if any
abbrev pub to_come : Option (List ℕ) → Reading
to_come bytes = record { ahead = bytes; behind = None }

-- between these it gave the bytes
pub record Gave (old new : Reading) (bytes : List ℕ) : Type 0 where
  pub ahead : Consumes old.ahead new.ahead bytes
  pub behind : Appends old.behind new.behind bytes

-- between these it gave nothing
pub record GaveNone (old new : Reading) : Type 0 where
  pub ahead : Keeps old.ahead new.ahead
  pub behind : Keeps old.behind new.behind

-- `read(buf)` gave n bytes at `Ok(n)`, none only at the end or with no room, and nothing at `Err`
abbrev pub ReadGave : {E : Type 0} → Reading → Reading → Result ℕ E → List ℕ → Type 0
ReadGave old new r buf = MatchResult r (λ n. Gave old new (take n buf) × (n ≡ 0 → 0 < length buf → IsAtEnd new.ahead)) (λ _. GaveNone old new)
