-- What contracts see of the bytes between a reader and the lines of a connection. This project's own.
use Rattle.std.specs.Prelude.{ℕ, List}

-- the bytes that were read and aren't taken yet, and how many were taken
pub record Inflow : Type 0 where
  pub pending : List ℕ
  pub taken : ℕ
