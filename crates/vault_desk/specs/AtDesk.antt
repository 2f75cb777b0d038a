-- What contracts see of a desk. This project's own.
use Rattle.std.specs.Prelude.{Bool, ℕ}
use Rattle.group_commit.specs.Seen.{VaultSeen}

-- its vault, whether it was closed, and how many conversations wait for a claim
pub record AtDesk (D : Type 0) : Type 0 where
  pub vault : VaultSeen D
  pub closed : Bool
  pub waiting : ℕ
