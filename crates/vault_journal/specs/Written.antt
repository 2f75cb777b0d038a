-- What a writer of one field does.
use Rattle.std.specs.Prelude.{◌≡◌, ℕ, ◌+◌, ◌≤◌, List, length}
use Rattle.vault_device.specs.Disk.{overwritten}

-- These bytes were written over others from an offset on, none of them past the end, and `end` is the offset behind them.
pub record IsWritten (at : ℕ) (bytes : List ℕ) (end : ℕ) (old new : List ℕ) : Type 0 where
  pub written : new ≡ overwritten old at bytes
  pub behind : end ≡ at + length bytes
  pub within : end ≤ length old
  pub size : length new ≡ length old
