-- What contracts see of an account. This project's own.
use Rattle.std.specs.Prelude.{List}
use Rattle.group_commit.specs.View.{View}
use Rattle.vault_sessions.specs.Reports.{Report}

-- its reports, and what was seen of the vault
pub record AtAccount (A : Type 0) : Type 0 where
  pub reports : List (Report A)
  pub seen : List View
