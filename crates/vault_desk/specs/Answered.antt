-- What contracts see of the answers of a conversation. This project's own.
use Rattle.std.specs.Prelude.{Bool, true, false, List, Option, Some, None}
use Rattle.vault_desk.specs.declared.report.Out.{Out}

-- all answers, whether their values are kept, and whether there is room for one more
pub record Answered (A : Type 0) : Type 0 where
  pub outs : List (Out A)
  pub is_kept : Bool
  pub has_room : Bool

-- whether there is a value
abbrev pub has_value : {X : Type 0} → Option X → Bool
has_value None = false
has_value (Some x) = true
