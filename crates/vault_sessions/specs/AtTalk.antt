-- What contracts see of a dialogue. This project's own.
use Rattle.std.specs.Prelude.{ℕ, Bool, List, Option}
use Rattle.line_inlet.specs.Reading.{Reading}
use Rattle.vault_sessions.specs.declared.dialogue.Awaits.{Awaits}
use Rattle.vault_desk.specs.declared.tally.Totals.{Totals}

-- what a dialogue began with: what was known of the bytes that its connection gives, the bytes written to it, and what the share counted; also the
-- references that the connection holds, and whether the values of answers are kept
pub record Beginning : Type 0 where
  pub reading : Reading
  pub contents : Option (List ℕ)
  pub counted : Totals
  pub names : ℕ × ℕ
  pub keeps : Bool

-- what it began with, what is known now of the bytes that its connection gives, the bytes written to it, the session that it speaks for (0: none),
-- what its next step is for, whether no step is left, and whether it may be finished: no step is left, or it was given up
pub record AtTalk : Type 0 where
  pub began : Beginning
  pub reading : Reading
  pub contents : Option (List ℕ)
  pub session : ℕ
  pub awaits : Awaits
  pub is_over : Bool
  pub has_ended : Bool
