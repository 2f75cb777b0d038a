-- The limits of scripts; `src/limits.rt` has the numbers. This project's own.
use Rattle.std.specs.Prelude.{ℕ}
use Rattle.vault_protocol.specs.declared.limits.TheConstants.{LONGEST_SCRIPT, LAST_CONNECTION}

-- the most bytes of a script
abbrev pub longest_script : ℕ
longest_script = LONGEST_SCRIPT

-- the last connection of a script; the first is 1
abbrev pub last_connection : ℕ
last_connection = LAST_CONNECTION
