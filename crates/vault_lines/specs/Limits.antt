-- The limits of lines; `src/limits.rt` has the numbers. This project's own.
use Rattle.std.specs.Prelude.{ℕ}
use Rattle.vault_lines.specs.declared.limits.TheConstants.{LONGEST_LINE}

-- the most bytes of a line, without the line feed at its end
abbrev pub longest_line : ℕ
longest_line = LONGEST_LINE
