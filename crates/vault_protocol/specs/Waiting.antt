-- The lines that the program keeps, as the definitions see them.
use Rattle.std.specs.Prelude.{List, map}
use Rattle.vault_protocol.specs.declared.waiting.Waiting.{Waiting}
use Rattle.vault_protocol.specs.declared.waiting.Waiting.TheVariants as waiting
use Rattle.vault_protocol.specs.Talk.{Line, Known, Awaited}

-- a line that isn't printed yet
abbrev pub line_of : {A : Type 0} → Waiting A → Line
line_of (waiting.Known text) = Known text
line_of (waiting.Awaited connection ticket) = Awaited connection ticket.position

-- the lines that aren't printed yet
abbrev pub lines_of : {A : Type 0} → List (Waiting A) → List Line
lines_of lines = map line_of lines
