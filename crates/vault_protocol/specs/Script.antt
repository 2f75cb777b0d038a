-- Scripts: what is printed for the lines of several connections to one vault, in order. This project's own.
use Rattle.std.specs.Prelude.{ℕ, ◌+◌, ◌-◌, ◌*◌, ◌==◌, ◌&&◌, nat_le, Bool, true, List, [], ◌∷◌, ◌++◌, codes, take, drop, position, Option, Some, None, if◌then◌else◌}
use Rattle.std.specs.List.{slice_split}
use Rattle.std.specs.Str.{bytes_eq}
use Rattle.vault_model.specs.Said.{Command}
use Rattle.vault_model.specs.declared.replies.Outside.TheVariants.{BadLine, Busy}
use Rattle.vault_device.specs.declared.history.Pick.{Pick}
use Rattle.vault_device.specs.declared.history.Pick.TheVariants.{Old, New, Bytes}
use Rattle.vault_protocol.specs.Limits.{last_connection}
use Rattle.vault_lines.specs.Reading.{◌>>=◌}
use Rattle.vault_lines.specs.Words.{number_in}
use Rattle.vault_lines.specs.Grammar.{command_of}
use Rattle.vault_lines.specs.Texts.{outside_text}
use Rattle.vault_protocol.specs.Talk.{Talk, Said, behind, new_talk, said, with_text, connection_text, pumped, committed, started, is_full, staged, is_awaited, crashed}

-- the number of a connection
abbrev pub connection_in : List ℕ → Option ℕ
connection_in word = do
  number ← number_in word
  if nat_le 1 number && nat_le number last_connection then Some number else None

-- a connection's number, a space and its line, which may be any bytes
abbrev pub numbered_line : List ℕ → Option (ℕ × List ℕ)
numbered_line rest = do
  at ← position (λ b. b == 32) rest
  connection ← connection_in (take at rest)
  Some (connection, drop (at + 1) rest)

-- the connection of a line that begins with `@`, its number and a space, and what it says behind them
abbrev pub connection_line : List ℕ → Option (ℕ × List ℕ)
connection_line [] = None
connection_line (first ∷ rest) = if first == 64 then numbered_line rest else None

-- the value of a hexadecimal digit, of lower case
abbrev pub digit_in : ℕ → Option ℕ
digit_in byte =
    if nat_le 48 byte && nat_le byte 57 then Some (byte - 48)
    else if nat_le 97 byte && nat_le byte 102 then Some (byte - 87) else None

-- a pick by its word: `old`, `new`, or a byte in two digits
abbrev pub byte_pick : List ℕ → Option Pick
byte_pick (high ∷ low ∷ []) = do
  high ← digit_in high
  low ← digit_in low
  Some (Bytes (16 * high + low))
byte_pick word = None

abbrev pub pick_in : List ℕ → Option Pick
pick_in word =
    if bytes_eq word (codes "old") then Some Old
    else if bytes_eq word (codes "new") then Some New else byte_pick word

-- how many bytes of a `!crash` line stand before the pick
abbrev pub crash_length : ℕ
crash_length = 7

-- `!crash`, a space and a pick
abbrev pub crash_line : List ℕ → Option Pick
crash_line line = if bytes_eq (take crash_length line) (codes "!crash ") then pick_in (drop crash_length line) else None

-- an empty line, and one that begins with `#`
abbrev pub is_skipped : List ℕ → Bool
is_skipped [] = true
is_skipped (first ∷ rest) = first == 35

-- a refusal for a connection, which is no entry of the history
abbrev pub with_refusal : Talk → ℕ → List ℕ → Talk
with_refusal talk connection text = with_text talk (connection_text connection text)

-- the conversation after a connection's line, which is a command or spells none
abbrev pub answered : Talk → ℕ → Option Command → Talk
answered talk connection None = with_refusal talk connection (outside_text BadLine)
answered talk connection (Some command) =
    if is_full talk then with_refusal talk connection (outside_text Busy)
    else staged talk connection command

-- a connection has one command under way: if its earlier one isn't durable yet, all is committed first
abbrev pub ready : Talk → ℕ → Said
ready talk connection = if is_awaited talk connection then said (committed talk) else record { text = []; talk = talk }

-- what is printed for a line of a connection
abbrev pub heard : Talk → ℕ → List ℕ → Said
heard talk connection line =
    let before = ready talk connection in
    behind before.text (said (answered before.talk connection (command_of line)))

-- the same, and for a line that isn't valid in a script
abbrev pub heard_of : Talk → Option (ℕ × List ℕ) → Said
heard_of talk None = said (with_text talk (codes "! ERR 10\n"))
heard_of talk (Some line) = heard talk line.0 line.1

-- what is printed for a line other than `!crash`
abbrev pub said_by : Talk → List ℕ → Said
said_by talk line =
    if is_skipped line then record { text = []; talk = talk }
    else if bytes_eq line (codes "!commit") then said (committed talk)
    else if bytes_eq line (codes "!pump") then said (pumped talk)
    else if bytes_eq line (codes "!snapshot") then said (started talk)
    else heard_of talk (connection_line line)

-- what is printed for a `!crash` line with a pick, or for another line
abbrev pub said_with : Talk → List ℕ → Option Pick → Said
said_with talk line None = said_by talk line
said_with talk line (Some pick) = said (crashed pick talk)

-- what is printed for a line
abbrev pub said_for : Talk → List ℕ → Said
said_for talk line = said_with talk line (crash_line line)

-- what is printed for the lines, each in the conversation that those before it left; the end commits
abbrev pub printed : Talk → List (List ℕ) → List ℕ
printed talk [] = (said (committed talk)).text
printed talk (line ∷ lines) = let now = said_for talk line in now.text ++ printed now.talk lines

-- The output of a script: a line feed ends each of its lines, but may be missing behind the last.
abbrev pub output : List ℕ → List ℕ
output script = printed new_talk (slice_split (λ b. b == 10) script)
