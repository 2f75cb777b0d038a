-- Bytes and lines as they come from a reader. This project's own.
use Rattle.std.specs.Prelude.{◌≡◌, ◌≢◌, ℕ, ◌+◌, ◌<◌, ◌≤◌, Bool, true, false, List, [], ◌∷◌, ◌++◌, length, take, All}
use Rattle.std.specs.Io.KnownBytes.{IsAtEnd}
use Rattle.vault_lines.specs.Limits.{longest_line}
use Rattle.line_inlet.specs.Inflow.{Inflow}
use Rattle.line_inlet.specs.Reading.{Reading, Gave, GaveNone}
use Rattle.line_inlet.specs.declared.inlet.NextByte.{NextByte}
use Rattle.line_inlet.specs.declared.inlet.NextByte.TheVariants as bytes
use Rattle.line_inlet.specs.declared.inlet.NextLine.{NextLine}
use Rattle.line_inlet.specs.declared.inlet.NextLine.TheVariants as lines
use Rattle.line_inlet.specs.declared.inlet.Piece.{Piece}
use Rattle.line_inlet.specs.declared.inlet.Piece.TheVariants as pieces
use Rattle.line_inlet.specs.declared.inlet.Filled.{Filled}
use Rattle.line_inlet.specs.declared.inlet.Filled.TheVariants as filled
use Rattle.line_inlet.specs.declared.inlet.Given.{Given}
use Rattle.line_inlet.specs.declared.inlet.Given.TheVariants as reads
use Rattle.line_inlet.specs.declared.inlet.TheConstants.{MAX_BYTES, CHUNK}
use Rattle.vault_lines.specs.declared.limits.TheConstants.{MAX_READS}

-- the most bytes of a connection that are taken
abbrev pub most_bytes : ℕ
most_bytes = MAX_BYTES

-- the most calls of a connection's reader
abbrev pub most_reads : ℕ
most_reads = MAX_READS

-- the most bytes that one read gives
abbrev pub chunk_size : ℕ
chunk_size = CHUNK

-- no line feed is among the bytes
abbrev pub IsOneLine : List ℕ → Type 0
IsOneLine line = All (λ b. b ≢ 10) line

-- the next byte of those that were pending and those that were given since
abbrev pub GivesByte : Inflow → List ℕ → NextByte → Inflow → Reading → Type 0
GivesByte old given (bytes.Byte b) new rest =
    (old.pending ++ given ≡ b ∷ new.pending) × (new.taken ≡ old.taken + 1) × (new.taken ≤ most_bytes)
GivesByte old given bytes.End new rest = (old.pending ++ given ≡ []) × IsAtEnd rest.ahead
GivesByte old given bytes.Fault new rest = Unit {0}
GivesByte old given bytes.Limit new rest = most_bytes < old.taken + length (old.pending ++ given)
GivesByte old given bytes.NotYet new rest = (new.pending ≡ old.pending ++ given) × (new.taken ≡ old.taken)

-- the line so far is kept, while it isn't too long
abbrev pub KeepsLine : List ℕ → List ℕ → Bool → Type 0
KeepsLine line kept false = (kept ≡ line) × (length line ≤ longest_line)
KeepsLine line kept true = longest_line < length line

-- what was pending and given begins with this line and a line feed, which are taken; what follows them is pending
pub record CutsLine (old : Inflow) (given line : List ℕ) (new : Inflow) : Type 0 where
  pub bytes : old.pending ++ given ≡ line ++ 10 ∷ new.pending
  pub one : IsOneLine line
  pub taken : new.taken ≡ old.taken + length line + 1
  pub within : new.taken ≤ most_bytes

-- The next line of those bytes. Its first bytes, the part, came before. If it isn't whole, what came of it is kept.
abbrev pub GivesLine : Inflow → List ℕ → List ℕ → NextLine → List ℕ → Bool → Inflow → Reading → Type 0
GivesLine old given part lines.Whole line is_long new rest =
    (piece : List ℕ) × CutsLine old given piece new × (line ≡ part ++ piece) × (length line ≤ longest_line)
GivesLine old given part lines.TooLong line is_long new rest =
    (piece : List ℕ) × CutsLine old given piece new × (longest_line < length (part ++ piece))
GivesLine old given part lines.End line is_long new rest = IsOneLine (old.pending ++ given) × IsAtEnd rest.ahead
GivesLine old given part lines.Fault line is_long new rest = Unit {0}
GivesLine old given part lines.Limit line is_long new rest = most_bytes < old.taken + length (old.pending ++ given)
GivesLine old given part lines.NotYet line is_long new rest =
    (piece : List ℕ) × (old.pending ++ given ≡ piece ++ new.pending) × IsOneLine piece × KeepsLine (part ++ piece) line is_long
    × (new.taken ≡ old.taken + length piece) × (new.taken ≤ most_bytes)

-- a read gave the first bytes of the chunk, none only at the end; or it consumed nothing
abbrev pub ReadsChunk : Reading → Reading → List ℕ → Given → Type 0
ReadsChunk old new chunk (reads.Bytes count) =
    (count ≤ length chunk) × (count ≤ chunk_size) × Gave old new (take count chunk) × (count ≡ 0 → IsAtEnd new.ahead)
ReadsChunk old new chunk reads.NotYet = GaveNone old new
ReadsChunk old new chunk reads.Fault = GaveNone old new

-- bytes wait now, or none is left, or none came and nothing changed
abbrev pub Fills : Inflow → List ℕ → Filled → Inflow → Reading → Type 0
Fills old given filled.Waiting new rest = (new.pending ≡ old.pending ++ given) × (0 < length new.pending) × (new.taken ≡ old.taken)
Fills old given filled.End new rest = (old.pending ++ given ≡ []) × IsAtEnd rest.ahead
Fills old given filled.Fault new rest = Unit {0}
Fills old given filled.NotYet new rest = (old.pending ≡ []) × (given ≡ []) × (new ≡ old) × (new.taken ≤ most_bytes)

-- the first byte that waits, or there is one too many
abbrev pub TakesByte : Inflow → NextByte → Inflow → Type 0
TakesByte old (bytes.Byte b) new = (old.pending ≡ b ∷ new.pending) × (new.taken ≡ old.taken + 1) × (new.taken ≤ most_bytes)
TakesByte old bytes.End new = ⊥
TakesByte old bytes.Fault new = ⊥
TakesByte old bytes.Limit new = most_bytes < old.taken + length old.pending
TakesByte old bytes.NotYet new = ⊥

-- What the bytes that wait gave to the line so far: its end, with the line feed after these bytes; or all of them, none of which is a
-- line feed. Or too many bytes would be taken.
abbrev pub TakesPiece : Inflow → List ℕ → Piece → List ℕ → Inflow → Type 0
TakesPiece old so_far pieces.Whole kept new = (piece : List ℕ) × CutsLine old [] piece new × KeepsLine (so_far ++ piece) kept false
TakesPiece old so_far pieces.TooLong kept new = (piece : List ℕ) × CutsLine old [] piece new × KeepsLine (so_far ++ piece) kept true
TakesPiece old so_far (pieces.More is_long) kept new =
    IsOneLine old.pending × (new.pending ≡ []) × KeepsLine (so_far ++ old.pending) kept is_long
    × (new.taken ≡ old.taken + length old.pending) × (new.taken ≤ most_bytes)
TakesPiece old so_far pieces.End kept new = ⊥
TakesPiece old so_far pieces.Fault kept new = ⊥
TakesPiece old so_far pieces.Limit kept new = most_bytes < old.taken + length old.pending
TakesPiece old so_far pieces.NotYet kept new = ⊥

-- if the line goes on, bytes were taken, and not too many
abbrev pub TakesMore : Inflow → Piece → Inflow → Type 0
TakesMore old (pieces.More is_long) new = (old.taken < new.taken) × (new.taken ≤ most_bytes)
TakesMore old _ new = Unit {0}

-- the same for what was pending and what a read gave; if that was nothing, the line so far stays, and whether it is too long
abbrev pub GivesPiece : Inflow → List ℕ → List ℕ → Bool → Piece → List ℕ → Inflow → Reading → Type 0
GivesPiece old given so_far was_long pieces.Whole kept new rest =
    (piece : List ℕ) × CutsLine old given piece new × KeepsLine (so_far ++ piece) kept false
GivesPiece old given so_far was_long pieces.TooLong kept new rest =
    (piece : List ℕ) × CutsLine old given piece new × KeepsLine (so_far ++ piece) kept true
GivesPiece old given so_far was_long (pieces.More is_long) kept new rest =
    IsOneLine (old.pending ++ given) × (new.pending ≡ []) × KeepsLine (so_far ++ (old.pending ++ given)) kept is_long
    × (new.taken ≡ old.taken + length (old.pending ++ given)) × (new.taken ≤ most_bytes)
GivesPiece old given so_far was_long pieces.End kept new rest = (old.pending ++ given ≡ []) × IsAtEnd rest.ahead
GivesPiece old given so_far was_long pieces.Fault kept new rest = Unit {0}
GivesPiece old given so_far was_long pieces.Limit kept new rest = most_bytes < old.taken + length (old.pending ++ given)
GivesPiece old given so_far was_long pieces.NotYet kept new rest =
    (old.pending ++ given ≡ []) × (new.pending ≡ []) × KeepsLine so_far kept was_long × (new.taken ≡ old.taken) × (new.taken ≤ most_bytes)
