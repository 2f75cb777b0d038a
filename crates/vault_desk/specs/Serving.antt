-- What answers the lines of a connection get, what is written for them, and what a worker counts. This project's own.
use Rattle.std.specs.Prelude.{◌≡◌, ◌≢◌, ℕ, ◌+◌, ◌<◌, ◌≤◌, ◌==◌, if◌then◌else◌, List, [], ◌∷◌, ◌++◌, length, take, Option, Some, None, IsSome, ◌⊎◌, sum_by}
use Rattle.std.specs.List.{flat_map, AllZip}
use Rattle.std.specs.Io.KnownBytes.{Appends, IsAtEnd}
use Rattle.vault_model.specs.Said.{Command, Reply}
use Rattle.vault_model.specs.declared.replies.Reply.TheVariants as replies
use Rattle.vault_model.specs.declared.replies.Outside.TheVariants as outsides
use Rattle.vault_lines.specs.Limits.{longest_line}
use Rattle.vault_lines.specs.Grammar.{command_of}
use Rattle.vault_lines.specs.Texts.{reply_text, outside_text}
use Rattle.line_inlet.specs.Inflow.{Inflow}
use Rattle.line_inlet.specs.Reading.{Reading, Gave}
use Rattle.line_inlet.specs.Incoming.{most_bytes, IsOneLine}
use Rattle.group_commit.specs.View.{View}
use Rattle.vault_desk.specs.Sights.{WasTold, Acknowledged}
use Rattle.vault_desk.specs.declared.report.Out.{Out}
use Rattle.vault_desk.specs.declared.report.Out.TheVariants.{Told, Refused}
use Rattle.vault_desk.specs.declared.report.Ended.{Ended}
use Rattle.vault_desk.specs.declared.report.Ended.TheVariants as ends
use Rattle.vault_desk.specs.declared.tally.Totals.{Totals}
use Rattle.vault_desk.specs.declared.clerk.TheConstants.{MAX_LINES}

-- the most lines of a connection that are answered
abbrev pub most_lines : ℕ
most_lines = MAX_LINES

-- The answer fits the line: a receipt shows the command that the line spells, and the line is answered as bad exactly if it spells
-- none. But if it isn't too long to be read, memory for reading it may have been refused.
abbrev pub Fits : {A : Type 0} → List ℕ → Out A → Type 0
Fits line (Told receipt) = command_of line ≡ Some receipt.command
Fits line (Refused outsides.BadLine) = command_of line ≡ None
Fits line (Refused outsides.Busy) = IsSome (command_of line)
Fits line (Refused outsides.NoMemory) = length line ≤ longest_line
Fits line (Refused outsides.Broken) = IsSome (command_of line)

-- a line without its line feed, and its answer
abbrev pub IsAnswer : {A : Type 0} → List ℕ → Out A → Type 0
IsAnswer line out = IsOneLine line × Fits line out

-- a line with its line feed
abbrev pub with_feed : List ℕ → List ℕ
with_feed line = line ++ 10 ∷ []

-- what the reader gave is the lines that were answered, each answer at its line's place, and then what is left
pub record Hears {A : Type 0} (old new : Reading) (given : List ℕ) (lines : List (List ℕ)) (outs : List (Out A))
    (left : List ℕ) : Type 0 where
  pub given_is : Gave old new given
  pub lines_are : given ≡ flat_map with_feed lines ++ left
  pub answered : AllZip IsAnswer lines outs

-- the lines so far were answered, and what is left is pending
abbrev pub HeardSoFar : {A : Type 0} → Reading → Reading → Inflow → List (Out A) → Type 0
HeardSoFar old new inflow outs =
    (given : List ℕ) × (lines : List (List ℕ)) × Hears old new given lines outs inflow.pending
    × (inflow.taken ≡ length (flat_map with_feed lines)) × (inflow.taken ≤ most_bytes)

-- When a conversation may end so: the reader ended, and no whole line is left; or the most lines were answered, or the reader gave more
-- than the most bytes.
abbrev pub EndsBy : {A : Type 0} → Ended → Reading → List ℕ → List (Out A) → List ℕ → Type 0
EndsBy ends.EndOfInput new given outs left = IsAtEnd new.ahead × IsOneLine left
EndsBy ends.Limit new given outs left = (length outs ≡ most_lines) ⊎ (most_bytes < length given)
EndsBy ends.Quit new given outs left = Unit {0}
EndsBy ends.Read new given outs left = Unit {0}
EndsBy ends.Write new given outs left = Unit {0}
EndsBy ends.NoMemory new given outs left = Unit {0}

-- the lines were answered up to this end, and they have at most the most bytes
abbrev pub HeardAll : {A : Type 0} → Reading → Reading → List (Out A) → Ended → Type 0
HeardAll old new outs ended =
    (given : List ℕ) × (lines : List (List ℕ)) × (left : List ℕ) × Hears old new given lines outs left
    × (length (flat_map with_feed lines) ≤ most_bytes) × EndsBy ended new given outs left

-- the session that a connection speaks for after a reply; session 0 is the door
abbrev pub session_by : ℕ → Reply → ℕ
session_by session (replies.Session number) = number
session_by session replies.Left = 0
session_by session reply = session

-- the same after an answer
abbrev pub session_after : {A : Type 0} → ℕ → Out A → ℕ
session_after session (Told receipt) = session_by session receipt.reply
session_after session (Refused outside) = session

-- the receipt is of this session
abbrev pub IsOf : {A : Type 0} → ℕ → Out A → Type 0
IsOf session (Told receipt) = receipt.session ≡ session
IsOf session (Refused outside) = Unit {0}

-- each receipt is of the session that the connection spoke for then
abbrev pub SpeaksFor : {A : Type 0} → ℕ → List (Out A) → Type 0
SpeaksFor session [] = Unit {0}
SpeaksFor session (out ∷ outs) = IsOf session out × SpeaksFor (session_after session out) outs

-- a receipt's entry was seen as acknowledged
abbrev pub IsSeen : {A : Type 0} → List View → Out A → Type 0
IsSeen seen (Told receipt) = WasTold seen receipt
IsSeen seen (Refused outside) = Unit {0}

-- so was that of each receipt
abbrev pub AreSeen : {A : Type 0} → List View → List (Out A) → Type 0
AreSeen seen [] = Unit {0}
AreSeen seen (out ∷ outs) = IsSeen seen out × AreSeen seen outs

-- a receipt's entry stands, as acknowledged, in the history by which a vault came from one view to another
abbrev pub IsOfHistory : {A : Type 0} → View → View → Out A → Type 0
IsOfHistory old new (Told receipt) = Acknowledged old new receipt
IsOfHistory old new (Refused outside) = Unit {0}

-- so does that of each receipt
abbrev pub AreOfHistory : {A : Type 0} → View → View → List (Out A) → Type 0
AreOfHistory old new [] = Unit {0}
AreOfHistory old new (out ∷ outs) = IsOfHistory old new out × AreOfHistory old new outs

-- the session that the connection speaks for at the end
abbrev pub session_of : {A : Type 0} → ℕ → List (Out A) → ℕ
session_of session [] = session
session_of session (out ∷ outs) = session_of (session_after session out) outs

-- the line that an answer is written as
abbrev pub text_of : {A : Type 0} → Out A → List ℕ
text_of (Told receipt) = reply_text receipt.reply
text_of (Refused outside) = outside_text outside

-- the lines of several answers, one after another
abbrev pub texts_of : {A : Type 0} → List (Out A) → List ℕ
texts_of outs = flat_map text_of outs

-- a receipt of a leave
abbrev pub IsLeft : {A : Type 0} → Out A → Type 0
IsLeft (Told receipt) = receipt.reply ≡ replies.Left
IsLeft (Refused outside) = ⊥

-- the last answer is a receipt of a leave
abbrev pub EndsWithLeft : {A : Type 0} → List (Out A) → Type 0
EndsWithLeft {A} outs = (before : List (Out A)) × (last : Out A) × (outs ≡ before ++ last ∷ []) × IsLeft last

-- no answer is a receipt of a leave
abbrev pub NoneLeft : {A : Type 0} → List (Out A) → Type 0
NoneLeft [] = Unit {0}
NoneLeft (out ∷ outs) = (IsLeft out → ⊥) × NoneLeft outs

-- the texts of all answers were written, but of the last one only a part
abbrev pub CutsLast : {A : Type 0} → Option (List ℕ) → Option (List ℕ) → List (Out A) → Type 0
CutsLast {A} old new outs =
    (before : List (Out A)) × (last : Out A) × (count : ℕ) × (outs ≡ before ++ last ∷ []) × (count < length (text_of last))
    × Appends old new (texts_of before ++ take count (text_of last))

-- the texts of all answers but the last one were written
abbrev pub LacksLast : {A : Type 0} → Option (List ℕ) → Option (List ℕ) → List (Out A) → Type 0
LacksLast {A} old new outs = (before : List (Out A)) × (last : Out A) × (outs ≡ before ++ last ∷ []) × Appends old new (texts_of before)

-- What was written: the texts of the answers in order. If the writer failed, the last one is cut. If memory was refused, the last one
-- may be missing.
abbrev pub WritesAll : {A : Type 0} → Ended → Option (List ℕ) → Option (List ℕ) → List (Out A) → Type 0
WritesAll ends.Write old new outs = CutsLast old new outs
WritesAll ends.NoMemory old new outs = (Appends old new (texts_of outs) × (EndsWithLeft outs → ⊥)) ⊎ LacksLast old new outs
WritesAll ends.Quit old new outs = Appends old new (texts_of outs)
WritesAll ends.EndOfInput old new outs = Appends old new (texts_of outs)
WritesAll ends.Read old new outs = Appends old new (texts_of outs)
WritesAll ends.Limit old new outs = Appends old new (texts_of outs)

-- It quits exactly if the last answer is a receipt of a leave and its text was written whole. The two ends that aren't decided here
-- (`Write`, `NoMemory`) leave such a text cut or out.
abbrev pub QuitsBy : {A : Type 0} → Ended → List (Out A) → Type 0
QuitsBy ends.Quit outs = EndsWithLeft outs
QuitsBy ends.Write outs = Unit {0}
QuitsBy ends.NoMemory outs = Unit {0}
QuitsBy ends.EndOfInput outs = EndsWithLeft outs → ⊥
QuitsBy ends.Read outs = EndsWithLeft outs → ⊥
QuitsBy ends.Limit outs = EndsWithLeft outs → ⊥

-- 1 for a receipt
abbrev pub is_told : {A : Type 0} → Out A → ℕ
is_told (Told receipt) = 1
is_told (Refused outside) = 0

-- 1 for the answer that the vault is broken: its command may have been staged
abbrev pub is_broken : {A : Type 0} → Out A → ℕ
is_broken (Told receipt) = 0
is_broken (Refused outsides.BadLine) = 0
is_broken (Refused outsides.Busy) = 0
is_broken (Refused outsides.NoMemory) = 0
is_broken (Refused outsides.Broken) = 1

-- 1 if memory was refused at the end: a command may have been staged, and its reply lost
abbrev pub lost_by : Ended → ℕ
lost_by ends.NoMemory = 1
lost_by ends.Quit = 0
lost_by ends.EndOfInput = 0
lost_by ends.Read = 0
lost_by ends.Write = 0
lost_by ends.Limit = 0

-- 1 if a session is open at the end: a leave may have been staged for it
abbrev pub left_behind : {A : Type 0} → List (Out A) → ℕ
left_behind outs = if session_of 0 outs == 0 then 0 else 1

-- a share counted this number of receipts, each staged and acknowledged once, and at most `more` commands beyond them
pub record Counts (old : Totals) (receipts more : ℕ) (new : Totals) : Type 0 where
  pub told : new.told ≡ old.told + receipts
  pub least : old.staged + receipts ≤ new.staged
  pub most : new.staged ≤ old.staged + receipts + more

-- what a share counted with one answer
abbrev pub CountsOne : {A : Type 0} → Totals → Out A → Totals → Type 0
CountsOne old out new = Counts old (is_told out) (is_broken out) new

-- what it counted with these answers, and at most this number of lost commands
abbrev pub CountsWith : {A : Type 0} → Totals → List (Out A) → ℕ → Totals → Type 0
CountsWith old outs lost new = Counts old (sum_by is_told outs) (sum_by is_broken outs + lost) new

-- What it counted in all: the receipts among the answers, and beyond them at most the commands that a broken vault didn't answer, one
-- whose reply was refused memory, and one last leave.
abbrev pub CountsAll : {A : Type 0} → Totals → List (Out A) → Ended → Totals → Type 0
CountsAll old outs ended new = CountsWith old outs (lost_by ended + left_behind outs) new

-- the answer to this command
abbrev pub FitsCommand : {A : Type 0} → Command → Out A → Type 0
FitsCommand command (Told receipt) = receipt.command ≡ command
FitsCommand command (Refused outside) = outside ≢ outsides.BadLine
