-- What a conversation has come to between two of its steps, by what it does next. This project's own.
use Rattle.std.specs.Prelude.{◌≡◌, ◌≢◌, ℕ, ◌+◌, ◌≤◌, ◌<◌, Bool, true, false, List, [], ◌∷◌, ◌++◌, length, take, drop, Option, Some, None, MatchBool}
use Rattle.std.specs.IoError.{error_kind}
use Rattle.std.specs.declared.io.Error.{Error}
use Rattle.std.specs.declared.io.ErrorKind.TheVariants.{WouldBlock}
use Rattle.std.specs.Io.KnownBytes.{Appends}
use Rattle.vault_lines.specs.Grammar.{command_of}
use Rattle.vault_model.specs.Said.{Command}
use Rattle.vault_model.specs.declared.commands.Command.TheVariants as commands
use Rattle.group_commit.specs.View.{View}
use Rattle.group_commit.specs.Ticket.{TicketSeen}
use Rattle.line_inlet.specs.Inflow.{Inflow}
use Rattle.line_inlet.specs.Reading.{Reading}
use Rattle.line_inlet.specs.Incoming.{most_bytes, IsOneLine, KeepsLine}
use Rattle.vault_desk.specs.Sights.{seen_by, WasStaged}
use Rattle.vault_desk.specs.Serving.{AreSeen, most_lines, Fits, FitsCommand, HeardSoFar, HeardAll, SpeaksFor, session_of, text_of, texts_of, IsLeft, NoneLeft, WritesAll, QuitsBy, CountsWith, lost_by}
use Rattle.vault_desk.specs.declared.report.Out.{Out}
use Rattle.vault_desk.specs.declared.report.Out.TheVariants.{Refused}
use Rattle.vault_desk.specs.declared.report.Ended.{Ended}
use Rattle.vault_desk.specs.declared.report.Ended.TheVariants as ends
use Rattle.vault_desk.specs.declared.tally.Tally.{Ghosts as TallyGhosts}
use Rattle.vault_desk.specs.declared.tally.Totals.{Totals}
use Rattle.vault_desk.specs.declared.conversation.Conversation.{Conversation}
use Rattle.vault_desk.specs.declared.turn.Telling.{Telling}
use Rattle.vault_desk.specs.declared.turn.Turn.{Turn}
use Rattle.vault_desk.specs.declared.turn.Turn.TheVariants.{Hear, Keep, Wait, Tell, Over}
use Rattle.vault_desk.specs.declared.clerk.Heard.{Heard}
use Rattle.vault_desk.specs.declared.clerk.Heard.TheVariants as heard

-- The lines so far were answered, and after them a part of the next one was taken: it is kept, unless it is too long.
abbrev pub HeardPart : {A : Type 0} → Reading → Reading → Inflow → List ℕ → Bool → List (Out A) → Type 0
HeardPart old new inflow kept is_long outs =
    (part : List ℕ) × (before : Inflow) × HeardSoFar old new before outs × (before.pending ≡ part ++ inflow.pending)
    × (inflow.taken ≡ before.taken + length part) × (inflow.taken ≤ most_bytes) × IsOneLine part × KeepsLine part kept is_long

-- no byte of the next line was taken
abbrev pub IsBetween : List ℕ → Bool → Type 0
IsBetween kept is_long = (kept ≡ []) × (is_long ≡ false)

-- one more line was heard: its answer fits this command, or it has none if memory is refused and the conversation ends
abbrev pub HeardCommand : {A : Type 0} → Command → Reading → Reading → Inflow → List (Out A) → Type 0
HeardCommand {A} command old new inflow outs =
    ((out : Out A) → FitsCommand command out → HeardSoFar old new inflow (outs ++ out ∷ [])) × HeardAll old new outs ends.NoMemory

-- the command is the ticket's
abbrev pub HeardAsked : {A : Type 0} → TicketSeen → Reading → Reading → Inflow → List (Out A) → Type 0
HeardAsked ticket old new inflow outs = HeardCommand ticket.command old new inflow outs

-- what was heard, where these are the answers so far: the one that is written next is among them, the one that is waited for isn't
abbrev pub HearsBy : {A : Type 0} → Turn A → Reading → Reading → Inflow → List ℕ → Bool → List (Out A) → Type 0
HearsBy Hear old new inflow kept is_long outs = HeardPart old new inflow kept is_long outs
HearsBy (Keep kept_wait) old new inflow kept is_long outs = HeardCommand (commands.Await kept_wait.claim) old new inflow outs × IsBetween kept is_long
HearsBy (Wait ticket) old new inflow kept is_long outs = HeardAsked ticket old new inflow outs × IsBetween kept is_long
HearsBy (Tell telling) old new inflow kept is_long outs = HeardSoFar old new inflow outs × IsBetween kept is_long
HearsBy (Over ended) old new inflow kept is_long outs = HeardAll old new outs ended

-- the texts of all answers but the last one were written, and of that one the first `telling.written` bytes
abbrev pub TellsLast : {A : Type 0} → Option (List ℕ) → Option (List ℕ) → List (Out A) → Telling A → Type 0
TellsLast {A} old new outs telling =
    (before : List (Out A)) × (last : Out A) × (outs ≡ before ++ last ∷ []) × NoneLeft before × (telling.text.items ≡ text_of last)
    × Appends old new (texts_of before ++ take telling.written (text_of last)) × MatchBool telling.is_left (IsLeft last) (IsLeft last → ⊥)

-- what was written
abbrev pub WritesBy : {A : Type 0} → Turn A → Option (List ℕ) → Option (List ℕ) → List (Out A) → Type 0
WritesBy Hear old new outs = Appends old new (texts_of outs) × NoneLeft outs
WritesBy (Keep kept) old new outs = Appends old new (texts_of outs) × NoneLeft outs
WritesBy (Wait ticket) old new outs = Appends old new (texts_of outs) × NoneLeft outs
WritesBy (Tell telling) old new outs = TellsLast old new outs telling
WritesBy (Over ended) old new outs = WritesAll ended old new outs × QuitsBy ended outs

-- what was counted: the command that is waited for is staged, and not answered yet
abbrev pub CountsBy : {A : Type 0} → Turn A → Totals → List (Out A) → Totals → Type 0
CountsBy Hear old outs new = CountsWith old outs 0 new
CountsBy (Keep kept) old outs new = CountsWith old outs 0 new
CountsBy (Wait ticket) old outs new = (before : Totals) × CountsWith old outs 0 before × (new ≡ record before { staged = before.staged + 1 })
CountsBy (Tell telling) old outs new = CountsWith old outs 0 new
CountsBy (Over ended) old outs new = CountsWith old outs (lost_by ended) new

-- the ticket is of the session that the connection speaks for
abbrev pub AsksAs : {A : Type 0} → Turn A → ℕ → Type 0
AsksAs (Wait ticket) session = ticket.session ≡ session
AsksAs turn session = Unit {0}

-- 1 if an answer is waited for, else 0
abbrev pub waits_for : {A : Type 0} → Turn A → ℕ
waits_for (Keep kept) = 1
waits_for (Wait ticket) = 1
waits_for turn = 0

-- What a conversation has come to since its reader, its writer and its share were these: what it heard, whom it speaks for, what it wrote
-- and what it counted.
pub record Stands {A : Type 0} (turn : Turn A) (reader_old reader_new : Reading) (writer_old writer_new : Option (List ℕ)) (counts : Totals)
    (inflow : Inflow) (kept : List ℕ) (is_long : Bool) (outs : List (Out A)) (session : ℕ) (share : Totals) : Type 0 where
  pub heard : HearsBy turn reader_old reader_new inflow kept is_long outs
  pub few : length outs + waits_for turn ≤ most_lines
  pub spoken : SpeaksFor 0 outs
  pub session_is : session ≡ session_of 0 outs
  pub asked : AsksAs turn session
  pub written : WritesBy turn writer_old writer_new outs
  pub counted : CountsBy turn counts outs share

-- the entry of the command that is waited for was seen in the history
abbrev pub IsSeenIn : {A : Type 0} → List View → Turn A → Type 0
IsSeenIn seen (Wait ticket) = WasStaged seen ticket
IsSeenIn seen turn = Unit {0}

-- what a conversation saw of the vault shows its receipts as acknowledged, and the entry of the command that it waits for
pub record Knows {A : Type 0} (turn : Turn A) (seen : List View) (outs : List (Out A)) : Type 0 where
  pub told : AreSeen seen outs
  pub asked : IsSeenIn seen turn

-- the same for a conversation
abbrev pub StandsAt : {S T A : Type 0} {s : TallyGhosts S} {t : TallyGhosts T} → Turn A → (reader_old reader_new : Reading) (writer_old writer_new : Option (List ℕ))
    → Totals → Conversation S T A s t → Type 0
StandsAt turn reader_old reader_new writer_old writer_new counts talk =
    Stands turn reader_old reader_new writer_old writer_new counts talk.inlet talk.line.items talk.is_long talk.answers.outs talk.session talk.share
    × Knows turn (seen_by talk.sight) talk.answers.outs

-- how a conversation may end if its reader gives no more
abbrev pub IsReaders : Ended → Type 0
IsReaders ends.EndOfInput = Unit {0}
IsReaders ends.Read = Unit {0}
IsReaders ends.Limit = Unit {0}
IsReaders ends.Quit = ⊥
IsReaders ends.Write = ⊥
IsReaders ends.NoMemory = ⊥

-- how a line came: with the answer or the command that fits it, not yet whole, or not at all
abbrev pub IsHeard : {A : Type 0} → Heard A → Reading → Reading → Inflow → List ℕ → Bool → List (Out A) → Type 0
IsHeard (heard.Asked ticket) old new inflow kept is_long outs = HeardAsked ticket old new inflow outs × IsBetween kept is_long
IsHeard (heard.Refused outside) old new inflow kept is_long outs = HeardSoFar old new inflow (outs ++ Refused outside ∷ []) × IsBetween kept is_long
IsHeard (heard.Kept kept_wait) old new inflow kept is_long outs = HeardCommand (commands.Await kept_wait.claim) old new inflow outs × IsBetween kept is_long
IsHeard heard.NotYet old new inflow kept is_long outs = HeardPart old new inflow kept is_long outs
IsHeard (heard.Ended ended) old new inflow kept is_long outs = HeardAll old new outs ended × IsReaders ended

-- what was staged for it
abbrev pub StagesBy : {A : Type 0} → Heard A → ℕ → Totals → Totals → Type 0
StagesBy (heard.Asked ticket) session old new = (ticket.session ≡ session) × (new ≡ record old { staged = old.staged + 1 })
StagesBy (heard.Refused outside) session old new = new ≡ old
StagesBy (heard.Kept kept) session old new = new ≡ old
StagesBy heard.NotYet session old new = new ≡ old
StagesBy (heard.Ended ended) session old new = new ≡ old

-- the entry of what was staged for it was seen
abbrev pub ShowsHeard : {A : Type 0} → Heard A → List View → Type 0
ShowsHeard (heard.Asked ticket) seen = WasStaged seen ticket
ShowsHeard (heard.Refused outside) seen = Unit {0}
ShowsHeard (heard.Kept kept) seen = Unit {0}
ShowsHeard heard.NotYet seen = Unit {0}
ShowsHeard (heard.Ended ended) seen = Unit {0}

-- the ticket or the refusal that a line gets
abbrev pub FitsLine : {A : Type 0} → List ℕ → Heard A → Type 0
FitsLine line (heard.Asked ticket) = command_of line ≡ Option.Some ticket.command
FitsLine {A} line (heard.Refused outside) = Fits {A = A} line (Refused outside)
FitsLine line (heard.Kept kept) = command_of line ≡ Option.Some (commands.Await kept.claim)
FitsLine line heard.NotYet = ⊥
FitsLine line (heard.Ended ended) = ⊥

-- What writing an answer came to: all that was left of the text was written, or only some bytes of it, and then the writer failed or
-- takes no more for now.
abbrev pub TellsOn : {A : Type 0} → Telling A → Turn A → Option (List ℕ) → Option (List ℕ) → Type 0
TellsOn telling Hear old new = Appends old new (drop telling.written telling.text.items) × (telling.is_left ≡ false)
TellsOn telling (Tell more) old new =
    (count : ℕ) × (more.text.items ≡ telling.text.items) × (more.is_left ≡ telling.is_left) × (more.written ≡ telling.written + count)
    × (more.written < length telling.text.items) × Appends old new (take count (drop telling.written telling.text.items))
TellsOn telling (Over ends.Quit) old new = Appends old new (drop telling.written telling.text.items) × (telling.is_left ≡ true)
TellsOn telling (Over ends.Write) old new =
    (count : ℕ) × (telling.written + count < length telling.text.items) × Appends old new (take count (drop telling.written telling.text.items))
TellsOn telling turn old new = ⊥

-- what stopped the writing: it goes on later only if the writer would block, and any other error ends it
abbrev pub StoppedBy : {A : Type 0} → Turn A → Option Error → Type 0
StoppedBy (Tell more) (Some error) = error_kind error ≡ WouldBlock
StoppedBy (Tell more) None = ⊥
StoppedBy (Over ends.Write) (Some error) = error_kind error ≢ WouldBlock
StoppedBy turn why = why ≡ None

-- an answer is to be written whole, unless memory for its text was refused
abbrev pub IsAnswered : {A : Type 0} → Out A → Turn A → Type 0
IsAnswered out (Tell telling) = (telling.text.items ≡ text_of out) × (telling.written ≡ 0) × MatchBool telling.is_left (IsLeft out) (IsLeft out → ⊥)
IsAnswered out (Over ended) = ended ≡ ends.NoMemory
IsAnswered out Hear = ⊥
IsAnswered out (Keep kept) = ⊥
IsAnswered out (Wait ticket) = ⊥
