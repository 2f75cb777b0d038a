-- What holds of a dialogue between two steps. This project's own.
use Rattle.std.specs.Prelude.{◌≡◌, ◌≢◌, ℕ, ◌≤◌, Bool, true, false, List, length, Option, Some, None}
use Rattle.line_inlet.specs.Inflow.{Inflow}
use Rattle.line_inlet.specs.Reading.{Reading}
use Rattle.group_commit.specs.View.{View}
use Rattle.vault_desk.specs.Sights.{seen_by, HasItsLeave}
use Rattle.vault_desk.specs.Serving.{AreSeen, most_lines, HeardAll, SpeaksFor, session_of, WritesAll, QuitsBy, CountsAll}
use Rattle.vault_desk.specs.Talking.{Stands, Knows}
use Rattle.vault_desk.specs.declared.report.Out.{Out}
use Rattle.vault_desk.specs.declared.report.Ended.{Ended}
use Rattle.vault_desk.specs.declared.tally.Tally.{Ghosts as TallyGhosts}
use Rattle.vault_desk.specs.declared.tally.Totals.{Totals}
use Rattle.vault_desk.specs.declared.conversation.Conversation.{Conversation}
use Rattle.vault_sessions.specs.declared.dialogue.Awaits.{Awaits}
use Rattle.vault_sessions.specs.declared.dialogue.Awaits.TheVariants as awaited
use Rattle.vault_sessions.specs.declared.dialogue.Step.{Step}
use Rattle.vault_sessions.specs.declared.dialogue.Step.TheVariants as steps
use Rattle.vault_sessions.specs.declared.next.Next.{Next}
use Rattle.vault_desk.specs.declared.turn.Turn.{Turn}
use Rattle.vault_desk.specs.declared.turn.Turn.TheVariants.{Hear, Keep, Wait, Tell, Over}
use Rattle.vault_sessions.specs.declared.next.Next.TheVariants.{Takes, GivenUp, Done, TakenOut}

-- What a conversation came to in all, also with its last leave: what it heard, whom it spoke for, what it wrote and what it counted.
pub record IsDone {A : Type 0} (ended : Ended) (reader_old reader_new : Reading) (writer_old writer_new : Option (List ℕ)) (counts : Totals)
    (outs : List (Out A)) (session : ℕ) (share : Totals) : Type 0 where
  pub heard : HeardAll reader_old reader_new outs ended
  pub few : length outs ≤ most_lines
  pub spoken : SpeaksFor 0 outs
  pub session_is : session ≡ session_of 0 outs
  pub written : WritesAll ended writer_old writer_new outs
  pub quit : QuitsBy ended outs
  pub counted : CountsAll counts outs ended share

-- what it has come to, by what comes next; one that is done has the last leave of its session; its next turn is out only within a step
abbrev pub StandsIn : {A : Type 0} → Next A → (reader_old reader_new : Reading) (writer_old writer_new : Option (List ℕ)) → Totals → Inflow → List ℕ → Bool
    → List (Out A) → ℕ → Totals → Type 0
StandsIn (Takes turn) reader_old reader_new writer_old writer_new counts inflow kept is_long outs session share =
    Stands turn reader_old reader_new writer_old writer_new counts inflow kept is_long outs session share
StandsIn {A} (GivenUp ended) reader_old reader_new writer_old writer_new counts inflow kept is_long outs session share =
    Stands {A = A} (Over ended) reader_old reader_new writer_old writer_new counts inflow kept is_long outs session share
StandsIn (Done ended left) reader_old reader_new writer_old writer_new counts inflow kept is_long outs session share =
    IsDone ended reader_old reader_new writer_old writer_new counts outs session share × (left ≡ session)
StandsIn TakenOut reader_old reader_new writer_old writer_new counts inflow kept is_long outs session share = ⊥

-- what it saw of the vault shows what it needs to, by what comes next; once it is done also that its session has its leave
abbrev pub KnowsIn : {A : Type 0} → Next A → List View → List (Out A) → Type 0
KnowsIn (Takes turn) seen outs = Knows turn seen outs
KnowsIn (GivenUp ended) seen outs = AreSeen seen outs
KnowsIn (Done ended left) seen outs = AreSeen seen outs × HasItsLeave seen (session_of 0 outs)
KnowsIn TakenOut seen outs = ⊥

-- it left this session, and has the last leave of it
abbrev pub HasLeft : Option ℕ → ℕ → Type 0
HasLeft (Some left) session = left ≡ session
HasLeft None session = ⊥

-- the same for a conversation
abbrev pub TalksOn : {S T A : Type 0} {s : TallyGhosts S} {t : TallyGhosts T} → Next A → (reader_old reader_new : Reading) (writer_old writer_new : Option (List ℕ))
    → Totals → Conversation S T A s t → Type 0
TalksOn next reader_old reader_new writer_old writer_new counts talk =
    StandsIn next reader_old reader_new writer_old writer_new counts talk.inlet talk.line.items talk.is_long talk.answers.outs talk.session talk.share
    × KnowsIn next (seen_by talk.sight) talk.answers.outs

-- whether there is no step any more
abbrev pub is_done : {A : Type 0} → Next A → Bool
is_done (Takes turn) = false
is_done (GivenUp ended) = false
is_done (Done ended left) = true
is_done TakenOut = true

-- whether it is over or was given up
abbrev pub has_ended : {A : Type 0} → Next A → Bool
has_ended (Takes turn) = false
has_ended (GivenUp ended) = true
has_ended (Done ended left) = true
has_ended TakenOut = true

-- what a turn is for
abbrev pub awaits_by : {A : Type 0} → Turn A → Awaits
awaits_by Hear = awaited.Line
awaits_by (Keep kept) = awaited.Claim
awaits_by (Wait ticket) = awaited.Reply
awaits_by (Tell telling) = awaited.Telling
awaits_by (Over ended) = awaited.Leave

-- what the next step is for
abbrev pub awaits_of : {A : Type 0} → Next A → Awaits
awaits_of (Takes turn) = awaits_by turn
awaits_of (GivenUp ended) = awaited.Leave
awaits_of (Done ended left) = awaited.Nothing
awaits_of TakenOut = awaited.Nothing

-- what the server alone, or other sessions, may keep a step from
abbrev pub IsOthers : Awaits → Type 0
IsOthers awaited.Line = ⊥
IsOthers awaited.Claim = Unit {0}
IsOthers awaited.Reply = Unit {0}
IsOthers awaited.Telling = ⊥
IsOthers awaited.Leave = Unit {0}
IsOthers awaited.Nothing = ⊥

-- what a step was for, and what the next one is for, where it came to this
abbrev pub StepsBy : Step → Awaits → Awaits → Type 0
StepsBy steps.Went old new = new ≢ old
StepsBy steps.Waits old new = (new ≡ old) × IsOthers old
StepsBy steps.Dry old new = (old ≡ awaited.Line) × (new ≡ awaited.Line)
StepsBy steps.Full old new = (old ≡ awaited.Telling) × (new ≡ awaited.Telling)
StepsBy steps.Over old new = new ≡ awaited.Nothing
