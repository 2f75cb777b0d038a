-- What holds for every script: what it does to its vault is a run of the world, and a commit makes all durable. This project's own.
use Rattle.std.specs.Prelude.{◌≡◌, ◌⊎◌, ℕ, ◌+◌, List, [], ◌∷◌, ◌++◌, codes, map, length, if◌then◌else◌, Some, None, slice_get}
use Rattle.vault_model.specs.declared.replies.Outside.TheVariants.{BadLine, Busy}
use Rattle.vault_device.specs.declared.history.Pick.{Pick}
use Rattle.vault_store.specs.declared.phase.Phase.TheVariants.{Idle}
use Rattle.group_commit.specs.Entries.{Entry, Kept}
use Rattle.group_commit.specs.World.{new_world, Act, GateLeft, StaysClosed, IsOpen}
use Rattle.group_commit.specs.Runs.{Event, Within, Crash, run, IsRun}
use Rattle.group_commit.specs.View.{View, view_of, length_of}
use Rattle.group_commit.specs.Seen.{snapshot_length}
use Rattle.group_commit.specs.Laws.{IsReachable}
use Rattle.vault_device.specs.Picks.{gives_one}
use Rattle.vault_lines.specs.Texts.{reply_text, outside_text}
use Rattle.vault_protocol.specs.Talk.{Talk, Said, connection_text, new_talk, said, committed}
use Rattle.vault_protocol.specs.Script.{crash_line, said_for, printed}

-- what lines print before the end commits
abbrev pub texts_of : Talk → List (List ℕ) → List ℕ
texts_of talk [] = []
texts_of talk (line ∷ lines) = let now = said_for talk line in now.text ++ texts_of now.talk lines

-- the conversation after them
abbrev pub talk_after : Talk → List (List ℕ) → Talk
talk_after talk [] = talk
talk_after talk (line ∷ lines) = talk_after (said_for talk line).talk lines

-- the conversation that a script of these lines reaches before its end
abbrev pub reached_by : List (List ℕ) → Talk
reached_by lines = talk_after new_talk lines

-- and at its end: all is committed, and then all that may be printed is
abbrev pub ended_by : List (List ℕ) → Talk
ended_by lines = (said (committed (reached_by lines))).talk

-- a script's lines print what the first of them print, and then what the others print in the conversation after those
abbrev pub PrintedInParts : Type 0
PrintedInParts =
    (lines more : List (List ℕ)) → printed new_talk (lines ++ more) ≡ texts_of new_talk lines ++ printed (reached_by lines) more

-- some run reaches what is seen of a script's vault, after any of its lines and at its end
abbrev pub ScriptsAreRuns : Type 0
ScriptsAreRuns =
    (lines : List (List ℕ)) → IsReachable snapshot_length (reached_by lines).view × IsReachable snapshot_length (ended_by lines).view

-- these events are a run, and reach a world with this view
pub record IsRunTo (events : List Event) (view : View) : Type 0 where
  pub is_run : IsRun snapshot_length new_world events
  pub reaches : view_of (run snapshot_length new_world events) ≡ view

-- these events and more reach this view
abbrev pub GoesOnTo : List Event → View → Type 0
GoesOnTo events view = (more : List Event) × IsRunTo (events ++ more) view

-- these events and more acts reach this view, without another crash
abbrev pub ActsOnTo : List Event → View → Type 0
ActsOnTo events view = (acts : List Act) × IsRunTo (events ++ map Within acts) view

-- every run that reaches what is seen after some lines goes on to what is seen after more of them, and at the end
abbrev pub RunsGoOn : Type 0
RunsGoOn =
    (lines more : List (List ℕ)) (events : List Event) → IsRunTo events (reached_by lines).view
    → GoesOnTo events (reached_by (lines ++ more)).view × GoesOnTo events (ended_by (lines ++ more)).view

-- how a crash with this pick leaves a gate that is being opened
abbrev pub gate_of : Pick → GateLeft
gate_of pick = if gives_one pick then IsOpen else StaysClosed

-- a `!crash` line is one crash, and leaves the gate as its pick says
abbrev pub StopsAreCrashes : Type 0
StopsAreCrashes =
    (lines : List (List ℕ)) (line : List ℕ) (pick : Pick) (events : List Event) → crash_line line ≡ Some pick
    → IsRunTo events (reached_by lines).view
    → IsRunTo (events ++ Crash (gate_of pick) ∷ []) (said_for (reached_by lines) line).talk.view

-- any other line, and the end, are acts alone
abbrev pub OthersAreActs : Type 0
OthersAreActs =
    (lines : List (List ℕ)) (events : List Event) → IsRunTo events (reached_by lines).view
    → ((line : List ℕ) → crash_line line ≡ None → ActsOnTo events (said_for (reached_by lines) line).talk.view)
    × ActsOnTo events (ended_by lines).view

-- A commit makes all entries durable, leaves nothing under way, and changes nothing else of the view but the number of sealed entries.
abbrev pub CommitsSettle : Type 0
CommitsSettle =
    (lines : List (List ℕ)) → let old = (reached_by lines).view in
    let new = (committed (reached_by lines)).view in new ≡ record old { settled = length_of old; sealed = new.sealed; phase = Idle }

-- no line waits for its reply at the end of a script
abbrev pub EndsTold : Type 0
EndsTold = (lines : List (List ℕ)) → (ended_by lines).lines ≡ []

-- an outside text: for a line that isn't valid in a script, a connection's line that spells no command, or one that gets no place in
-- the history
abbrev pub IsOutside : List ℕ → Type 0
IsOutside text =
    (text ≡ codes "! ERR 10\n")
    ⊎ ((connection : ℕ) × (text ≡ connection_text connection (outside_text BadLine)))
    ⊎ ((connection : ℕ) × (text ≡ connection_text connection (outside_text Busy)))

-- the entries that a view keeps
abbrev pub entries_in : View → List Entry
entries_in view = map (λ (kept : Kept). kept.entry) view.kept

-- a text gives a connection the reply of the entry at a place
pub record IsToldAt (entries : List Entry) (place : ℕ) (text : List ℕ) : Type 0 where
  pub connection : ℕ
  pub entry : Entry
  pub stands : slice_get entries place ≡ Some entry
  pub says : text ≡ connection_text connection (reply_text entry.reply)

-- each of these texts is an outside text or such a reply; the replies are those of the entries from one place to a later one, in order
abbrev pub AreTold : List Entry → ℕ → ℕ → List (List ℕ) → Type 0
AreTold entries from to [] = from ≡ to
AreTold entries from to (text ∷ texts) =
    (IsOutside text × AreTold entries from to texts) ⊎ (IsToldAt entries from text × AreTold entries (from + 1) to texts)

-- texts one after another
abbrev pub joined : List (List ℕ) → List ℕ
joined [] = []
joined (text ∷ texts) = text ++ joined texts

-- a text is made of such texts
pub record IsMadeOfTold (entries : List Entry) (from to : ℕ) (text : List ℕ) : Type 0 where
  pub texts : List (List ℕ)
  pub each : AreTold entries from to texts
  pub whole : text ≡ joined texts

-- what is printed is made of the replies of the oldest entries that were kept before; these entries count as acknowledged after it
pub record PrintsOldest (old : View) (said : Said) : Type 0 where
  pub count : ℕ
  pub counted : said.talk.view.told ≡ old.told + count
  pub made : IsMadeOfTold (entries_in old) 0 count said.text

-- A line other than `!crash` prints, beside outside texts, the replies of the oldest entries that were kept before it, in their order
-- and once, and these count as acknowledged. A `!crash` line prints outside texts alone. The end prints the replies of all entries
-- that were kept. After a line exactly the acknowledged entries are dropped, and after the end none is kept.
pub record PrintsReplies (lines : List (List ℕ)) : Type 0 where
  pub others : (line : List ℕ) → crash_line line ≡ None → PrintsOldest (reached_by lines).view (said_for (reached_by lines) line)
  pub stops : (line : List ℕ) (pick : Pick) → crash_line line ≡ Some pick → IsMadeOfTold [] 0 0 (said_for (reached_by lines) line).text
  pub at_end : let old = (reached_by lines).view in IsMadeOfTold (entries_in old) 0 (length old.kept) (said (committed (reached_by lines))).text
  pub let_go : (reached_by lines).view.retired ≡ (reached_by lines).view.told
  pub none_kept : (ended_by lines).view.kept ≡ []

-- this holds after any lines
abbrev pub RepliesAreTold : Type 0
RepliesAreTold = (lines : List (List ℕ)) → PrintsReplies lines
