-- A conversation of several connections with one vault: what is printed, and what each order to the vault does. This project's own.
use Rattle.std.specs.Prelude.{ℕ, zero, suc, ◌+◌, ◌-◌, ◌/◌, ◌^◌, ◌==◌, ◌&&◌, ◌||◌, nat_le, nat_lt, Bool, true, false, List, [], ◌∷◌, ◌++◌, codes, decimal, length, drop, filter, replicate, slice_get, slice_index, slice_set, Option, Some, None, Ok, if◌then◌else◌}
use Rattle.std.specs.Option.{option_map}
use Rattle.vault_model.specs.Said.{Command, Reply, Effect}
use Rattle.vault_model.specs.declared.replies.Reply.TheVariants as replies
use Rattle.vault_state.specs.Vault.{new_vault, durable}
use Rattle.vault_model.specs.Step.{step}
use Rattle.vault_device.specs.declared.history.Pick.{Pick}
use Rattle.vault_device.specs.Picks.{gives_one}
use Rattle.vault_journal.specs.Spelling.{record_of}
use Rattle.vault_store.specs.declared.phase.Advanced.TheVariants.{Settled}
use Rattle.vault_store.specs.declared.phase.Phase.{Phase}
use Rattle.vault_store.specs.declared.phase.Phase.TheVariants.{Idle, Written, Bodied, Opening, Start, Closing, Writing, Filled, Ready, SnapOpening}
use Rattle.vault_format.specs.Files.{header}
use Rattle.vault_store.specs.Phases.{Waiting, Nothing, NoEffects, Effects, most_piece, is_idle, is_opening}
use Rattle.vault_store.specs.Seen.{most_noted, last_tail}
use Rattle.group_commit.specs.declared.mark.Mark.{Mark}
use Rattle.group_commit.specs.declared.mark.Mark.TheVariants.{Open, Told, Forgotten}
use Rattle.group_commit.specs.Entries.{Kept}
use Rattle.group_commit.specs.History.{effects}
use Rattle.group_commit.specs.Phases.{waiting}
use Rattle.group_commit.specs.World.{Stage, Pump, StartSnapshot, Tell, Retire}
use Rattle.group_commit.specs.View.{View, opened_view, length_of, view_at, book_of, view_row, view_acted}
use Rattle.group_commit.specs.Seen.{snapshot_length, most_kept, framed}
use Rattle.group_commit.specs.Calls.{generation_after, tail_after}
use Rattle.vault_protocol.specs.Limits.{last_connection}
use Rattle.vault_lines.specs.Texts.{reply_text}

-- a line that isn't printed yet: its text, or its connection and the position of its entry
pub data Line : Type 0 where
  Known : List ℕ → Line
  Awaited : ℕ → ℕ → Line

-- what contracts see of the vault; how many bytes of records are in no frame yet; the active file's generation, and the offset of
-- its tail gate; the session that each connection speaks for; how many entries this life had up to and with each connection's last
-- command, 0 for none; the lines that aren't printed yet, in order
pub record Talk : Type 0 where
  pub view : View
  pub buffer : ℕ
  pub generation : ℕ
  pub tail : ℕ
  pub sessions : List ℕ
  pub asked : List ℕ
  pub lines : List Line

-- what is printed, and the conversation after it
pub record Said : Type 0 where
  pub text : List ℕ
  pub talk : Talk

-- where the tail gate of a new vault stands
abbrev pub first_tail : ℕ
first_tail = 34

-- 0 for each connection
abbrev pub none_each : List ℕ
none_each = replicate last_connection 0

-- a new vault, and no connection with a session: each speaks for the door, which is session 0
abbrev pub new_talk : Talk
new_talk = record {
  view = opened_view new_vault;
  buffer = 0;
  generation = 1;
  tail = first_tail;
  sessions = none_each;
  asked = none_each;
  lines = [];
}

-- a connection speaks for the session that it opened last, and for the door again once it left
abbrev pub sessions_after : List ℕ → ℕ → Reply → List ℕ
sessions_after sessions connection (replies.Session number) = slice_set sessions (connection - 1) number
sessions_after sessions connection replies.Left = slice_set sessions (connection - 1) 0
sessions_after sessions connection reply = sessions

-- a text for a connection, with its number before it
abbrev pub connection_text : ℕ → List ℕ → List ℕ
connection_text connection text = codes "@" ++ decimal connection ++ codes " " ++ text

-- the reply of the entry at a position
abbrev pub reply_at : View → ℕ → Option Reply
reply_at view position = option_map (λ (kept : Kept). kept.entry.reply) (slice_get view.kept (position - view.retired))

-- the text of a reply for a connection
abbrev pub told_text : ℕ → Option Reply → List ℕ
told_text connection None = []
told_text connection (Some reply) = connection_text connection (reply_text reply)

-- the sessions after a connection got a reply
abbrev pub sessions_told : List ℕ → ℕ → Option Reply → List ℕ
sessions_told sessions connection None = sessions
sessions_told sessions connection (Some reply) = sessions_after sessions connection reply

-- a connection got the reply of the entry at a position, which counts as acknowledged
abbrev pub told : Talk → ℕ → ℕ → Talk
told talk connection position = record talk {
  view = view_acted snapshot_length talk.view (Tell position);
  sessions = sessions_told talk.sessions connection (reply_at talk.view position);
}

-- more text in front
abbrev pub behind : List ℕ → Said → Said
behind text said = record { text = text ++ said.text; talk = said.talk }

-- what is printed of these lines: the texts of those in front, up to the first line whose entry isn't durable; the entries whose
-- replies are printed count as acknowledged
abbrev pub said_of : Talk → List Line → Said
said_of talk [] = record { text = []; talk = record talk { lines = [] } }
said_of talk (Known text ∷ lines) = behind text (said_of talk lines)
said_of talk (Awaited connection position ∷ lines) =
    if nat_lt position talk.view.settled
    then behind (told_text connection (reply_at talk.view position)) (said_of (told talk connection position) lines)
    else record { text = []; talk = record talk { lines = Awaited connection position ∷ lines } }

-- what is printed now, before any entry is dropped
abbrev pub said_now : Talk → Said
said_now talk = said_of talk talk.lines

-- whether a ticket isn't out any more
abbrev pub is_closed : Mark → Bool
is_closed Open = false
is_closed Told = true
is_closed Forgotten = true

-- how many of these entries may be dropped, if the first `settled` are durable: those in front whose tickets aren't out any more
abbrev pub free_in : ℕ → List Kept → ℕ
free_in zero kept = 0
free_in (suc settled) [] = 0
free_in (suc settled) (kept ∷ rest) = if is_closed kept.mark then suc (free_in settled rest) else 0

-- what is seen after this number of the oldest entries were dropped
abbrev pub retirings : ℕ → View → View
retirings zero view = view
retirings (suc n) view = retirings n (view_acted snapshot_length view Retire)

-- what is seen after all entries were dropped that may be
unfoldable pub all_gone : View → View
all_gone view = retirings (free_in (view.settled - view.retired) view.kept) view

-- what is printed now; then the acknowledged entries are dropped
abbrev pub said : Talk → Said
said talk = let now = said_now talk in record { text = now.text; talk = record now.talk { view = all_gone now.talk.view } }

-- one more waiting line, with this text
abbrev pub with_text : Talk → List ℕ → Talk
with_text talk text = record talk { lines = talk.lines ++ Known text ∷ [] }

-- a pump
unfoldable pub pumped : Talk → Talk
pumped talk =
    let answered = Ok (view_row snapshot_length talk.view).answer in
    record talk {
      view = view_acted snapshot_length talk.view Pump;
      buffer = if is_idle talk.view.phase then 0 else talk.buffer;
      generation = generation_after talk.view answered talk.generation;
      tail = tail_after talk.view answered talk.tail;
    }

-- this number of pumps
abbrev pub pumps : ℕ → Talk → Talk
pumps zero talk = talk
pumps (suc n) talk = pumps n (pumped talk)

-- the number of pieces in which this number of bytes is written
abbrev pub pieces : ℕ → ℕ
pieces bytes = suc ((bytes - 1) / most_piece)

-- the number of pumps left in the commit or the snapshot under way; `length` is the size of the snapshot's vault in bytes
abbrev pub pumps_left : Phase → ℕ → ℕ
pumps_left Idle length = 0
pumps_left Written length = 3
pumps_left Bodied length = 2
pumps_left Opening length = 1
pumps_left Start length = 5 + pieces (header + length)
pumps_left Closing length = 4 + pieces (header + length)
pumps_left (Writing left) length = 3 + pieces left
pumps_left Filled length = 3
pumps_left Ready length = 2
pumps_left SnapOpening length = 1

-- the number of pumps that make durable what waits, once nothing is under way
abbrev pub pumps_for : Waiting → ℕ
pumps_for Nothing = 0
pumps_for NoEffects = 1
pumps_for Effects = 4

-- what waits behind the entries up to a position
abbrev pub waits_behind : View → ℕ → Waiting
waits_behind v position =
    let entries = drop (position - v.retired) v.kept in
    waiting entries (effects (view_at v position) entries)

-- the number of pumps that make all entries durable, and end what is under way
abbrev pub pumps_needed : View → ℕ
pumps_needed v = pumps_left v.phase (snapshot_length (durable (view_at v v.sealed))) + pumps_for (waits_behind v (framed v))

-- pumps until all entries are durable, and neither a commit nor a snapshot is under way
unfoldable pub committed : Talk → Talk
committed talk = pumps (pumps_needed talk.view) talk

-- whether a snapshot may be begun: nothing is under way, and there is a next generation
abbrev pub may_start : Talk → Bool
may_start talk = is_idle talk.view.phase && nat_lt (talk.generation + 1) (2 ^ 64)

-- a snapshot is begun, if one may be
unfoldable pub started : Talk → Talk
started talk = if may_start talk then record talk { view = view_acted snapshot_length talk.view StartSnapshot; buffer = 0 } else talk

-- no more commands get a place in the history: there are as many entries as may be, or there is no room for more records
abbrev pub is_full : Talk → Bool
is_full talk =
    nat_le most_kept (length talk.view.kept) || length_of talk.view == 2 ^ 64 - 1
    || nat_lt most_noted talk.buffer || nat_le last_tail talk.tail

-- how many bytes the record of an effect has, if there is one
abbrev pub noted_length : Option Effect → ℕ
noted_length None = 0
noted_length (Some effect) = length (record_of effect)

-- a command of a connection got its place in the history
abbrev pub staged : Talk → ℕ → Command → Talk
staged talk connection command =
    let session = slice_index talk.sessions (connection - 1) in
    record talk {
      view = view_acted snapshot_length talk.view (Stage session command);
      buffer = talk.buffer + noted_length (step (book_of talk.view) session command).effect;
      asked = slice_set talk.asked (connection - 1) (length_of talk.view + 1);
      lines = talk.lines ++ Awaited connection (length_of talk.view) ∷ [];
    }

-- a connection's earlier command isn't durable yet, so it isn't acknowledged
abbrev pub is_awaited : Talk → ℕ → Bool
is_awaited talk connection = nat_lt talk.view.settled (slice_index talk.asked (connection - 1))

-- whether a text is known
abbrev pub is_known : Line → Bool
is_known (Known text) = true
is_known (Awaited connection position) = false

-- whether a crash with this pick leaves the gate open that is being opened
abbrev pub opens : Pick → Talk → Bool
opens pick talk = gives_one pick && is_opening talk.view.phase

-- Both devices crash, and the vault is opened again, as it was after the durable entries. If the gate that was being opened is found
-- open, it is the vault after the sealed ones, with the generation and the tail that the last sync would have given. No connection
-- has a session, and the lines whose replies weren't printed are lost.
abbrev pub crashed : Pick → Talk → Talk
crashed pick talk = record {
  view = opened_view (durable (view_at talk.view (if opens pick talk then talk.view.sealed else talk.view.settled)));
  buffer = 0;
  generation = if opens pick talk then generation_after talk.view (Ok Settled) talk.generation else talk.generation;
  tail = if opens pick talk then tail_after talk.view (Ok Settled) talk.tail else talk.tail;
  sessions = none_each;
  asked = none_each;
  lines = filter is_known talk.lines;
}
