-- The entries of a life are acknowledged in their order, and then they are dropped.
use Rattle.std.proofs.Common.{◌≡◌, ℕ, zero, suc, ◌+◌, ◌-◌, ◌≤◌, ◌<◌, Bool, true, false, cond, List, [], ◌∷◌, ◌++◌, length, drop, Option, Some, None, refl, sym, ap, ◌∙◌, subst, arith, length-append, length-drop}
use Rattle.std.specs.Prelude.{codes, filter, nat_lt, slice_index}
use Rattle.std.specs.Str.{bytes_eq}
use Rattle.std.proofs.lemmas.Bool.{ltb-true, ltb-false}
use Rattle.vault_model.specs.Said.{Command}
use Rattle.vault_device.specs.declared.history.Pick.{Pick}
use Rattle.group_commit.specs.declared.mark.Mark.TheVariants.{Told}
use Rattle.group_commit.specs.Entries.{opened, with_mark}
use Rattle.group_commit.specs.History.{entry_of}
use Rattle.group_commit.specs.View.{View, length_of, book_of}
use Rattle.group_commit.specs.Seen.{snapshot_length}
use Rattle.group_commit.specs.Laws.{IsReachable}
use Rattle.group_commit.proofs.Marks.{length-with_mark}
use Rattle.group_commit.proofs.Reach.{reachable_goes_on}
use Rattle.vault_lines.specs.Grammar.{command_of}
use Rattle.vault_protocol.specs.Talk.{Line, Known, Awaited, Talk, Said, told, told_text, reply_at, behind, said_of, said_now, said, all_gone, with_text, pumped, pumps, pumps_needed, committed, may_start, started, is_full, staged, is_awaited, is_known, crashed}
use Rattle.vault_protocol.specs.Script.{is_skipped, connection_line, crash_line, answered, ready, heard_of, said_with, said_for}
use Rattle.vault_protocol.specs.ScriptLaws.{talk_after}
use Rattle.vault_protocol.proofs.OpenLines.{AreOpen, open_from, still_open}
use Rattle.vault_protocol.proofs.LettingGo.{AreClosed, closed_few, closed_more, settled_gone}
use Rattle.vault_protocol.proofs.ScriptRuns.{KeepsActs, KeepsOpenings, IsSoundTalk, either, text_sound, pump_sound, start_sound, commit_sound, answer_sound, ready_sound, crash_sound, with_sound}
use Rattle.vault_protocol.proofs.Commits.{in_order}

-- What a script reaches.

abbrev pub Reached : View → Type 0
Reached = IsReachable snapshot_length

pub reaches_acts : KeepsActs Reached
reaches_acts = record { acts = (reachable_goes_on snapshot_length).acts }

pub reaches_openings : KeepsOpenings Reached
reaches_openings = record { opens = (reachable_goes_on snapshot_length).opens }

-- Each entry that isn't acknowledged yet has its line, in their order.

abbrev pub AreNext : ℕ → ℕ → List Line → Type 0
AreNext from to [] = from ≡ to
AreNext from to (Known text ∷ lines) = AreNext from to lines
AreNext from to (Awaited connection position ∷ lines) = (position ≡ from) × AreNext (from + 1) to lines

-- this is so in this conversation, and the acknowledged entries are dropped
pub record IsInTurn (talk : Talk) : Type 0 where
  pub gone : talk.view.retired ≡ talk.view.told
  pub turns : AreNext talk.view.told (length_of talk.view) talk.lines

-- and all durable entries are acknowledged
pub record IsToldWhole (talk : Talk) : Type 0 where
  pub turn : IsInTurn talk
  pub whole : talk.view.told ≡ talk.view.settled

next_known : (from to : ℕ) (text : List ℕ) (lines : List Line) → AreNext from to lines → AreNext from to (lines ++ Known text ∷ [])
next_known from to text [] n = n
next_known from to text (Known other ∷ lines) n = next_known from to text lines n
next_known from to text (Awaited connection position ∷ lines) n = (n.0, next_known (from + 1) to text lines n.1)

next_awaited : (from to later connection position : ℕ) (lines : List Line) → position ≡ to → later ≡ to + 1 → AreNext from to lines → AreNext from later (lines ++ Awaited connection position ∷ [])
next_awaited from to later connection position [] here one n = (here ∙ sym n, ap (λ k. k + 1) n ∙ sym one)
next_awaited from to later connection position (Known other ∷ lines) here one n = next_awaited from to later connection position lines here one n
next_awaited from to later connection position (Awaited another before ∷ lines) here one n = (n.0, next_awaited (from + 1) to later connection position lines here one n.1)

next_none : (lines : List Line) → AreNext 0 0 (filter is_known lines)
next_none [] = refl
next_none (Known text ∷ lines) = next_none lines
next_none (Awaited connection position ∷ lines) = next_none lines

-- What an acknowledgement leaves.

-- the numbers of acknowledged entries, as they have to be before and after each acknowledgement
pub record InBounds (v : View) : Type 0 where
  pub gone_told : v.retired ≤ v.told
  pub told_settled : v.told ≤ v.settled
  pub settled_all : v.settled ≤ length_of v
  pub closed : AreClosed (v.told - v.retired) v.kept

-- all durable entries are acknowledged, and closed
pub record IsSaid (old new : Talk) : Type 0 where
  pub retired : new.view.retired ≡ old.view.retired
  pub settled : new.view.settled ≡ old.view.settled
  pub told : new.view.told ≡ new.view.settled
  pub many : length_of new.view ≡ length_of old.view
  pub closed : AreClosed (new.view.settled - new.view.retired) new.view.kept
  pub turns : AreNext new.view.told (length_of new.view) new.lines

-- no more entries are acknowledged
said_none : (talk : Talk) (lines : List Line) → InBounds talk.view → talk.view.settled ≤ talk.view.told → AreNext talk.view.told (length_of talk.view) lines
    → IsSaid talk (record talk { lines = lines })
said_none talk lines b none turns =
    let below : talk.view.told ≤ talk.view.settled = b.told_settled in
    let same : talk.view.told ≡ talk.view.settled = omega (arith, none, below) in
    record {
      retired = refl;
      settled = refl;
      told = same;
      many = refl;
      closed = subst (λ n. AreClosed (n - talk.view.retired) talk.view.kept) same b.closed;
      turns = turns;
    }

-- the entry whose turn it is was acknowledged
told_bounds : (talk : Talk) (connection position : ℕ) (lines : List Line) → InBounds talk.view → position ≡ talk.view.told → position < talk.view.settled
    → AreOpen talk.view.kept talk.view.retired talk.view.retired (Awaited connection position ∷ lines) → InBounds (told talk connection position).view
told_bounds talk connection position lines b turn settled o =
    let v = talk.view in
    let gone : v.retired ≤ v.told = b.gone_told in
    let all : v.settled ≤ v.retired + length v.kept = b.settled_all in
    let many = length-with_mark Told v.kept (position - v.retired) in
    let place : position - v.retired ≡ v.told - v.retired = ap (λ n. n - v.retired) turn in
    let one : suc (position - v.retired) ≡ v.told + 1 - v.retired = omega (arith, turn, gone) in
    record {
      gone_told = omega (arith, gone);
      told_settled = omega (arith, turn, settled);
      settled_all = omega (arith, all, many);
      closed = subst (λ n. AreClosed n (with_mark Told v.kept (position - v.retired))) one
          (closed_more (position - v.retired) v.kept (subst (λ n. AreClosed n v.kept) (sym place) b.closed) o.0.is_open);
    }

abbrev TellsAll : Talk → List Line → Type 0
TellsAll talk lines = InBounds talk.view → AreOpen talk.view.kept talk.view.retired talk.view.retired lines → AreNext talk.view.told (length_of talk.view) lines
    → IsSaid talk (said_of talk lines).talk

said_of_is : (talk : Talk) (lines : List Line) → TellsAll talk lines
said_of_is talk [] b o n = let all : talk.view.settled ≤ length_of talk.view = b.settled_all in said_none talk [] b (omega (arith, all, n)) n
said_of_is talk (Known text ∷ lines) b o n = said_of_is talk lines b o n
said_of_is talk (Awaited connection position ∷ lines) b o n = by_test (λ next. said_of_is next lines) (nat_lt position talk.view.settled) refl
  where
    v : View
    v = talk.view

    next : Talk
    next = told talk connection position

    many : length (with_mark Told v.kept (position - v.retired)) ≡ length v.kept
    many = length-with_mark Told v.kept (position - v.retired)

    later : ((other : Talk) → TellsAll other lines) → position < v.settled → IsSaid talk (said_of next lines).talk
    later tells settled =
        let here : v.retired ≤ position = o.0.reached in
        let unclosed =
        open_from next.view.kept v.retired (position + 1) v.retired lines (omega (arith, here))
        (still_open Told v.kept v.retired (position + 1) position lines here (omega arith) o.1) in
        let turns : AreNext (v.told + 1) (length_of next.view) lines = subst (λ k. AreNext (v.told + 1) (v.retired + k) lines) (sym many) n.1 in
        let rest = tells next (told_bounds talk connection position lines b n.0 settled o) unclosed turns in
        record {
          retired = rest.retired;
          settled = rest.settled;
          told = rest.told;
          many = rest.many ∙ ap (λ k. v.retired + k) many;
          closed = rest.closed;
          turns = rest.turns;
        }

    by_test : ((other : Talk) → TellsAll other lines) → (b : Bool) → nat_lt position v.settled ≡ b
        → IsSaid talk (cond b (behind (told_text connection (reply_at v position)) (said_of next lines)) (record { text = []; talk = record talk { lines = Awaited connection position ∷ lines } })).talk
    by_test tells true e = later tells (ltb-true _ _ e)
    by_test tells false e =
        let turn : position ≡ v.told = n.0 in
        let none : v.settled ≤ position = ltb-false _ _ e in
        said_none talk (Awaited connection position ∷ lines) b (omega (arith, turn, none)) n

-- after each acknowledgement
pub bounds : (talk : Talk) → IsSoundTalk Reached talk → IsInTurn talk → InBounds talk.view
bounds talk s t =
    let order = in_order talk.view s.vault.holds in
    let settled : talk.view.retired ≤ talk.view.settled = order.retired_settled in
    let gone : talk.view.retired ≡ talk.view.told = t.gone in
    let none : 0 ≡ talk.view.told - talk.view.retired = omega (arith, gone) in
    record {
      gone_told = omega (arith, gone);
      told_settled = omega (arith, gone, settled);
      settled_all = order.settled_all;
      closed = subst (λ n. AreClosed n talk.view.kept) none tt;
    }

pub said_is : (talk : Talk) → IsSoundTalk Reached talk → IsInTurn talk → IsSaid talk (said_now talk).talk
said_is talk s t = said_of_is talk talk.lines (bounds talk s t) s.awaited t.turns

-- the view after it, without the acknowledged entries
abbrev GoneTo : List Line → View → Type 0
GoneTo lines v = (v.retired ≡ v.told) × (v.told ≡ v.settled) × AreNext v.told (length_of v) lines

all_gone_to : (old new : Talk) → old.view.retired ≤ old.view.settled → IsSaid old new → GoneTo new.lines (all_gone new.view)
all_gone_to old new order is = subst (GoneTo new.lines) (sym (settled_gone v is.closed)) (gone, is.told, turns)
  where
    v : View
    v = new.view

    n : ℕ
    n = v.settled - v.retired

    ordered : v.retired ≤ v.settled
    ordered = let retired : v.retired ≡ old.view.retired = is.retired in let settled : v.settled ≡ old.view.settled = is.settled in omega (arith, order, retired, settled)

    gone : v.retired + n ≡ v.told
    gone = let all : v.told ≡ v.settled = is.told in omega (arith, ordered, all)

    turns : AreNext v.told (v.retired + n + length (drop n v.kept)) new.lines
    turns =
        let few : n ≤ length v.kept = closed_few n v.kept is.closed in
        let size : length (drop n v.kept) ≡ length v.kept - n = length-drop n v.kept in
        let same : v.retired + length v.kept ≡ v.retired + n + length (drop n v.kept) = omega (arith, few, size) in
        subst (λ k. AreNext v.told k new.lines) same is.turns

pub now_told : (talk : Talk) → IsSoundTalk Reached talk → IsInTurn talk → IsToldWhole (said talk).talk
now_told talk s t =
    let gone = all_gone_to talk (said_now talk).talk (in_order talk.view s.vault.holds).retired_settled (said_is talk s t) in
    record { turn = record { gone = gone.0; turns = gone.2 }; whole = gone.1 }

-- Each change of a conversation.

pub in_turn_pump : (talk : Talk) → IsInTurn talk → IsInTurn (pumped talk)
unfolding pumped
in_turn_pump talk t = record { gone = t.gone; turns = t.turns }

in_turn_pumps : (n : ℕ) (talk : Talk) → IsInTurn talk → IsInTurn (pumps n talk)
in_turn_pumps zero talk t = t
in_turn_pumps (suc n) talk t = in_turn_pumps n (pumped talk) (in_turn_pump talk t)

pub in_turn_commit : (talk : Talk) → IsInTurn talk → IsInTurn (committed talk)
unfolding committed
in_turn_commit talk t = in_turn_pumps (pumps_needed talk.view) talk t

pub in_turn_start : (talk : Talk) → IsInTurn talk → IsInTurn (started talk)
unfolding started
in_turn_start talk t = either IsInTurn (may_start talk) (record { gone = t.gone; turns = t.turns }) t

pub in_turn_text : (talk : Talk) (text : List ℕ) → IsInTurn talk → IsInTurn (with_text talk text)
in_turn_text talk text t = record { gone = t.gone; turns = next_known talk.view.told (length_of talk.view) text talk.lines t.turns }

in_turn_stage : (talk : Talk) (connection : ℕ) (command : Command) → IsInTurn talk → IsInTurn (staged talk connection command)
in_turn_stage talk connection command t =
    let entry = opened (entry_of (book_of talk.view) (slice_index talk.sessions (connection - 1)) command) in
    let longer = length-append talk.view.kept (entry ∷ []) in
    record {
      gone = t.gone;
      turns = next_awaited talk.view.told (length_of talk.view) (talk.view.retired + length (talk.view.kept ++ entry ∷ [])) connection (length_of talk.view) talk.lines
          refl (omega (arith, longer)) t.turns;
    }

told_crash : (pick : Pick) (talk : Talk) → IsInTurn (crashed pick talk)
told_crash pick talk = record { gone = refl; turns = next_none talk.lines }

pub in_turn_answer : (talk : Talk) (connection : ℕ) (command : Option Command) → IsInTurn talk → IsInTurn (answered talk connection command)
in_turn_answer talk connection None t = in_turn_text talk _ t
in_turn_answer talk connection (Some command) t = either IsInTurn (is_full talk) (in_turn_text talk _ t) (in_turn_stage talk connection command t)

-- Each line of a script.

abbrev LeavesTold : Said → Type 0
LeavesTold said = IsToldWhole said.talk

pub told_commit : (talk : Talk) → IsSoundTalk Reached talk → IsToldWhole talk → LeavesTold (said (committed talk))
told_commit talk s t = now_told (committed talk) (commit_sound Reached reaches_acts talk s) (in_turn_commit talk t.turn)

pub told_ready : (talk : Talk) (connection : ℕ) → IsSoundTalk Reached talk → IsToldWhole talk → LeavesTold (ready talk connection)
told_ready talk connection s t = either LeavesTold (is_awaited talk connection) (told_commit talk s t) t

told_line : (talk : Talk) (line : Option (ℕ × List ℕ)) → IsSoundTalk Reached talk → IsToldWhole talk → LeavesTold (heard_of talk line)
told_line talk None s t = now_told (with_text talk (codes "! ERR 10\n")) (text_sound Reached talk _ s) (in_turn_text talk _ t.turn)
told_line talk (Some line) s t =
    let before = (ready talk line.0).talk in
    let sound = ready_sound Reached reaches_acts talk line.0 s in
    now_told (answered before line.0 (command_of line.1)) (answer_sound Reached reaches_acts before line.0 (command_of line.1) sound)
    (in_turn_answer before line.0 (command_of line.1) (told_ready talk line.0 s t).turn)

told_with : (talk : Talk) (line : List ℕ) (pick : Option Pick) → IsSoundTalk Reached talk → IsToldWhole talk → LeavesTold (said_with talk line pick)
told_with talk line None s t =
    either LeavesTold (is_skipped line) t
    (either LeavesTold (bytes_eq line (codes "!commit")) (told_commit talk s t)
    (either LeavesTold (bytes_eq line (codes "!pump")) (now_told (pumped talk) (pump_sound Reached reaches_acts talk s) (in_turn_pump talk t.turn))
    (either LeavesTold (bytes_eq line (codes "!snapshot")) (now_told (started talk) (start_sound Reached reaches_acts talk s) (in_turn_start talk t.turn))
    (told_line talk (connection_line line) s t))))
told_with talk line (Some pick) s t = now_told (crashed pick talk) (crash_sound Reached reaches_openings pick talk s) (told_crash pick talk)

pub told_after : (talk : Talk) (lines : List (List ℕ)) → IsSoundTalk Reached talk → IsToldWhole talk → IsToldWhole (talk_after talk lines)
told_after talk [] s t = t
told_after talk (line ∷ lines) s t =
    told_after (said_for talk line).talk lines (with_sound Reached reaches_acts reaches_openings talk line (crash_line line) s) (told_with talk line (crash_line line) s t)
