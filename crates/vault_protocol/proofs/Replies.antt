-- What is printed is an outside text, or the reply of an acknowledged entry.
use Rattle.std.proofs.Common.{◌≡◌, ℕ, zero, suc, ◌+◌, ◌-◌, ◌≤◌, Bool, true, false, cond, inl, inr, List, [], ◌∷◌, ◌++◌, length, map, Option, Some, None, refl, sym, ap, ◌∙◌, subst, arith, append_assoc}
use Rattle.std.specs.Prelude.{codes, filter, nat_lt, slice_get}
use Rattle.std.specs.Option.{option_map}
use Rattle.std.specs.Str.{bytes_eq}
use Rattle.std.proofs.lemmas.Option.{same_Some}
use Rattle.std.proofs.lemmas.Bool.{ltb-true}
use Rattle.vault_model.specs.Said.{Command}
use Rattle.vault_device.specs.declared.history.Pick.{Pick}
use Rattle.group_commit.specs.declared.mark.Mark.TheVariants.{Open, Told}
use Rattle.group_commit.specs.Entries.{Entry, Kept}
use Rattle.group_commit.specs.View.{View, length_of}
use Rattle.group_commit.proofs.Marks.{entry_there, length-with_mark}
use Rattle.vault_lines.specs.Grammar.{command_of}
use Rattle.vault_protocol.specs.Talk.{Line, Known, Awaited, Talk, Said, reply_at, told, told_text, behind, said_of, said_now, said, all_gone, with_text, pumped, pumps, pumps_needed, committed, may_start, started, is_full, is_awaited, is_known, crashed}
use Rattle.vault_protocol.specs.Script.{is_skipped, connection_line, crash_line, answered, ready, heard, heard_of, said_by, said_with, said_for}
use Rattle.vault_protocol.specs.ScriptLaws.{talk_after, IsOutside, entries_in, IsToldAt, AreTold, joined, IsMadeOfTold, PrintsOldest}
use Rattle.vault_protocol.specs.Saying.{known_texts}
use Rattle.vault_protocol.proofs.Saying.{known_said}
use Rattle.vault_protocol.proofs.Lost.{same_marked}
use Rattle.vault_protocol.proofs.InTurn.{Reached, reaches_acts, AreNext, IsInTurn, IsToldWhole, IsSaid, said_is, in_turn_pump, in_turn_start, in_turn_commit, in_turn_answer, in_turn_text, told_ready}
use Rattle.vault_protocol.proofs.LettingGo.{settled_gone}
use Rattle.vault_protocol.proofs.Commits.{in_order, commit_settles}
use Rattle.vault_protocol.proofs.OpenLines.{AreOpen, open_from, still_open}
use Rattle.vault_protocol.proofs.ScriptRuns.{IsSoundTalk, either, commit_sound, pump_sound, start_sound, text_sound, ready_sound, answer_sound}

-- The known texts of lines are outside texts.

abbrev pub AreOutside : List Line → Type 0
AreOutside [] = Unit {0}
AreOutside (Known text ∷ lines) = IsOutside text × AreOutside lines
AreOutside (Awaited connection position ∷ lines) = AreOutside lines

one_known : (text : List ℕ) (lines : List Line) → IsOutside text → AreOutside lines → AreOutside (lines ++ Known text ∷ [])
one_known text [] out o = (out, tt)
one_known text (Known other ∷ lines) out o = (o.0, one_known text lines out o.1)
one_known text (Awaited connection position ∷ lines) out o = one_known text lines out o

one_awaited : (connection position : ℕ) (lines : List Line) → AreOutside lines → AreOutside (lines ++ Awaited connection position ∷ [])
one_awaited connection position [] o = tt
one_awaited connection position (Known other ∷ lines) o = (o.0, one_awaited connection position lines o.1)
one_awaited connection position (Awaited another before ∷ lines) o = one_awaited connection position lines o

known_outside : (lines : List Line) → AreOutside lines → AreOutside (filter is_known lines)
known_outside [] o = tt
known_outside (Known text ∷ lines) o = (o.0, known_outside lines o.1)
known_outside (Awaited connection position ∷ lines) o = known_outside lines o

said_outside : (talk : Talk) (lines : List Line) → AreOutside lines → AreOutside (said_of talk lines).talk.lines
said_outside talk [] o = tt
said_outside talk (Known text ∷ lines) o = said_outside talk lines o.1
said_outside talk (Awaited connection position ∷ lines) o =
    either (λ (s : Said). AreOutside s.talk.lines) (nat_lt position talk.view.settled) (said_outside (told talk connection position) lines o) o

pumps_outside : (n : ℕ) (talk : Talk) → AreOutside talk.lines → AreOutside (pumps n talk).lines
unfolding pumped
pumps_outside zero talk o = o
pumps_outside (suc n) talk o = pumps_outside n (pumped talk) o

pump_outside : (talk : Talk) → AreOutside talk.lines → AreOutside (pumped talk).lines
unfolding pumped
pump_outside talk o = o

commit_outside : (talk : Talk) → AreOutside talk.lines → AreOutside (committed talk).lines
unfolding committed
commit_outside talk o = pumps_outside (pumps_needed talk.view) talk o

start_outside : (talk : Talk) → AreOutside talk.lines → AreOutside (started talk).lines
unfolding started
start_outside talk o = either (λ (t : Talk). AreOutside t.lines) (may_start talk) o o

abbrev LeavesOutside : Said → Type 0
LeavesOutside said = AreOutside said.talk.lines

answer_outside : (talk : Talk) (connection : ℕ) (command : Option Command) → AreOutside talk.lines → AreOutside (answered talk connection command).lines
answer_outside talk connection None o = one_known _ talk.lines (inr (inl (connection, refl))) o
answer_outside talk connection (Some command) o =
    either (λ (t : Talk). AreOutside t.lines) (is_full talk) (one_known _ talk.lines (inr (inr (connection, refl))) o) (one_awaited connection _ talk.lines o)

ready_outside : (talk : Talk) (connection : ℕ) → AreOutside talk.lines → LeavesOutside (ready talk connection)
ready_outside talk connection o = either LeavesOutside (is_awaited talk connection) (said_outside (committed talk) (committed talk).lines (commit_outside talk o)) o

hear_outside : (talk : Talk) (connection : ℕ) (line : List ℕ) → AreOutside talk.lines → LeavesOutside (heard talk connection line)
hear_outside talk connection line o =
    let answer = answered (ready talk connection).talk connection (command_of line) in
    said_outside answer answer.lines (answer_outside (ready talk connection).talk connection (command_of line) (ready_outside talk connection o))

line_outside : (talk : Talk) (line : Option (ℕ × List ℕ)) → AreOutside talk.lines → LeavesOutside (heard_of talk line)
line_outside talk None o = said_outside (with_text talk (codes "! ERR 10\n")) (with_text talk (codes "! ERR 10\n")).lines (one_known _ talk.lines (inl refl) o)
line_outside talk (Some line) o = hear_outside talk line.0 line.1 o

with_outside : (talk : Talk) (line : List ℕ) (pick : Option Pick) → AreOutside talk.lines → LeavesOutside (said_with talk line pick)
with_outside talk line None o =
    either LeavesOutside (is_skipped line) o
    (either LeavesOutside (bytes_eq line (codes "!commit")) (said_outside (committed talk) (committed talk).lines (commit_outside talk o))
    (either LeavesOutside (bytes_eq line (codes "!pump")) (said_outside (pumped talk) (pumped talk).lines (pump_outside talk o))
    (either LeavesOutside (bytes_eq line (codes "!snapshot")) (said_outside (started talk) (started talk).lines (start_outside talk o))
    (line_outside talk (connection_line line) o))))
with_outside talk line (Some pick) o = said_outside (crashed pick talk) (crashed pick talk).lines (known_outside talk.lines o)

pub after_outside : (talk : Talk) (lines : List (List ℕ)) → AreOutside talk.lines → AreOutside (talk_after talk lines).lines
after_outside talk [] o = o
after_outside talk (line ∷ lines) o = after_outside (said_for talk line).talk lines (with_outside talk line (crash_line line) o)

-- Texts that are made of replies and outside texts.

told_both : (entries : List Entry) (from middle to : ℕ) (texts more : List (List ℕ)) → AreTold entries from middle texts → AreTold entries middle to more
    → AreTold entries from to (texts ++ more)
told_both entries from middle to [] more t u = subst (λ k. AreTold entries k to more) (sym t) u
told_both entries from middle to (text ∷ texts) more t u = elim t [
  | inl outside ↦ inl (outside.0, told_both entries from middle to texts more outside.1 u)
  | inr told ↦ inr (told.0, told_both entries (from + 1) middle to texts more told.1 u)
]

joined_both : (texts more : List (List ℕ)) → joined texts ++ joined more ≡ joined (texts ++ more)
joined_both [] more = refl
joined_both (text ∷ texts) more = append_assoc text (joined texts) (joined more) ∙ ap (λ rest. text ++ rest) (joined_both texts more)

made_of_none : (entries : List Entry) (from : ℕ) → IsMadeOfTold entries from from []
made_of_none entries from = record { texts = []; each = refl; whole = refl }

made_of_both : (entries : List Entry) (from middle to : ℕ) (text more : List ℕ) → IsMadeOfTold entries from middle text → IsMadeOfTold entries middle to more
    → IsMadeOfTold entries from to (text ++ more)
made_of_both entries from middle to text more a b = record {
  texts = a.texts ++ b.texts;
  each = told_both entries from middle to a.texts b.texts a.each b.each;
  whole = ap (λ t. t ++ more) a.whole ∙ ap (λ t. joined a.texts ++ t) b.whole ∙ joined_both a.texts b.texts;
}

outside_first : (entries : List Entry) (from to : ℕ) (text more : List ℕ) → IsOutside text → IsMadeOfTold entries from to more → IsMadeOfTold entries from to (text ++ more)
outside_first entries from to text more outside m = record { texts = text ∷ m.texts; each = inl (outside, m.each); whole = ap (λ t. text ++ t) m.whole }

told_first : (entries : List Entry) (from to : ℕ) (text more : List ℕ) → IsToldAt entries from text → IsMadeOfTold entries (from + 1) to more → IsMadeOfTold entries from to (text ++ more)
told_first entries from to text more told m = record { texts = text ∷ m.texts; each = inr (told, m.each); whole = ap (λ t. text ++ t) m.whole }

entry_in : (kept : List Kept) (place : ℕ) (one : Kept) → slice_get kept place ≡ Some one → slice_get (map (λ (kept : Kept). kept.entry) kept) place ≡ Some one.entry
entry_in [] place one e = cc e
entry_in (x ∷ xs) zero one e = ap (λ (kept : Kept). Some kept.entry) (same_Some x one e)
entry_in (x ∷ xs) (suc place) one e = entry_in xs place one e

-- What is printed.

-- the entry whose turn it is
told_here : (talk : Talk) (connection position : ℕ) (lines : List Line) → AreOpen talk.view.kept talk.view.retired talk.view.retired (Awaited connection position ∷ lines)
    → position ≡ talk.view.told → IsToldAt (entries_in talk.view) (talk.view.told - talk.view.retired) (told_text connection (reply_at talk.view position))
told_here talk connection position lines open_lines turn =
    let place = position - talk.view.retired in
    let entry = entry_there talk.view.kept place Open open_lines.0.is_open in
    record {
      connection = connection;
      entry = entry.0.entry;
      stands = ap (λ n. slice_get (entries_in talk.view) (n - talk.view.retired)) (sym turn) ∙ entry_in talk.view.kept place entry.0 entry.1;
      says = ap (λ (found : Option Kept). told_text connection (option_map (λ (kept : Kept). kept.entry.reply) found)) entry.1;
    }

abbrev MakesTold : Talk → List Line → Type 0
MakesTold talk lines = AreOpen talk.view.kept talk.view.retired talk.view.retired lines → AreOutside lines
    → talk.view.retired ≤ talk.view.told → AreNext talk.view.told (length_of talk.view) lines
    → IsMadeOfTold (entries_in talk.view) (talk.view.told - talk.view.retired) ((said_of talk lines).talk.view.told - talk.view.retired) (said_of talk lines).text

said_made : (talk : Talk) (lines : List Line) → MakesTold talk lines
said_made talk [] open_lines o gone n = made_of_none (entries_in talk.view) (talk.view.told - talk.view.retired)
said_made talk (Known text ∷ lines) open_lines o gone n =
    let rest = said_of talk lines in
    outside_first (entries_in talk.view) (talk.view.told - talk.view.retired) (rest.talk.view.told - talk.view.retired) text rest.text o.0 (said_made talk lines open_lines o.1 gone n)
said_made talk (Awaited connection position ∷ lines) open_lines o gone n =
    either (λ (s : Said). IsMadeOfTold entries from (s.talk.view.told - v.retired) s.text) (nat_lt position v.settled)
    (told_first entries from (rest.talk.view.told - v.retired) (told_text connection (reply_at v position)) rest.text
    (told_here talk connection position lines open_lines n.0) (others (said_made next lines)))
    (made_of_none entries from)
  where
    v : View
    v = talk.view

    entries : List Entry
    entries = entries_in v

    from : ℕ
    from = v.told - v.retired

    next : Talk
    next = told talk connection position

    rest : Said
    rest = said_of next lines

    others : MakesTold next lines → IsMadeOfTold entries (from + 1) (rest.talk.view.told - v.retired) rest.text
    others makes =
        let here : v.retired ≤ position = open_lines.0.reached in
        let later =
        open_from next.view.kept v.retired (position + 1) v.retired lines (omega (arith, here))
        (still_open Told v.kept v.retired (position + 1) position lines here (omega arith) open_lines.1) in
        let turns = subst (λ k. AreNext (v.told + 1) (v.retired + k) lines) (sym (length-with_mark Told v.kept (position - v.retired))) n.1 in
        let one : v.told + 1 - v.retired ≡ v.told - v.retired + 1 = omega (arith, gone) in
        let same : entries_in next.view ≡ entries = same_marked Told v.kept (position - v.retired) in
        let made = makes later o (omega (arith, gone)) turns in
        subst (λ (all : List Entry). IsMadeOfTold all (from + 1) (rest.talk.view.told - v.retired) rest.text) same
        (subst (λ k. IsMadeOfTold (entries_in next.view) k (rest.talk.view.told - v.retired) rest.text) one made)

-- the number of acknowledged entries stays when entries are dropped
told_as_said : (old new : Talk) → IsSaid old new → (all_gone new.view).told ≡ new.view.told
told_as_said old new is = ap (λ (v : View). v.told) (settled_gone new.view is.closed)

pub now_made : (talk : Talk) → IsSoundTalk Reached talk → AreOutside talk.lines → IsInTurn talk → PrintsOldest talk.view (said talk)
now_made talk s o t =
    let is = said_is talk s t in
    let order = in_order talk.view s.vault.holds in
    let gone : talk.view.retired ≡ talk.view.told = t.gone in
    let least : talk.view.retired ≤ talk.view.settled = order.retired_settled in
    let all : (said_now talk).talk.view.told ≡ talk.view.settled = is.told ∙ is.settled in
    let counted : (said_now talk).talk.view.told ≡ talk.view.told + ((said_now talk).talk.view.told - talk.view.retired) = omega (arith, gone, least, all) in
    let none : talk.view.told - talk.view.retired ≡ 0 = omega (arith, gone) in
    record {
      count = (said_now talk).talk.view.told - talk.view.retired;
      counted = told_as_said talk (said_now talk).talk is ∙ counted;
      made = subst (λ from. IsMadeOfTold (entries_in talk.view) from ((said_now talk).talk.view.told - talk.view.retired) (said_now talk).text) none
          (said_made talk talk.lines s.awaited o (omega (arith, gone)) t.turns);
    }

-- If all durable entries are acknowledged, no more are.

none_made : (talk : Talk) (lines : List Line) (entries : List Entry) (place : ℕ) → AreOutside lines → talk.view.settled ≤ talk.view.told
    → AreNext talk.view.told (length_of talk.view) lines → IsMadeOfTold entries place place (said_of talk lines).text × ((said_of talk lines).talk.view ≡ talk.view)
none_made talk [] entries place o settled n = (made_of_none entries place, refl)
none_made talk (Known text ∷ lines) entries place o settled n =
    let rest = none_made talk lines entries place o.1 settled n in
    (outside_first entries place place text (said_of talk lines).text o.0 rest.0, rest.1)
none_made talk (Awaited connection position ∷ lines) entries place o settled n = by_test (nat_lt position talk.view.settled) refl
  where
    rest : Said
    rest = behind (told_text connection (reply_at talk.view position)) (said_of (told talk connection position) lines)

    by_test : (b : Bool) → nat_lt position talk.view.settled ≡ b
        → let said = cond b rest (record { text = []; talk = record talk { lines = Awaited connection position ∷ lines } }) in
        IsMadeOfTold entries place place said.text × (said.talk.view ≡ talk.view)
    by_test true e =
        let below = ltb-true position talk.view.settled e in
        let turn : position ≡ talk.view.told = n.0 in
        absurd (omega (arith, below, turn, settled))
    by_test false e = (made_of_none entries place, refl)

-- only outside texts are printed, and no more entries count as acknowledged
pub outside_made : (old : View) (count : ℕ) (talk : Talk) → IsSoundTalk Reached talk → AreOutside talk.lines → IsInTurn talk → talk.view.settled ≤ talk.view.told
    → talk.view.told ≡ old.told + count → IsMadeOfTold (entries_in old) count count (said talk).text × ((said talk).talk.view.told ≡ old.told + count)
outside_made old count talk s o t settled counted =
    let none = none_made talk talk.lines (entries_in old) count o settled t.turns in
    (none.0, told_as_said talk (said_now talk).talk (said_is talk s t) ∙ ap (λ (v : View). v.told) none.1 ∙ counted)

none_more : (talk : Talk) → IsSoundTalk Reached talk → AreOutside talk.lines → IsInTurn talk → talk.view.settled ≤ talk.view.told → PrintsOldest talk.view (said talk)
none_more talk s o t settled =
    let none = outside_made talk.view 0 talk s o t settled (omega arith) in
    record { count = 0; counted = none.1; made = none.0 }

nothing_said : (talk : Talk) → PrintsOldest talk.view (record { text = []; talk = talk })
nothing_said talk = record { count = 0; counted = omega arith; made = made_of_none (entries_in talk.view) 0 }

-- Each line of a script.

pub commit_made : (talk : Talk) → IsSoundTalk Reached talk → AreOutside talk.lines → IsInTurn talk → PrintsOldest talk.view (said (committed talk))
commit_made talk s o t =
    let made =
    subst (λ (v : View). PrintsOldest v (said (committed talk))) (commit_settles talk s)
    (now_made (committed talk) (commit_sound Reached reaches_acts talk s) (commit_outside talk o) (in_turn_commit talk t)) in
    record { count = made.count; counted = made.counted; made = made.made }

pump_made : (talk : Talk) → IsSoundTalk Reached talk → AreOutside talk.lines → IsInTurn talk → PrintsOldest talk.view (said (pumped talk))
unfolding pumped
pump_made talk s o t =
    let made = now_made (pumped talk) (pump_sound Reached reaches_acts talk s) (pump_outside talk o) (in_turn_pump talk t) in
    record { count = made.count; counted = made.counted; made = made.made }

start_made : (talk : Talk) → IsSoundTalk Reached talk → AreOutside talk.lines → IsToldWhole talk → PrintsOldest talk.view (said (started talk))
unfolding started
start_made talk s o t =
    let whole : talk.view.told ≡ talk.view.settled = t.whole in
    let same : ((started talk).view.settled ≡ talk.view.settled) × ((started talk).view.told ≡ talk.view.told) =
    either (λ (t : Talk). (t.view.settled ≡ talk.view.settled) × (t.view.told ≡ talk.view.told)) (may_start talk) (refl, refl) (refl, refl) in
    let settled = same.0 in
    let told = same.1 in
    let none =
    outside_made talk.view 0 (started talk) (start_sound Reached reaches_acts talk s) (start_outside talk o) (in_turn_start talk t.turn) (omega (arith, whole, settled, told)) (omega (arith, told)) in
    record { count = 0; counted = none.1; made = none.0 }

answer_same : (talk : Talk) (connection : ℕ) (command : Option Command)
    → ((answered talk connection command).view.settled ≡ talk.view.settled) × ((answered talk connection command).view.told ≡ talk.view.told)
answer_same talk connection None = (refl, refl)
answer_same talk connection (Some command) =
    either (λ (t : Talk). (t.view.settled ≡ talk.view.settled) × (t.view.told ≡ talk.view.told)) (is_full talk) (refl, refl) (refl, refl)

ready_made : (talk : Talk) (connection : ℕ) → IsSoundTalk Reached talk → AreOutside talk.lines → IsInTurn talk → PrintsOldest talk.view (ready talk connection)
ready_made talk connection s o t = either (PrintsOldest talk.view) (is_awaited talk connection) (commit_made talk s o t) (nothing_said talk)

hear_made : (talk : Talk) (connection : ℕ) (line : List ℕ) → IsSoundTalk Reached talk → AreOutside talk.lines → IsToldWhole talk → PrintsOldest talk.view (heard talk connection line)
hear_made talk connection line s o t =
    let before = ready talk connection in
    let command = command_of line in
    let answer = answered before.talk connection command in
    let first = ready_made talk connection s o t.turn in
    let ready_told = told_ready talk connection s t in
    let same = answer_same before.talk connection command in
    let settled : answer.view.settled ≡ before.talk.view.settled = same.0 in
    let told : answer.view.told ≡ before.talk.view.told = same.1 in
    let whole : before.talk.view.told ≡ before.talk.view.settled = ready_told.whole in
    let none =
    outside_made talk.view first.count answer
    (answer_sound Reached reaches_acts before.talk connection command (ready_sound Reached reaches_acts talk connection s))
    (answer_outside before.talk connection command (ready_outside talk connection o))
    (in_turn_answer before.talk connection command ready_told.turn)
    (omega (arith, whole, settled, told)) (told ∙ first.counted) in
    record {
      count = first.count;
      counted = none.1;
      made = made_of_both (entries_in talk.view) 0 first.count first.count before.text (said answer).text first.made none.0;
    }

line_made : (talk : Talk) (line : Option (ℕ × List ℕ)) → IsSoundTalk Reached talk → AreOutside talk.lines → IsToldWhole talk → PrintsOldest talk.view (heard_of talk line)
line_made talk None s o t =
    let whole : talk.view.told ≡ talk.view.settled = t.whole in
    none_more (with_text talk (codes "! ERR 10\n")) (text_sound Reached talk _ s) (one_known _ talk.lines (inl refl) o) (in_turn_text talk _ t.turn) (omega (arith, whole))
line_made talk (Some line) s o t = hear_made talk line.0 line.1 s o t

pub by_made : (talk : Talk) (line : List ℕ) → IsSoundTalk Reached talk → AreOutside talk.lines → IsToldWhole talk → PrintsOldest talk.view (said_by talk line)
by_made talk line s o t =
    let Q = PrintsOldest talk.view in
    either Q (is_skipped line) (nothing_said talk)
    (either Q (bytes_eq line (codes "!commit")) (commit_made talk s o t.turn)
    (either Q (bytes_eq line (codes "!pump")) (pump_made talk s o t.turn)
    (either Q (bytes_eq line (codes "!snapshot")) (start_made talk s o t) (line_made talk (connection_line line) s o t))))

-- A crash prints the known texts.

lost_made : (lines : List Line) → AreOutside lines → IsMadeOfTold [] 0 0 (known_texts lines)
lost_made [] o = made_of_none [] 0
lost_made (Known text ∷ lines) o = outside_first [] 0 0 text (known_texts lines) o.0 (lost_made lines o.1)
lost_made (Awaited connection position ∷ lines) o = lost_made lines o

pub stop_made : (pick : Pick) (talk : Talk) → AreOutside talk.lines → IsMadeOfTold [] 0 0 (said (crashed pick talk)).text
stop_made pick talk o =
    subst (λ text. IsMadeOfTold [] 0 0 text) (sym (ap (λ (s : Said). s.text) (known_said (crashed pick talk) talk.lines))) (lost_made talk.lines o)

-- The end prints all.

none_left : (kept : List Kept) → length kept ≡ 0 → kept ≡ []
none_left [] e = refl
none_left (x ∷ rest) e = absurd (omega (arith, e))

-- a conversation without waiting lines keeps no entries
pub none_kept : (talk : Talk) → IsInTurn talk → talk.lines ≡ [] → talk.view.kept ≡ []
none_kept talk t none =
    let gone : talk.view.retired ≡ talk.view.told = t.gone in
    let all : talk.view.told ≡ talk.view.retired + length talk.view.kept = subst (λ (lines : List Line). AreNext talk.view.told (length_of talk.view) lines) none t.turns in
    none_left talk.view.kept (omega (arith, gone, all))

-- all kept entries are acknowledged at the end
pub end_made : (talk : Talk) → IsSoundTalk Reached talk → AreOutside talk.lines → IsInTurn talk → IsMadeOfTold (entries_in talk.view) 0 (length talk.view.kept) (said (committed talk)).text
end_made talk s o t =
    let made = commit_made talk s o t in
    let sound = commit_sound Reached reaches_acts talk s in
    let is = said_is (committed talk) sound (in_turn_commit talk t) in
    let gone : talk.view.retired ≡ talk.view.told = t.gone in
    let settled : (committed talk).view.settled ≡ talk.view.retired + length talk.view.kept = ap (λ (v : View). v.settled) (commit_settles talk s) in
    let told : (said (committed talk)).talk.view.told ≡ (committed talk).view.settled =
    told_as_said (committed talk) (said_now (committed talk)).talk is ∙ is.told ∙ is.settled in
    let counted : (said (committed talk)).talk.view.told ≡ talk.view.told + made.count = made.counted in
    let all : made.count ≡ length talk.view.kept = omega (arith, gone, settled, told, counted) in
    subst (λ to. IsMadeOfTold (entries_in talk.view) 0 to (said (committed talk)).text) all made.made
