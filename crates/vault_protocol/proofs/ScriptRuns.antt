-- What each act and each opening keep, a script keeps.
use Rattle.std.proofs.Common.{◌≡◌, ℕ, zero, suc, ◌+◌, ◌-◌, ◌<◌, ◌≤◌, ◌&&◌, Bool, true, false, cond, inl, inr, List, [], ◌∷◌, Option, Some, None, refl, arith}
use Rattle.std.specs.Prelude.{codes, nat_lt, slice_index}
use Rattle.std.specs.Str.{bytes_eq}
use Rattle.std.proofs.lemmas.Bool.{and_parts, ltb-true}
use Rattle.vault_model.specs.Said.{Command}
use Rattle.vault_state.specs.Vault.{Vault, durable}
use Rattle.vault_device.specs.declared.history.Pick.{Pick}
use Rattle.vault_store.specs.Phases.{is_idle, is_opening}
use Rattle.group_commit.specs.declared.mark.Mark.TheVariants.{Open, Told}
use Rattle.group_commit.specs.Entries.{mark_at, with_mark}
use Rattle.group_commit.specs.History.{entry_of}
use Rattle.group_commit.specs.World.{Act, Stage, Pump, StartSnapshot, Tell, Retire}
use Rattle.group_commit.specs.View.{View, opened_view, view_at, book_of, ViewAllows, view_acted, MayLeave}
use Rattle.group_commit.specs.Seen.{snapshot_length}
use Rattle.vault_store.proofs.Busy.{idle_is}
use Rattle.vault_device.specs.Picks.{gives_one}
use Rattle.vault_lines.specs.Grammar.{command_of}
use Rattle.vault_protocol.specs.Talk.{Line, Known, Awaited, Talk, Said, told, told_text, reply_at, behind, said_of, said_now, said, with_text, pumped, pumps, pumps_needed, committed, may_start, started, is_full, staged, is_awaited, crashed}
use Rattle.vault_protocol.specs.Script.{is_skipped, connection_line, crash_line, answered, ready, heard, heard_of, said_by, said_with, said_for}
use Rattle.vault_protocol.specs.ScriptLaws.{talk_after}
use Rattle.vault_protocol.proofs.OpenLines.{AreOpen, none_open, open_from, with_known, still_open, open_behind, with_awaited}
use Rattle.vault_protocol.proofs.LettingGo.{behind_one, all_gone_keeps}

-- each allowed act keeps it
pub record KeepsActs (P : View → Type 0) : Type 0 where
  pub acts : (view : View) (act : Act) → P view → ViewAllows snapshot_length view act → P (view_acted snapshot_length view act)

-- each opening of what a crash may leave keeps it
pub record KeepsOpenings (P : View → Type 0) : Type 0 where
  pub opens : (view : View) (left : Vault) → P view → MayLeave view left → P (opened_view left)

-- the vault of a conversation: no device call failed
pub record IsServing (P : View → Type 0) (view : View) : Type 0 where
  pub holds : P view
  pub unbroken : view.broken ≡ false

-- a conversation over it, whose lines wait for open entries
pub record IsSoundTalk (P : View → Type 0) (talk : Talk) : Type 0 where
  pub vault : IsServing P talk.view
  pub awaited : AreOpen talk.view.kept talk.view.retired talk.view.retired talk.lines

-- Each change of a conversation.

serves_told : (P : View → Type 0) (k : KeepsActs P) (view : View) (position : ℕ) → IsServing P view → position < view.settled → view.retired ≤ position
    → mark_at view.kept (position - view.retired) ≡ Some Open → IsServing P (view_acted snapshot_length view (Tell position))
serves_told P k view position s settled kept is_open = record {
  holds = k.acts view (Tell position) s.holds (settled, kept, is_open);
  unbroken = s.unbroken;
}

said_sound : (P : View → Type 0) (k : KeepsActs P) (talk : Talk) (lines : List Line) → IsServing P talk.view
    → AreOpen talk.view.kept talk.view.retired talk.view.retired lines → IsSoundTalk P (said_of talk lines).talk
said_sound P k talk [] s o = record { vault = s; awaited = tt }
said_sound P k talk (Known text ∷ lines) s o = said_sound P k talk lines s o
said_sound P k talk (Awaited connection position ∷ lines) s o =
    let here : talk.view.retired ≤ position = o.0.reached in
    by_test (nat_lt position talk.view.settled) refl (λ settled.
    said_sound P k (told talk connection position) lines
    (serves_told P k talk.view position s settled here o.0.is_open)
    (open_from (with_mark Told talk.view.kept (position - talk.view.retired)) talk.view.retired (position + 1) talk.view.retired lines (omega (arith, here))
    (still_open Told talk.view.kept talk.view.retired (position + 1) position lines here (omega arith) o.1)))
  where
    by_test : (b : Bool) → nat_lt position talk.view.settled ≡ b → (position < talk.view.settled → IsSoundTalk P (said_of (told talk connection position) lines).talk)
        → IsSoundTalk P (cond b (behind (told_text connection (reply_at talk.view position)) (said_of (told talk connection position) lines)) (record { text = []; talk = record talk { lines = Awaited connection position ∷ lines } })).talk
    by_test true e next = next (ltb-true _ _ e)
    by_test false e next = record { vault = s; awaited = o }

-- a view that serves, and on which these lines wait for open entries
abbrev ServesLines : (View → Type 0) → List Line → View → Type 0
ServesLines P lines view = IsServing P view × AreOpen view.kept view.retired view.retired lines

one_gone_sound : (P : View → Type 0) (k : KeepsActs P) (lines : List Line) (view : View) → ServesLines P lines view → ViewAllows snapshot_length view Retire
    → ServesLines P lines (behind_one view)
one_gone_sound P k lines view s may =
    (record { holds = k.acts view Retire s.0.holds may; unbroken = s.0.unbroken }, open_behind view.kept view.retired lines may.1 s.1)

pub now_said : (P : View → Type 0) (k : KeepsActs P) (talk : Talk) → IsSoundTalk P talk → IsSoundTalk P (said talk).talk
now_said P k talk s =
    let now = (said_now talk).talk in
    let told = said_sound P k talk talk.lines s.vault s.awaited in
    let gone = all_gone_keeps (ServesLines P now.lines) (one_gone_sound P k now.lines) now.view (told.vault, told.awaited) in
    record { vault = gone.0; awaited = gone.1 }

pub text_sound : (P : View → Type 0) (talk : Talk) (text : List ℕ) → IsSoundTalk P talk → IsSoundTalk P (with_text talk text)
text_sound P talk text s = record { vault = s.vault; awaited = with_known talk.view.kept talk.view.retired talk.view.retired text talk.lines s.awaited }

pub pump_sound : (P : View → Type 0) (k : KeepsActs P) (talk : Talk) → IsSoundTalk P talk → IsSoundTalk P (pumped talk)
unfolding pumped
pump_sound P k talk s = record {
  vault = record {
    holds = k.acts talk.view Pump s.vault.holds s.vault.unbroken;
    unbroken = s.vault.unbroken;
  };
  awaited = s.awaited;
}

pumps_sound : (P : View → Type 0) (k : KeepsActs P) (n : ℕ) (talk : Talk) → IsSoundTalk P talk → IsSoundTalk P (pumps n talk)
pumps_sound P k zero talk s = s
pumps_sound P k (suc n) talk s = pumps_sound P k n (pumped talk) (pump_sound P k talk s)

pub commit_sound : (P : View → Type 0) (k : KeepsActs P) (talk : Talk) → IsSoundTalk P talk → IsSoundTalk P (committed talk)
unfolding committed
commit_sound P k talk s = pumps_sound P k (pumps_needed talk.view) talk s

pub start_sound : (P : View → Type 0) (k : KeepsActs P) (talk : Talk) → IsSoundTalk P talk → IsSoundTalk P (started talk)
unfolding started
start_sound P k talk s = by_test (may_start talk) refl
  where
    by_test : (b : Bool) → may_start talk ≡ b → IsSoundTalk P (cond b (record talk { view = view_acted snapshot_length talk.view StartSnapshot; buffer = 0 }) talk)
    by_test true e = record {
      vault = record {
        holds = k.acts talk.view StartSnapshot s.vault.holds (s.vault.unbroken, idle_is talk.view.phase (and_parts (is_idle talk.view.phase) _ e).0);
        unbroken = s.vault.unbroken;
      };
      awaited = s.awaited;
    }
    by_test false e = s

stage_sound : (P : View → Type 0) (k : KeepsActs P) (talk : Talk) (connection : ℕ) (command : Command) → IsSoundTalk P talk → IsSoundTalk P (staged talk connection command)
stage_sound P k talk connection command s =
    let session = slice_index talk.sessions (connection - 1) in
    record {
      vault = record {
        holds = k.acts talk.view (Stage session command) s.vault.holds s.vault.unbroken;
        unbroken = s.vault.unbroken;
      };
      awaited = with_awaited talk.view.kept (entry_of (book_of talk.view) session command) talk.view.retired talk.view.retired connection talk.lines (omega arith) (omega arith) s.awaited;
    }

-- a `!crash` line leaves what a crash may leave
may_be_left : (pick : Pick) (view : View) → MayLeave view (durable (view_at view (cond (gives_one pick && is_opening view.phase) view.sealed view.settled)))
may_be_left pick view = by_test (gives_one pick && is_opening view.phase) refl
  where
    by_test : (b : Bool) → (gives_one pick && is_opening view.phase) ≡ b → MayLeave view (durable (view_at view (cond b view.sealed view.settled)))
    by_test true e = inr ((and_parts _ _ e).1, refl)
    by_test false e = inl refl

pub crash_sound : (P : View → Type 0) (o : KeepsOpenings P) (pick : Pick) (talk : Talk) → IsSoundTalk P talk → IsSoundTalk P (crashed pick talk)
crash_sound P o pick talk s = record {
  vault = record { holds = o.opens talk.view _ s.vault.holds (may_be_left pick talk.view); unbroken = refl };
  awaited = none_open talk.lines;
}

-- Each line of a script.

pub either : {A : Type 0} (Q : A → Type 0) (b : Bool) {x y : A} → Q x → Q y → Q (cond b x y)
either Q true x y = x
either Q false x y = y

-- what was said leaves a sound conversation
abbrev LeavesSound : (View → Type 0) → Said → Type 0
LeavesSound P said = IsSoundTalk P said.talk

pub answer_sound : (P : View → Type 0) (k : KeepsActs P) (talk : Talk) (connection : ℕ) (command : Option Command) → IsSoundTalk P talk → IsSoundTalk P (answered talk connection command)
answer_sound P k talk connection None s = text_sound P talk _ s
answer_sound P k talk connection (Some command) s = either (IsSoundTalk P) (is_full talk) (text_sound P talk _ s) (stage_sound P k talk connection command s)

pub ready_sound : (P : View → Type 0) (k : KeepsActs P) (talk : Talk) (connection : ℕ) → IsSoundTalk P talk → LeavesSound P (ready talk connection)
ready_sound P k talk connection s = either (LeavesSound P) (is_awaited talk connection) (now_said P k (committed talk) (commit_sound P k talk s)) s

hear_sound : (P : View → Type 0) (k : KeepsActs P) (talk : Talk) (connection : ℕ) (line : List ℕ) → IsSoundTalk P talk → LeavesSound P (heard talk connection line)
hear_sound P k talk connection line s =
    let before = (ready talk connection).talk in
    now_said P k (answered before connection (command_of line)) (answer_sound P k before connection (command_of line) (ready_sound P k talk connection s))

line_sound : (P : View → Type 0) (k : KeepsActs P) (talk : Talk) (line : Option (ℕ × List ℕ)) → IsSoundTalk P talk → LeavesSound P (heard_of talk line)
line_sound P k talk None s = now_said P k (with_text talk (codes "! ERR 10\n")) (text_sound P talk _ s)
line_sound P k talk (Some line) s = hear_sound P k talk line.0 line.1 s

pub by_sound : (P : View → Type 0) (k : KeepsActs P) (talk : Talk) (line : List ℕ) → IsSoundTalk P talk → LeavesSound P (said_by talk line)
by_sound P k talk line s =
    either (LeavesSound P) (is_skipped line) s
    (either (LeavesSound P) (bytes_eq line (codes "!commit")) (now_said P k (committed talk) (commit_sound P k talk s))
    (either (LeavesSound P) (bytes_eq line (codes "!pump")) (now_said P k (pumped talk) (pump_sound P k talk s))
    (either (LeavesSound P) (bytes_eq line (codes "!snapshot")) (now_said P k (started talk) (start_sound P k talk s))
    (line_sound P k talk (connection_line line) s))))

pub with_sound : (P : View → Type 0) (k : KeepsActs P) (o : KeepsOpenings P) (talk : Talk) (line : List ℕ) (pick : Option Pick) → IsSoundTalk P talk → LeavesSound P (said_with talk line pick)
with_sound P k o talk line None s = by_sound P k talk line s
with_sound P k o talk line (Some pick) s = now_said P k (crashed pick talk) (crash_sound P o pick talk s)

-- after any lines
pub after_sound : (P : View → Type 0) (k : KeepsActs P) (o : KeepsOpenings P) (talk : Talk) (lines : List (List ℕ)) → IsSoundTalk P talk → IsSoundTalk P (talk_after talk lines)
after_sound P k o talk [] s = s
after_sound P k o talk (line ∷ lines) s = after_sound P k o (said_for talk line).talk lines (with_sound P k o talk line (crash_line line) s)

-- and once all is committed
pub end_sound : (P : View → Type 0) (k : KeepsActs P) (talk : Talk) → IsSoundTalk P talk → IsSoundTalk P (said (committed talk)).talk
end_sound P k talk s = now_said P k (committed talk) (commit_sound P k talk s)
