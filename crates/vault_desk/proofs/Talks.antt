-- A conversation goes from step to step.
use Rattle.std.proofs.Common.{◌≡◌, ◌≢◌, ℕ, ◌+◌, ◌<◌, ◌≤◌, Bool, false, List, [], ◌∷◌, ◌++◌, length, take, drop, ap, sym, ◌∙◌, refl, subst, arith, append-nil, append_assoc, length-append, Option, inl, inr}
use Rattle.std.specs.Prelude.{MatchBool, Some, IsSome}
use Rattle.std.proofs.Math.Seq.{take-add}
use Rattle.std.proofs.lemmas.List.{take-append-drop}
use Rattle.std.proofs.lemmas.List.Elements.{All-append, All-nil}
use Rattle.std.specs.Io.KnownBytes.{Appends}
use Rattle.std.proofs.KnownBytes.{Appends-trans, Appends-nil}
use Rattle.line_inlet.specs.Reading.{Reading, Gave}
use Rattle.line_inlet.proofs.Readings.{gave_none}
use Rattle.vault_lines.specs.Limits.{longest_line}
use Rattle.vault_lines.specs.Grammar.{command_of}
use Rattle.vault_model.specs.Said.{Command}
use Rattle.vault_model.specs.declared.commands.Command.TheVariants.{Await}
use Rattle.vault_desk.specs.declared.waits.PendingWait.{PendingWait}
use Rattle.group_commit.specs.Ticket.{TicketSeen, Told as ToldSeen}
use Rattle.line_inlet.specs.Inflow.{Inflow}
use Rattle.line_inlet.specs.Incoming.{most_bytes, IsOneLine, KeepsLine, CutsLine}
use Rattle.vault_desk.specs.Serving.{Fits, FitsCommand, HeardSoFar, HeardAll, EndsBy, IsOf, SpeaksFor, session_of, session_after, text_of, texts_of, IsLeft, NoneLeft, CountsOne, CountsWith, lost_by, most_lines}
use Rattle.vault_desk.specs.Talking.{HeardCommand, HeardPart, IsBetween, TellsLast, Stands, TellsOn, IsAnswered, IsReaders, IsHeard, FitsLine}
use Rattle.vault_model.specs.declared.replies.Outside.{Outside}
use Rattle.vault_model.specs.declared.replies.Outside.TheVariants as outsides
use Rattle.vault_desk.specs.declared.report.Out.{Out}
use Rattle.vault_desk.specs.declared.report.Out.TheVariants.{Told, Refused}
use Rattle.vault_desk.specs.declared.report.Ended.{Ended}
use Rattle.vault_desk.specs.declared.report.Ended.TheVariants as ends
use Rattle.vault_desk.specs.declared.tally.Totals.{Totals}
use Rattle.vault_desk.specs.declared.turn.Telling.{Telling}
use Rattle.vault_desk.specs.declared.turn.Turn.{Turn}
use Rattle.vault_desk.specs.declared.turn.Turn.TheVariants.{Hear, Keep, Wait, Tell, Over}
use Rattle.vault_desk.specs.declared.clerk.Heard.{Heard}
use Rattle.vault_desk.specs.declared.clerk.Heard.TheVariants as lines
use Rattle.vault_desk.proofs.Heard.{hears_nothing, hears_line, hears_more, hears_rest, hears_end}
use Rattle.vault_desk.proofs.Told.{speaks_more, session_more, none_left_more, not_ended_left, counts_more, texts_more, writes_whole, quits_without}

-- between two lines no part of the next one was taken
pub hears_between : {A : Type 0} (old new : Reading) (inflow : Inflow) (kept : List ℕ) (is_long : Bool) (outs : List (Out A))
    → HeardSoFar old new inflow outs → IsBetween kept is_long → HeardPart old new inflow kept is_long outs
hears_between old new inflow kept is_long outs heard between =
    let within : inflow.taken ≤ most_bytes = heard.4 in
    let keeps : KeepsLine [] kept is_long = subst (λ b. KeepsLine [] kept b) (sym between.1) (between.0, omega arith) in
    ([], inflow, heard, refl, omega arith, within, All-nil (λ b. b ≢ 10), keeps)

-- a piece with a line feed after it ends the line whose part was taken before
pub cuts_part : (before old next : Inflow) (part more piece : List ℕ) → before.pending ≡ part ++ old.pending → old.taken ≡ before.taken + length part
    → IsOneLine part → CutsLine old more piece next → CutsLine before more (part ++ piece) next
cuts_part before old next part more piece pending taken one cut = record {
  bytes = ap (λ l. l ++ more) pending ∙ (append_assoc part old.pending more ∙ (ap (λ l. part ++ l) cut.bytes ∙ sym (append_assoc part piece (10 ∷ next.pending))));
  one = All-append (λ x. x ≢ 10) part piece one cut.one;
  taken = omega (arith, length-append part piece, taken, cut.taken);
  within = cut.within;
}

-- a piece more of the line was taken
pub part_more : {A : Type 0} (start mid new : Reading) (before old next : Inflow) (part piece more kept : List ℕ) (is_long : Bool) (outs : List (Out A))
    → HeardSoFar start mid before outs → before.pending ≡ part ++ old.pending → old.taken ≡ before.taken + length part → IsOneLine part
    → Gave mid new more → old.pending ++ more ≡ piece ++ next.pending → IsOneLine piece → KeepsLine (part ++ piece) kept is_long
    → next.taken ≡ old.taken + length piece → next.taken ≤ most_bytes → HeardPart start new next kept is_long outs
part_more start mid new before old next part piece more kept is_long outs heard pending taken one consumes bytes one_more keeps grown within =
    let all : before.pending ++ more ≡ (part ++ piece) ++ next.pending =
    ap (λ l. l ++ more) pending ∙ (append_assoc part old.pending more ∙ (ap (λ l. part ++ l) bytes ∙ sym (append_assoc part piece next.pending))) in (
      part ++ piece,
      record { pending = before.pending ++ more; taken = before.taken },
      hears_more start mid new before outs more heard consumes,
      all,
      omega (arith, length-append part piece, taken, grown),
      within,
      All-append (λ x. x ≢ 10) part piece one one_more,
      keeps,
    )

-- nothing more was taken, and what was given is pending
pub part_waits : {A : Type 0} (start mid new : Reading) (old next : Inflow) (more kept : List ℕ) (is_long : Bool) (outs : List (Out A))
    → HeardPart start mid old kept is_long outs → Gave mid new more → next.pending ≡ old.pending ++ more → next.taken ≡ old.taken
    → HeardPart start new next kept is_long outs
part_waits start mid new old next more kept is_long outs heard consumes pending_is taken_is =
    let (part, before, so_far, pending, taken, within, one, keeps) = heard in
    part_more start mid new before old next part [] more kept is_long outs so_far pending taken one consumes (sym pending_is) (All-nil (λ b. b ≢ 10))
    (subst (λ l. KeepsLine l kept is_long) (sym (append-nil part)) keeps) (omega (arith, taken_is)) (omega (arith, taken_is, within))

-- what was given last is left
pub part_rest : {A : Type 0} (start mid new : Reading) (old : Inflow) (kept : List ℕ) (is_long : Bool) (outs : List (Out A)) (more : List ℕ) (ended : Ended)
    → HeardPart start mid old kept is_long outs → Gave mid new more
    → ((part given : List ℕ) → IsOneLine part → length given ≡ old.taken + length (old.pending ++ more) → EndsBy ended new given outs (part ++ (old.pending ++ more)))
    → HeardAll start new outs ended
part_rest start mid new old kept is_long outs more ended heard consumes may_end =
    let (part, before, so_far, pending, taken, within, one, keeps) = heard in
    let all : before.pending ++ more ≡ part ++ (old.pending ++ more) = ap (λ l. l ++ more) pending ∙ append_assoc part old.pending more in
    hears_rest start mid new before outs more ended so_far consumes (λ given size.
    subst (λ l. EndsBy ended new given outs l) (sym all) (may_end part given one (omega (arith, size, ap length all, length-append part (old.pending ++ more), taken))))

-- a conversation that may end anywhere so ends at once
pub part_end : {A : Type 0} (start new : Reading) (old : Inflow) (kept : List ℕ) (is_long : Bool) (outs : List (Out A)) (ended : Ended)
    → HeardPart start new old kept is_long outs → ((given left : List ℕ) → EndsBy ended new given outs left) → HeardAll start new outs ended
part_end start new old kept is_long outs ended heard may_end =
    part_rest start new new old kept is_long outs [] ended heard (gave_none new) (λ part given one size. may_end given (part ++ (old.pending ++ [])))

-- an answer that fits the command that a line spells fits the line
fits_line : {A : Type 0} (line : List ℕ) (command : Command) (out : Out A) → length line ≤ longest_line → command_of line ≡ Some command
    → FitsCommand command out → Fits line out
fits_line line command (Told receipt) short spells fits = spells ∙ ap Some (sym fits)
fits_line line command (Refused outsides.BadLine) short spells fits = absurd (fits refl)
fits_line line command (Refused outsides.Busy) short spells fits = subst IsSome (sym spells) refl
fits_line line command (Refused outsides.NoMemory) short spells fits = short
fits_line line command (Refused outsides.Broken) short spells fits = subst IsSome (sym spells) refl

-- a whole line came, with what fits it
pub whole_line : {A : Type 0} (start mid new : Reading) (before next : Inflow) (outs : List (Out A)) (more line : List ℕ) (heard : Heard A)
    (kept : List ℕ) (is_long : Bool) → FitsLine line heard → length line ≤ longest_line → HeardSoFar start mid before outs → Gave mid new more
    → CutsLine before more line next → IsBetween kept is_long → IsHeard heard start new next kept is_long outs
whole_line start mid new before next outs more line (lines.Asked ticket) kept is_long fits short so_far consumes cut between = (
  (
    λ out fitting. hears_line start mid new before next outs more line out so_far consumes cut (fits_line line ticket.command out short fits fitting),
    hears_rest start mid new before outs more ends.NoMemory so_far consumes (λ given size. tt),
  ),
  between,
)
whole_line start mid new before next outs more line (lines.Kept wait) kept is_long fits short so_far consumes cut between = (
  (
    λ out fitting. hears_line start mid new before next outs more line out so_far consumes cut (fits_line line (Await wait.claim) out short fits fitting),
    hears_rest start mid new before outs more ends.NoMemory so_far consumes (λ given size. tt),
  ),
  between,
)
whole_line start mid new before next outs more line (lines.Refused outside) kept is_long fits short so_far consumes cut between =
    (hears_line start mid new before next outs more line (Refused outside) so_far consumes cut fits, between)
whole_line start mid new before next outs more line lines.NotYet kept is_long fits short so_far consumes cut between = absurd fits
whole_line start mid new before next outs more line (lines.Ended ended) kept is_long fits short so_far consumes cut between = absurd fits

-- memory was refused
abbrev IsWanting : Ended → Type 0
IsWanting ends.NoMemory = Unit {0}
IsWanting ends.EndOfInput = ⊥
IsWanting ends.Read = ⊥
IsWanting ends.Limit = ⊥
IsWanting ends.Quit = ⊥
IsWanting ends.Write = ⊥

-- a broken vault
abbrev IsBroken : Outside → Type 0
IsBroken outsides.Broken = Unit {0}
IsBroken outsides.BadLine = ⊥
IsBroken outsides.Busy = ⊥
IsBroken outsides.NoMemory = ⊥

-- a broken vault is no bad line
broken_fits : outsides.Broken ≢ outsides.BadLine
broken_fits = λ e. subst IsBroken e tt

pub lost_fits : {outside : Outside} → outside ≡ outsides.Broken → outside ≢ outsides.BadLine
lost_fits is = subst (λ o. o ≢ outsides.BadLine) (sym is) broken_fits

-- a refusal counts nothing
pub counts_refused : (A : Type 0) (outside : Outside) (share : Totals) → CountsOne {A = A} share (Refused outside) share
counts_refused A outsides.BadLine share = record { told = omega arith; least = omega arith; most = omega arith }
counts_refused A outsides.Busy share = record { told = omega arith; least = omega arith; most = omega arith }
counts_refused A outsides.NoMemory share = record { told = omega arith; least = omega arith; most = omega arith }
counts_refused A outsides.Broken share = record { told = omega arith; least = omega arith; most = omega arith }

-- where the rest of the last text is written, all are written
told_whole : {A : Type 0} (a b c : Option (List ℕ)) (outs : List (Out A)) (telling : Telling A)
    → TellsLast a b outs telling → Appends b c (drop telling.written telling.text.items) → Appends a c (texts_of outs)
told_whole a b c outs telling tells rest =
    let (before, last, split, none, text, written, left) = tells in
    let more : Appends b c (drop telling.written (text_of last)) = subst (λ t. Appends b c (drop telling.written t)) text rest in
    let all = Appends-trans a b c _ _ written more in
    let joined = append_assoc (texts_of before) (take telling.written (text_of last)) (drop telling.written (text_of last))
    ∙ ap (λ l. texts_of before ++ l) (take-append-drop telling.written (text_of last)) in
    let whole = joined ∙ (sym (texts_more before last) ∙ ap texts_of (sym split)) in
    subst (Appends a c) whole all

-- where some bytes more of it are written, that many more are
told_part : {A : Type 0} (a b c : Option (List ℕ)) (before : List (Out A)) (text items : List ℕ) (written count : ℕ)
    → items ≡ text → Appends a b (texts_of before ++ take written text) → Appends b c (take count (drop written items))
    → Appends a c (texts_of before ++ take (written + count) text)
told_part a b c before text items written count same old new =
    let more : Appends b c (take count (drop written text)) = subst (λ t. Appends b c (take count (drop written t))) same new in
    let all = Appends-trans a b c _ _ old more in
    let joined = append_assoc (texts_of before) (take written text) (take count (drop written text)) ∙ ap (λ l. texts_of before ++ l) (sym (take-add written count text)) in
    subst (Appends a c) joined all

-- an answer that was written whole, and says nothing of a leave, leaves no leave among the answers
told_none : {A : Type 0} (a b : Option (List ℕ)) (outs : List (Out A)) (telling : Telling A) → TellsLast a b outs telling → telling.is_left ≡ false → NoneLeft outs
told_none a b outs telling tells stays =
    let (before, last, split, none, text, written, left) = tells in
    let here : IsLeft last → ⊥ = subst (λ t. MatchBool t (IsLeft last) (IsLeft last → ⊥)) stays left in
    subst NoneLeft (sym split) (none_left_more before last none here)

-- a conversation goes on after an answer was written
pub told_on : {A : Type 0} (telling : Telling A) (turn : Turn A) (r0 r : Reading) (w0 w1 w2 : Option (List ℕ)) (s0 : Totals) (inflow : Inflow) (kept : List ℕ)
    (is_long : Bool) (outs : List (Out A)) (session : ℕ) (share : Totals)
    → TellsOn telling turn w1 w2 → Stands (Tell telling) r0 r w0 w1 s0 inflow kept is_long outs session share
    → Stands turn r0 r w0 w2 s0 inflow kept is_long outs session share
told_on telling Hear r0 r w0 w1 w2 s0 inflow kept is_long outs session share told h = record {
  heard = hears_between r0 r inflow kept is_long outs h.heard.0 h.heard.1;
  few = h.few;
  spoken = h.spoken;
  session_is = h.session_is;
  asked = tt;
  written = (told_whole w0 w1 w2 outs telling h.written told.0, told_none w0 w1 outs telling h.written told.1);
  counted = h.counted;
}
told_on telling (Tell more) r0 r w0 w1 w2 s0 inflow kept is_long outs session share told h =
    let (count, text_is, left_is, written_is, less, part) = told in
    let (before, last, split, none, text, written, left) = h.written in
    let all = told_part w0 w1 w2 before (text_of last) telling.text.items telling.written count text written part in
    record {
      heard = h.heard;
      few = h.few;
      spoken = h.spoken;
      session_is = h.session_is;
      asked = tt;
      written = (before, last, split, none, text_is ∙ text, subst (λ n. Appends w0 w2 (texts_of before ++ take n (text_of last))) (sym written_is) all, subst (λ t. MatchBool t (IsLeft last) (IsLeft last → ⊥)) (sym left_is) left);
      counted = h.counted;
    }
told_on telling (Over ends.Quit) r0 r w0 w1 w2 s0 inflow kept is_long outs session share told h =
    let (before, last, split, none, text, written, left) = h.written in
    let here : IsLeft last = subst (λ t. MatchBool t (IsLeft last) (IsLeft last → ⊥)) told.1 left in
    record {
      heard = hears_end r0 r inflow outs ends.Quit h.heard.0 (λ given left. tt);
      few = h.few;
      spoken = h.spoken;
      session_is = h.session_is;
      asked = tt;
      written = (told_whole w0 w1 w2 outs telling h.written told.0, (before, last, split, here));
      counted = h.counted;
    }
told_on telling (Over ends.Write) r0 r w0 w1 w2 s0 inflow kept is_long outs session share told h =
    let (count, less, part) = told in
    let (before, last, split, none, text, written, left) = h.written in
    record {
      heard = hears_end r0 r inflow outs ends.Write h.heard.0 (λ given left. tt);
      few = h.few;
      spoken = h.spoken;
      session_is = h.session_is;
      asked = tt;
      written = ((before, last, telling.written + count, split, subst (λ t. telling.written + count < length t) text less, told_part w0 w1 w2 before (text_of last) telling.text.items telling.written count text written part), tt);
      counted = h.counted;
    }
told_on telling (Over ends.EndOfInput) r0 r w0 w1 w2 s0 inflow kept is_long outs session share told h = absurd told
told_on telling (Over ends.Read) r0 r w0 w1 w2 s0 inflow kept is_long outs session share told h = absurd told
told_on telling (Over ends.Limit) r0 r w0 w1 w2 s0 inflow kept is_long outs session share told h = absurd told
told_on telling (Over ends.NoMemory) r0 r w0 w1 w2 s0 inflow kept is_long outs session share told h = absurd told
told_on telling (Keep kept_wait) r0 r w0 w1 w2 s0 inflow kept is_long outs session share told h = absurd told
told_on telling (Wait ticket) r0 r w0 w1 w2 s0 inflow kept is_long outs session share told h = absurd told

-- an answer that isn't written whole may be given up
pub told_up : {A : Type 0} (telling more : Telling A) (w1 w2 : Option (List ℕ)) → TellsOn telling (Tell more) w1 w2 → TellsOn telling (Over ends.Write) w1 w2
told_up telling more w1 w2 told =
    let (count, text_is, left_is, written_is, less, part) = told in
    (count, subst (λ n. n < length telling.text.items) written_is less, part)

-- what may be counted with none lost may be with one
counts_lost : {A : Type 0} (old new : Totals) (outs : List (Out A)) (lost : ℕ) → CountsWith old outs 0 new → CountsWith old outs lost new
counts_lost old new outs lost h = record { told = h.told; least = h.least; most = omega (arith, h.most) }

-- an answer is to be written after the others
pub answers : {A : Type 0} (out : Out A) (turn : Turn A) (r0 r : Reading) (w0 w : Option (List ℕ)) (s0 : Totals) (inflow : Inflow) (kept : List ℕ) (is_long : Bool)
    (outs : List (Out A)) (session : ℕ) (share : Totals)
    → IsAnswered out turn → HeardSoFar r0 r inflow (outs ++ out ∷ []) → IsBetween kept is_long → length outs < most_lines → SpeaksFor 0 outs
    → IsOf (session_of 0 outs) out → session ≡ session_after (session_of 0 outs) out → Appends w0 w (texts_of outs) → NoneLeft outs
    → CountsWith s0 (outs ++ out ∷ []) 0 share → Stands turn r0 r w0 w s0 inflow kept is_long (outs ++ out ∷ []) session share
answers out (Tell telling) r0 r w0 w s0 inflow kept is_long outs session share answered heard between few spoken of_session session_is written none counted =
    let (text, nothing, left) = answered in
    record {
      heard = (heard, between);
      few = omega (arith, length-append outs (out ∷ []), few);
      spoken = speaks_more 0 outs out spoken of_session;
      session_is = session_is ∙ sym (session_more 0 outs out);
      asked = tt;
      written = (outs, out, refl, none, text, subst (Appends w0 w) (sym (ap (λ n. texts_of outs ++ take n (text_of out)) nothing ∙ append-nil (texts_of outs))) written, left);
      counted = counted;
    }
answers out (Over ended) r0 r w0 w s0 inflow kept is_long outs session share answered heard between few spoken of_session session_is written none counted =
    let P : Ended → Type 0 = λ e. Stands (Over e) r0 r w0 w s0 inflow kept is_long (outs ++ out ∷ []) session share in
    let here : P ends.NoMemory = record {
      heard = hears_end r0 r inflow (outs ++ out ∷ []) ends.NoMemory heard (λ given left. tt);
      few = omega (arith, length-append outs (out ∷ []), few);
      spoken = speaks_more 0 outs out spoken of_session;
      session_is = session_is ∙ sym (session_more 0 outs out);
      asked = tt;
      written = (inr (outs, out, refl, written), tt);
      counted = counts_lost s0 share (outs ++ out ∷ []) 1 counted;
    } in
    subst P (sym answered) here
answers out Hear r0 r w0 w s0 inflow kept is_long outs session share answered heard between few spoken of_session session_is written none counted = absurd answered
answers out (Keep kept_wait) r0 r w0 w s0 inflow kept is_long outs session share answered heard between few spoken of_session session_is written none counted = absurd answered
answers out (Wait ticket) r0 r w0 w s0 inflow kept is_long outs session share answered heard between few spoken of_session session_is written none counted = absurd answered

-- a conversation that would hear a line ends, and all its answers are written
pub ends_so : {A : Type 0} (ended : Ended) (r0 r new : Reading) (w0 w : Option (List ℕ)) (s0 : Totals) (inflow next : Inflow) (kept behind : List ℕ)
    (is_long was_long : Bool) (outs : List (Out A)) (session : ℕ) (share : Totals)
    → HeardAll r0 new outs ended → (ended ≢ ends.Quit) × (ended ≢ ends.Write)
    → Stands Hear r0 r w0 w s0 inflow kept is_long outs session share → Stands (Over ended) r0 new w0 w s0 next behind was_long outs session share
ends_so ended r0 r new w0 w s0 inflow next kept behind is_long was_long outs session share heard other h = record {
  heard = heard;
  few = h.few;
  spoken = h.spoken;
  session_is = h.session_is;
  asked = tt;
  written = (writes_whole ended w0 w outs h.written.0 h.written.1 other, quits_without ended outs h.written.1 other);
  counted = counts_lost s0 share outs (lost_by ended) h.counted;
}

-- an end of the reader's is none of the writer's
pub readers : (ended : Ended) → IsReaders ended → (ended ≢ ends.Quit) × (ended ≢ ends.Write)
readers ended h = (λ e. subst IsReaders e h, λ e. subst IsReaders e h)

-- nor is a refused allocation
pub wants : (ends.NoMemory ≢ ends.Quit) × (ends.NoMemory ≢ ends.Write)
wants = (λ e. subst IsWanting e tt, λ e. subst IsWanting e tt)

-- the reply that was waited for is to be written
pub replies : {A : Type 0} (ticket : TicketSeen) (out : Out A) (turn : Turn A) (r0 r : Reading) (w0 w : Option (List ℕ)) (s0 : Totals) (inflow : Inflow) (kept : List ℕ)
    (is_long : Bool) (outs : List (Out A)) (session after : ℕ) (share counted : Totals)
    → Stands (Wait ticket) r0 r w0 w s0 inflow kept is_long outs session share → FitsCommand ticket.command out
    → (ticket.session ≡ session_of 0 outs → IsOf (session_of 0 outs) out) → after ≡ session_after session out
    → ((before : Totals) → share ≡ record before { staged = before.staged + 1 } → CountsOne before out counted)
    → IsAnswered out turn → Stands turn r0 r w0 w s0 inflow kept is_long (outs ++ out ∷ []) after counted
replies ticket out turn r0 r w0 w s0 inflow kept is_long outs session after share counted h fits of_session after_is counts answered =
    let (before, counted_before, staged) = h.counted in
    answers out turn r0 r w0 w s0 inflow kept is_long outs after counted answered (h.heard.0.0 out fits) h.heard.1 (omega (arith, h.few)) h.spoken
    (of_session (h.asked ∙ h.session_is)) (after_is ∙ ap (λ n. session_after n out) h.session_is) h.written.0 h.written.1
    (counts_more s0 before counted outs out counted_before (counts before staged))

-- a receipt counts the command that was staged and its reply
pub counts_told : (A : Type 0) (before share new : Totals) (receipt : ToldSeen) → share ≡ record before { staged = before.staged + 1 }
    → new ≡ record share { told = share.told + 1 } → CountsOne {A = A} before (Told receipt) new
counts_told A before share new receipt staged told = record {
  told = omega (arith, ap (λ t. t.told) told, ap (λ t. t.told) staged);
  least = omega (arith, ap (λ t. t.staged) told, ap (λ t. t.staged) staged);
  most = omega (arith, ap (λ t. t.staged) told, ap (λ t. t.staged) staged);
}

-- a broken vault leaves it staged
counts_broken : (A : Type 0) (before share new : Totals) → share ≡ record before { staged = before.staged + 1 } → new ≡ share
    → CountsOne {A = A} before (Refused outsides.Broken) new
counts_broken A before share new staged same = record {
  told = omega (arith, ap (λ t. t.told) same, ap (λ t. t.told) staged);
  least = omega (arith, ap (λ t. t.staged) same, ap (λ t. t.staged) staged);
  most = omega (arith, ap (λ t. t.staged) same, ap (λ t. t.staged) staged);
}

pub counts_unknown : (A : Type 0) (outside : Outside) (before share new : Totals) → outside ≡ outsides.Broken → share ≡ record before { staged = before.staged + 1 }
    → new ≡ share → CountsOne {A = A} before (Refused outside) new
counts_unknown A outside before share new is staged same = subst (λ o. CountsOne {A = A} before (Refused o) new) (sym is) (counts_broken A before share new staged same)

-- the reply that was waited for is lost
pub loses : {A : Type 0} (ticket : TicketSeen) (r0 r : Reading) (w0 w : Option (List ℕ)) (s0 : Totals) (inflow : Inflow) (kept : List ℕ) (is_long : Bool)
    (outs : List (Out A)) (session : ℕ) (share : Totals)
    → Stands (Wait ticket) r0 r w0 w s0 inflow kept is_long outs session share → Stands (Over ends.NoMemory) r0 r w0 w s0 inflow kept is_long outs session share
loses ticket r0 r w0 w s0 inflow kept is_long outs session share h =
    let (before, counted, staged) = h.counted in
    record {
      heard = h.heard.0.1;
      few = omega (arith, h.few);
      spoken = h.spoken;
      session_is = h.session_is;
      asked = tt;
      written = (inl (h.written.0, not_ended_left outs h.written.1), tt);
      counted = record { told = ap (λ t. t.told) staged ∙ counted.told; least = omega (arith, ap (λ t. t.staged) staged, counted.least); most = omega (arith, ap (λ t. t.staged) staged, counted.most) };
    }

-- a conversation begins
pub starts : (A : Type 0) (r : Reading) (w : Option (List ℕ)) (share : Totals) → Stands {A = A} Hear r r w w share (record { pending = []; taken = 0 }) [] false [] 0 share
starts A r w share = record {
  heard = hears_between r r (record { pending = []; taken = 0 }) [] false [] (hears_nothing r [] refl) (refl, refl);
  few = omega arith;
  spoken = tt;
  session_is = refl;
  asked = tt;
  written = (Appends-nil w, tt);
  counted = record { told = omega arith; least = omega arith; most = omega arith };
}

-- a kept `wait` is kept on
pub keeps_on : {A : Type 0} (wait next : PendingWait) (r0 r : Reading) (w0 w : Option (List ℕ)) (s0 : Totals) (inflow : Inflow) (kept : List ℕ) (is_long : Bool)
    (outs : List (Out A)) (session : ℕ) (share : Totals) → next.claim ≡ wait.claim
    → Stands {A = A} (Keep wait) r0 r w0 w s0 inflow kept is_long outs session share → Stands {A = A} (Keep next) r0 r w0 w s0 inflow kept is_long outs session share
keeps_on {A} wait next r0 r w0 w s0 inflow kept is_long outs session share same h = record {
  heard = (subst (λ c. HeardCommand {A = A} (Await c) r0 r inflow outs) (sym same) h.heard.0, h.heard.1);
  few = h.few;
  spoken = h.spoken;
  session_is = h.session_is;
  asked = tt;
  written = h.written;
  counted = h.counted;
}

-- it is staged
pub stages_kept : {A : Type 0} (wait : PendingWait) (ticket : TicketSeen) (r0 r : Reading) (w0 w : Option (List ℕ)) (s0 : Totals) (inflow : Inflow) (kept : List ℕ)
    (is_long : Bool) (outs : List (Out A)) (session : ℕ) (share staged : Totals)
    → ticket.session ≡ session → ticket.command ≡ Await wait.claim → staged ≡ record share { staged = share.staged + 1 }
    → Stands {A = A} (Keep wait) r0 r w0 w s0 inflow kept is_long outs session share → Stands {A = A} (Wait ticket) r0 r w0 w s0 inflow kept is_long outs session staged
stages_kept {A} wait ticket r0 r w0 w s0 inflow kept is_long outs session share staged of_session of_command one h = record {
  heard = (subst (λ c. HeardCommand {A = A} c r0 r inflow outs) (sym of_command) h.heard.0, h.heard.1);
  few = h.few;
  spoken = h.spoken;
  session_is = h.session_is;
  asked = of_session;
  written = h.written;
  counted = (share, h.counted, one);
}

-- its answer is to be written, where it isn't staged
pub refuses_kept : {A : Type 0} (wait : PendingWait) (outside : Outside) (turn : Turn A) (r0 r : Reading) (w0 w : Option (List ℕ)) (s0 : Totals) (inflow : Inflow)
    (kept : List ℕ) (is_long : Bool) (outs : List (Out A)) (session after : ℕ) (share : Totals) → outside ≢ outsides.BadLine
    → after ≡ session_after {A = A} session (Refused outside) → IsAnswered (Refused outside) turn
    → Stands {A = A} (Keep wait) r0 r w0 w s0 inflow kept is_long outs session share
    → Stands turn r0 r w0 w s0 inflow kept is_long (outs ++ Refused outside ∷ []) after share
refuses_kept {A} wait outside turn r0 r w0 w s0 inflow kept is_long outs session after share fits after_is answered h =
    answers (Refused outside) turn r0 r w0 w s0 inflow kept is_long outs after share answered (h.heard.0.0 (Refused outside) fits) h.heard.1
    (omega (arith, h.few)) h.spoken tt (after_is ∙ h.session_is) h.written.0 h.written.1
    (counts_more s0 share share outs (Refused outside) h.counted (counts_refused A outside share))

-- it is lost where memory is refused
pub wants_kept : {A : Type 0} (wait : PendingWait) (r0 r : Reading) (w0 w : Option (List ℕ)) (s0 : Totals) (inflow : Inflow) (kept : List ℕ) (is_long : Bool)
    (outs : List (Out A)) (session : ℕ) (share : Totals)
    → Stands {A = A} (Keep wait) r0 r w0 w s0 inflow kept is_long outs session share → Stands {A = A} (Over ends.NoMemory) r0 r w0 w s0 inflow kept is_long outs session share
wants_kept wait r0 r w0 w s0 inflow kept is_long outs session share h = record {
  heard = h.heard.0.1;
  few = omega (arith, h.few);
  spoken = h.spoken;
  session_is = h.session_is;
  asked = tt;
  written = (inl (h.written.0, not_ended_left outs h.written.1), tt);
  counted = counts_lost s0 share outs 1 h.counted;
}

-- and where the conversation ends while it is kept
pub drops_kept : {A : Type 0} (wait : PendingWait) (r0 r : Reading) (w0 w : Option (List ℕ)) (s0 : Totals) (inflow : Inflow) (kept : List ℕ) (is_long : Bool)
    (outs : List (Out A)) (session : ℕ) (share : Totals)
    → Stands {A = A} (Keep wait) r0 r w0 w s0 inflow kept is_long outs session share → Stands {A = A} (Over ends.Read) r0 r w0 w s0 inflow kept is_long outs session share
drops_kept wait r0 r w0 w s0 inflow kept is_long outs session share h = record {
  heard = h.heard.0.1;
  few = omega (arith, h.few);
  spoken = h.spoken;
  session_is = h.session_is;
  asked = tt;
  written = (h.written.0, not_ended_left outs h.written.1);
  counted = h.counted;
}
