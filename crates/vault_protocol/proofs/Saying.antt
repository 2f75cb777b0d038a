-- Lines are printed one by one.
use Rattle.std.proofs.Common.{◌≡◌, ℕ, ◌<◌, true, false, cond, List, [], ◌∷◌, ◌++◌, length, refl, sym, ap, ◌∙◌, arith, append_assoc}
use Rattle.std.specs.Prelude.{nat_lt, filter}
use Rattle.std.proofs.lemmas.Bool.{cond-true, cond-false}
use Rattle.vault_protocol.specs.Talk.{Line, Known, Awaited, Talk, Said, told, told_text, reply_at, behind, said_of, said_now, is_known}
use Rattle.vault_protocol.specs.Saying.{may_be_said, is_sayable, said_in_front, said_first, known_texts}

-- the lines of a conversation don't matter if other lines are printed
said_over : (talk : Talk) (others lines : List Line) → said_of (record talk { lines = others }) lines ≡ said_of talk lines
said_over talk others [] = refl
said_over talk others (Known text ∷ lines) = ap (behind text) (said_over talk others lines)
said_over talk others (Awaited connection position ∷ lines) =
    ap
    (λ (s : Said). cond (nat_lt position talk.view.settled) (behind (told_text connection (reply_at talk.view position)) s) (record { text = []; talk = record talk { lines = Awaited connection position ∷ lines } }))
    (said_over (told talk connection position) others lines)

-- the first line is printed, then the others
in_front : (talk : Talk) (lines : List Line) → may_be_said talk.view.settled lines ≡ true
    → said_of talk lines ≡ behind (said_in_front talk lines).text (said_now (said_in_front talk lines).talk)
in_front talk [] h = cc h
in_front talk (Known text ∷ lines) h = ap (behind text) (sym (said_over talk lines lines))
in_front talk (Awaited connection position ∷ lines) h =
    cond-true (nat_lt position talk.view.settled) _ _ h
    ∙ ap (behind (told_text connection (reply_at talk.view position))) (sym (said_over (told talk connection position) lines lines))

pub first_said : (talk : Talk) → is_sayable talk ≡ true → said_now talk ≡ behind (said_first talk).text (said_now (said_first talk).talk)
first_said talk h = in_front talk talk.lines h

none_in_front : (talk : Talk) (lines : List Line) → may_be_said talk.view.settled lines ≡ false
    → said_of talk lines ≡ record { text = []; talk = record talk { lines = lines } }
none_in_front talk [] h = refl
none_in_front talk (Known text ∷ lines) h = cc h
none_in_front talk (Awaited connection position ∷ lines) h = cond-false (nat_lt position talk.view.settled) _ _ h

-- nothing more is printed
pub none_said : (talk : Talk) → is_sayable talk ≡ false → said_now talk ≡ record { text = []; talk = talk }
none_said talk h = none_in_front talk talk.lines h

fewer_in_front : (talk : Talk) (lines : List Line) → may_be_said talk.view.settled lines ≡ true
    → length (said_in_front talk lines).talk.lines < length lines
fewer_in_front talk [] h = cc h
fewer_in_front talk (Known text ∷ lines) h = omega arith
fewer_in_front talk (Awaited connection position ∷ lines) h = omega arith

pub fewer : (talk : Talk) → is_sayable talk ≡ true → length (said_first talk).talk.lines < length talk.lines
fewer talk h = fewer_in_front talk talk.lines h

-- the known lines that a crash leaves are all printed
pub known_said : (talk : Talk) (lines : List Line)
    → said_of talk (filter is_known lines) ≡ record { text = known_texts lines; talk = record talk { lines = [] } }
known_said talk [] = refl
known_said talk (Known text ∷ lines) = ap (behind text) (known_said talk lines)
known_said talk (Awaited connection position ∷ lines) = known_said talk lines

-- more is printed, by one line
pub said_more : (talk next : Talk) (out old text : List ℕ) (all : Said) → is_sayable talk ≡ true
    → out ++ (said_now talk).text ≡ old ++ all.text → (said_now talk).talk ≡ all.talk
    → next ≡ (said_first talk).talk → text ≡ out ++ (said_first talk).text
    → (text ++ (said_now next).text ≡ old ++ all.text) × ((said_now next).talk ≡ all.talk)
said_more talk next out old text all h texts talks is_next is_text =
    let first = first_said talk h in (
      rw (is_next, is_text) (append_assoc out (said_first talk).text (said_now (said_first talk).talk).text ∙ sym (ap (λ (s : Said). out ++ s.text) first) ∙ texts),
      rw is_next (sym (ap (λ (s : Said). s.talk) first) ∙ talks),
    )
