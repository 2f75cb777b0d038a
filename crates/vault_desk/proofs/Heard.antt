-- Lines are heard one by one.
use Rattle.std.proofs.Common.{◌≡◌, ℕ, ◌+◌, ◌<◌, List, [], ◌∷◌, ◌++◌, length, ap, sym, ◌∙◌, refl, subst, arith, append_assoc, length-append, append-nil, Option, None, false}
use Rattle.std.specs.Prelude.{nat_le}
use Rattle.std.proofs.lemmas.Bool.Decides.{nat_tests}
use Rattle.std.specs.List.{flat_map}
use Rattle.std.proofs.lemmas.Grind.{flat_map-append}
use Rattle.vault_lines.specs.Limits.{longest_line}
use Rattle.vault_lines.specs.Grammar.{command_of}
use Rattle.line_inlet.specs.Inflow.{Inflow}
use Rattle.line_inlet.specs.Reading.{Reading, Gave}
use Rattle.line_inlet.proofs.Readings.{gave_none, gave_both}
use Rattle.line_inlet.specs.Incoming.{CutsLine}
use Rattle.vault_desk.specs.Serving.{Fits, IsAnswer, with_feed, HeardSoFar, HeardAll, EndsBy}
use Rattle.vault_desk.specs.declared.report.Out.{Out}
use Rattle.vault_desk.specs.declared.report.Ended.{Ended}
use Rattle.long_locks.proofs.Zips.{zip_push}

-- a line that is too long spells no command
pub long_is_bad : (line : List ℕ) → longest_line < length line → command_of line ≡ None
long_is_bad line long =
    let no : nat_le (length line) longest_line ≡ false = grind (arith, nat_tests) in
    rw no refl

lines_more : (lines : List (List ℕ)) (line : List ℕ) → flat_map with_feed (lines ++ line ∷ []) ≡ flat_map with_feed lines ++ with_feed line
lines_more lines line = flat_map-append with_feed lines (line ∷ []) ∙ ap (λ l. flat_map with_feed lines ++ l) (append-nil (with_feed line))

-- nothing was given yet
pub hears_nothing : {A : Type 0} (start : Reading) (outs : List (Out A)) → outs ≡ [] → HeardSoFar start start (record { pending = []; taken = 0 }) outs
hears_nothing {A} start outs none =
    let P : List (Out A) → Type 0 = λ o. HeardSoFar start start (record { pending = []; taken = 0 }) o in
    let empty : P [] = ([], [], record { given_is = gave_none start; lines_are = refl; answered = tt }, refl, omega arith) in
    subst P (sym none) empty

-- one line more was given and answered
pub hears_line : {A : Type 0} (start mid new : Reading) (old next : Inflow) (outs : List (Out A)) (more line : List ℕ) (out : Out A)
    → HeardSoFar start mid old outs → Gave mid new more → CutsLine old more line next → Fits line out → HeardSoFar start new next (outs ++ out ∷ [])
hears_line start mid new old next outs more line out heard consumes cut fits =
    let (given, lines, hears, count, few) = heard in
    let text = flat_map with_feed lines in
    let all : flat_map with_feed (lines ++ line ∷ []) ≡ text ++ with_feed line = lines_more lines line in
    let apart : line ++ 10 ∷ next.pending ≡ with_feed line ++ next.pending = sym (append_assoc line (10 ∷ []) next.pending) in
    let joined : given ++ more ≡ text ++ (with_feed line ++ next.pending) =
    ap (λ l. l ++ more) hears.lines_are ∙ (append_assoc text old.pending more ∙ ap (λ l. text ++ l) (cut.bytes ∙ apart)) in
    let whole : given ++ more ≡ flat_map with_feed (lines ++ line ∷ []) ++ next.pending =
    joined ∙ (sym (append_assoc text (with_feed line) next.pending) ∙ ap (λ l. l ++ next.pending) (sym all)) in
    let size : length (flat_map with_feed (lines ++ line ∷ [])) ≡ length text + (length line + 1) =
    ap length all ∙ (length-append text (with_feed line) ∙ ap (λ n. length text + n) (length-append line (10 ∷ []))) in (
      given ++ more,
      lines ++ line ∷ [],
      record { given_is = gave_both _ _ _ _ _ hears.given_is consumes; lines_are = whole; answered = zip_push IsAnswer lines outs line out hears.answered (cut.one, fits) },
      omega (arith, size, cut.taken, count),
      cut.within,
    )

-- more was given, and is pending
pub hears_more : {A : Type 0} (start mid new : Reading) (old : Inflow) (outs : List (Out A)) (more : List ℕ)
    → HeardSoFar start mid old outs → Gave mid new more → HeardSoFar start new (record { pending = old.pending ++ more; taken = old.taken }) outs
hears_more start mid new old outs more heard consumes =
    let (given, lines, hears, count, few) = heard in
    let text = flat_map with_feed lines in
    let whole : given ++ more ≡ text ++ (old.pending ++ more) = ap (λ l. l ++ more) hears.lines_are ∙ append_assoc text old.pending more in
    (given ++ more, lines, record { given_is = gave_both _ _ _ _ _ hears.given_is consumes; lines_are = whole; answered = hears.answered }, count, few)

-- what was given last is left
pub hears_rest : {A : Type 0} (start mid new : Reading) (old : Inflow) (outs : List (Out A)) (more : List ℕ) (ended : Ended)
    → HeardSoFar start mid old outs → Gave mid new more
    → ((given : List ℕ) → length given ≡ old.taken + length (old.pending ++ more) → EndsBy ended new given outs (old.pending ++ more))
    → HeardAll start new outs ended
hears_rest start mid new old outs more ended heard consumes may_end =
    let (given, lines, hears, count, few) = hears_more start mid new old outs more heard consumes in
    let text = flat_map with_feed lines in
    let rest = old.pending ++ more in
    let size : length given ≡ length text + length rest = ap length hears.lines_are ∙ length-append text rest in
    (given, lines, rest, hears, omega (arith, count, few), may_end given (omega (arith, size, count)))

-- a conversation that may end anywhere so ends at once
pub hears_end : {A : Type 0} (start new : Reading) (old : Inflow) (outs : List (Out A)) (ended : Ended) → HeardSoFar start new old outs
    → ((given left : List ℕ) → EndsBy ended new given outs left) → HeardAll start new outs ended
hears_end start new old outs ended heard may_end = hears_rest start new new old outs [] ended heard (gave_none new) (λ given size. may_end given (old.pending ++ []))
