-- Bytes come in pieces, and make a line piece by piece.
use Rattle.std.proofs.Common.{◌≡◌, ◌≢◌, ℕ, suc, ◌+◌, ◌-◌, ◌<◌, ◌≤◌, Bool, false, List, [], ◌∷◌, ◌++◌, length, take, drop, ap, sym, ◌∙◌, subst, arith, length-drop, append_assoc, append-nil, length-append, Option, Some, None, rules}
use Rattle.std.proofs.Math.ListN.{get_or}
use Rattle.std.proofs.Math.Seq.{split_at}
use Rattle.std.proofs.lemmas.Bool.Decides.{nat_tests}
use Rattle.std.proofs.lemmas.List.{drop-drop, drop-take, get_or-take, length-take-le}
use Rattle.std.proofs.lemmas.List.Elements.{All-append, All-from_get_or}
use Rattle.memchr.specs.Find.{IsFirstByte, is_byte}
use Rattle.vault_lines.specs.Limits.{longest_line}
use Rattle.line_inlet.specs.Inflow.{Inflow}
use Rattle.line_inlet.specs.Reading.{Reading}
use Rattle.line_inlet.specs.Incoming.{most_bytes, IsOneLine, KeepsLine, CutsLine, TakesPiece, GivesPiece}
use Rattle.line_inlet.specs.declared.inlet.Piece.{Piece}
use Rattle.line_inlet.specs.declared.inlet.Piece.TheVariants as pieces

-- what was pending and given is a piece of the line, kept after the part that came before, and then what is pending now
pub record IsSoFar (old : Inflow) (given part piece kept : List ℕ) (is_long : Bool) (now : Inflow) : Type 0 where
  pub bytes : old.pending ++ given ≡ piece ++ now.pending
  pub one : IsOneLine piece
  pub keeps : KeepsLine (part ++ piece) kept is_long
  pub taken : now.taken ≡ old.taken + length piece

-- nothing came yet
pub begins : (old : Inflow) (part kept : List ℕ) (is_long : Bool) → KeepsLine part kept is_long → IsSoFar old [] part [] kept is_long old
begins old part kept is_long keeps = record {
  bytes = append-nil old.pending;
  one = search rules;
  keeps = subst (λ l. KeepsLine l kept is_long) (sym (append-nil part)) keeps;
  taken = omega arith;
}

-- what is given next comes after all
append_more : (pending given so_far rest more : List ℕ) → pending ++ given ≡ so_far ++ rest → pending ++ (given ++ more) ≡ so_far ++ (rest ++ more)
append_more pending given so_far rest more e =
    sym (append_assoc pending given more) ∙ (ap (λ l. l ++ more) e ∙ append_assoc so_far rest more)

-- more of the line belongs to the piece, and nothing is pending after it
pub goes_on : (old now next : Inflow) (given part piece kept longer : List ℕ) (is_long will_be : Bool) (more : List ℕ)
    → IsSoFar old given part piece kept is_long now → IsOneLine (now.pending ++ more) → next.pending ≡ []
    → KeepsLine ((part ++ piece) ++ (now.pending ++ more)) longer will_be → next.taken ≡ now.taken + length (now.pending ++ more)
    → IsSoFar old (given ++ more) part (piece ++ (now.pending ++ more)) longer will_be next
goes_on old now next given part piece kept longer is_long will_be more h one none keeps taken =
    let all = piece ++ (now.pending ++ more) in
    record {
      bytes = append_more old.pending given piece now.pending more h.bytes ∙ (sym (append-nil all) ∙ ap (λ l. all ++ l) (sym none));
      one = All-append (λ x. x ≢ 10) piece (now.pending ++ more) h.one one;
      keeps = subst (λ l. KeepsLine l longer will_be) (append_assoc part piece (now.pending ++ more)) keeps;
      taken = omega (arith, length-append piece (now.pending ++ more), h.taken, taken);
    }

cut_more : (old now next : Inflow) (given part piece kept last : List ℕ) (is_long : Bool) (more : List ℕ)
    → IsSoFar old given part piece kept is_long now → CutsLine now more last next → CutsLine old (given ++ more) (piece ++ last) next
cut_more old now next given part piece kept last is_long more h cut = record {
  bytes = append_more old.pending given piece now.pending more h.bytes ∙ (ap (λ l. piece ++ l) cut.bytes ∙ sym (append_assoc piece last (10 ∷ next.pending)));
  one = All-append (λ x. x ≢ 10) piece last h.one cut.one;
  taken = omega (arith, length-append piece last, h.taken, cut.taken);
  within = cut.within;
}

-- a piece with a line feed after it ends the line
pub whole : (old now next : Inflow) (given part piece kept last line : List ℕ) (is_long : Bool) (more : List ℕ)
    → IsSoFar old given part piece kept is_long now → CutsLine now more last next → KeepsLine ((part ++ piece) ++ last) line false
    → (all : List ℕ) × CutsLine old (given ++ more) all next × (line ≡ part ++ all) × (length line ≤ longest_line)
whole old now next given part piece kept last line is_long more h cut keeps = (
  piece ++ last,
  cut_more old now next given part piece kept last is_long more h cut,
  keeps.0 ∙ append_assoc part piece last,
  omega (arith, keeps.1, ap length keeps.0),
)

-- and one that is too long
pub too_long : (old now next : Inflow) (given part piece kept last : List ℕ) (is_long : Bool) (more : List ℕ)
    → IsSoFar old given part piece kept is_long now → CutsLine now more last next → longest_line < length ((part ++ piece) ++ last)
    → (all : List ℕ) × CutsLine old (given ++ more) all next × (longest_line < length (part ++ all))
too_long old now next given part piece kept last is_long more h cut long = (
  piece ++ last,
  cut_more old now next given part piece kept last is_long more h cut,
  subst (λ l. longest_line < length l) (append_assoc part piece last) long,
)

-- where no more comes, all was of one line
pub ends : (old now : Inflow) (given part piece kept : List ℕ) (is_long : Bool) (more : List ℕ)
    → IsSoFar old given part piece kept is_long now → now.pending ++ more ≡ [] → IsOneLine (old.pending ++ (given ++ more))
ends old now given part piece kept is_long more h none =
    let all : old.pending ++ (given ++ more) ≡ piece =
    append_more old.pending given piece now.pending more h.bytes ∙ (ap (λ l. piece ++ l) none ∙ append-nil piece) in
    subst IsOneLine (sym all) h.one

-- too many bytes are too many
pub exceeds : (old now : Inflow) (given part piece kept : List ℕ) (is_long : Bool) (more : List ℕ)
    → IsSoFar old given part piece kept is_long now → most_bytes < now.taken + length (now.pending ++ more) → most_bytes < old.taken + length (old.pending ++ (given ++ more))
exceeds old now given part piece kept is_long more h many =
    let size : length (old.pending ++ (given ++ more)) ≡ length piece + length (now.pending ++ more) =
    ap length (append_more old.pending given piece now.pending more h.bytes) ∙ length-append piece (now.pending ++ more) in
    omega (arith, size, h.taken, many)

-- if none comes for now, nothing is pending after the piece
pub waits : (old now : Inflow) (given part piece kept : List ℕ) (is_long : Bool) (more rest : List ℕ)
    → IsSoFar old given part piece kept is_long now → now.pending ++ more ≡ [] → rest ≡ [] → old.pending ++ (given ++ more) ≡ piece ++ rest
waits old now given part piece kept is_long more rest h none empty =
    append_more old.pending given piece now.pending more h.bytes ∙ ap (λ l. piece ++ l) (none ∙ sym empty)

-- no line feed stands before the first one
pub before_feed : (bytes : List ℕ) (count : ℕ) → IsFirstByte (is_byte 10) bytes (Some count) → IsOneLine (take count bytes)
before_feed bytes count h =
    All-from_get_or (λ b. b ≢ 10) (take count bytes) 0 (λ i less.
    let size : length (take count bytes) ≡ count = length-take-le count bytes (omega (arith, h.0.high)) in
    let here : i < count = omega (arith, less, size) in
    let same : get_or (take count bytes) i 0 ≡ get_or bytes i 0 = get_or-take count bytes i 0 here in
    λ feed. h.0.before i (omega arith) here (grind (arith, nat_tests, same, feed)))

-- where there is none, all bytes are of one line
pub without_feed : (bytes : List ℕ) → IsFirstByte (is_byte 10) bytes None → IsOneLine bytes
without_feed bytes h = All-from_get_or (λ b. b ≢ 10) bytes 0 (λ i less. λ feed. h i (omega arith) less (grind (arith, nat_tests, feed)))

-- the bytes up to the first line feed, the line feed, and the bytes after it
pub at_feed : (bytes : List ℕ) (count : ℕ) → IsFirstByte (is_byte 10) bytes (Some count) → bytes ≡ take count bytes ++ 10 ∷ drop (suc count) bytes
at_feed bytes count h =
    let feed : get_or bytes count 0 ≡ 10 = grind (arith, nat_tests, h.1) in
    split_at bytes count 0 h.0.high ∙ ap (λ b. take count bytes ++ b ∷ drop (suc count) bytes) feed

-- what waits after a piece and its line feed
pub behind_feed : (chunk : List ℕ) (at end count : ℕ) → at + count + 1 ≤ end
    → drop (suc count) (take (end - at) (drop at chunk)) ≡ take (end - (at + (count + 1))) (drop (at + (count + 1)) chunk)
behind_feed chunk at end count within =
    let left : end - at ≡ suc count + (end - (at + (count + 1))) = omega arith in
    let next : at + suc count ≡ at + (count + 1) = omega arith in
    ap (λ n. drop (suc count) (take n (drop at chunk))) left
    ∙ (drop-take (suc count) (end - (at + (count + 1))) (drop at chunk)
    ∙ (ap (λ l. take (end - (at + (count + 1))) l) (drop-drop (suc count) at chunk)
    ∙ ap (λ n. take (end - (at + (count + 1))) (drop n chunk)) next))

-- what waits in the chunk is cut at its first line feed
pub cuts_waiting : (old next : Inflow) (chunk : List ℕ) (at end count : ℕ)
    → old.pending ≡ take (end - at) (drop at chunk) → at ≤ end → end ≤ length chunk
    → IsFirstByte (is_byte 10) (take (end - at) (drop at chunk)) (Some count)
    → next.pending ≡ take (end - (at + (count + 1))) (drop (at + (count + 1)) chunk)
    → next.taken ≡ old.taken + (count + 1) → next.taken ≤ most_bytes
    → CutsLine old [] (take count (take (end - at) (drop at chunk))) next
cuts_waiting old next chunk at end count pending low high first rest taken within =
    let bytes = take (end - at) (drop at chunk) in
    let room : end - at ≤ length (drop at chunk) = omega (arith, length-drop at chunk) in
    let size : length bytes ≡ end - at = length-take-le (end - at) (drop at chunk) room in
    let few : at + count + 1 ≤ end = omega (arith, first.0.high, size, low) in
    let short : length (take count bytes) ≡ count = length-take-le count bytes (omega (arith, first.0.high)) in
    record {
      bytes = append-nil old.pending ∙ (pending ∙ (at_feed bytes count first ∙ ap (λ l. take count bytes ++ 10 ∷ l) (behind_feed chunk at end count few ∙ sym rest)));
      one = before_feed bytes count first;
      taken = omega (arith, taken, short);
      within = within;
    }

-- what waits has no line feed, and is taken whole
pub takes_waiting : (old next : Inflow) (chunk : List ℕ) (at end : ℕ) (so_far kept : List ℕ) (is_long : Bool)
    → old.pending ≡ take (end - at) (drop at chunk)
    → IsFirstByte (is_byte 10) (take (end - at) (drop at chunk)) None
    → KeepsLine (so_far ++ take (end - at) (drop at chunk)) kept is_long
    → next.pending ≡ take (end - end) (drop end chunk)
    → next.taken ≡ old.taken + length (take (end - at) (drop at chunk)) → next.taken ≤ most_bytes
    → TakesPiece old so_far (pieces.More is_long) kept next
takes_waiting old next chunk at end so_far kept is_long pending without keeps rest taken within =
    let none : end - end ≡ 0 = omega arith in (
      subst IsOneLine (sym pending) (without_feed (take (end - at) (drop at chunk)) without),
      rest ∙ ap (λ n. take n (drop end chunk)) none,
      subst (λ l. KeepsLine (so_far ++ l) kept is_long) (sym pending) keeps,
      omega (arith, taken, ap length pending),
      within,
    )

moved_cut : (old mid new : Inflow) (given piece : List ℕ) → mid.pending ≡ old.pending ++ given → mid.taken ≡ old.taken → CutsLine mid [] piece new → CutsLine old given piece new
moved_cut old mid new given piece pending taken cut = record {
  bytes = sym pending ∙ (sym (append-nil mid.pending) ∙ cut.bytes);
  one = cut.one;
  taken = omega (arith, cut.taken, taken);
  within = cut.within;
}

-- a piece of what waits after a read is a piece of what was pending and given
pub gives_read : (old mid new : Inflow) (given so_far kept : List ℕ) (was_long : Bool) (piece : Piece) (rest : Reading)
    → mid.pending ≡ old.pending ++ given → mid.taken ≡ old.taken
    → TakesPiece mid so_far piece kept new → GivesPiece old given so_far was_long piece kept new rest
gives_read old mid new given so_far kept was_long pieces.Whole rest pending taken takes =
    (takes.0, moved_cut old mid new given takes.0 pending taken takes.1, takes.2)
gives_read old mid new given so_far kept was_long pieces.TooLong rest pending taken takes =
    (takes.0, moved_cut old mid new given takes.0 pending taken takes.1, takes.2)
gives_read old mid new given so_far kept was_long (pieces.More is_long) rest pending taken takes =
    let (one, none, keeps, grown, within) = takes in (
      subst IsOneLine pending one,
      none,
      subst (λ l. KeepsLine (so_far ++ l) kept is_long) pending keeps,
      omega (arith, grown, taken, ap length pending),
      within,
    )
gives_read old mid new given so_far kept was_long pieces.End rest pending taken takes = absurd takes
gives_read old mid new given so_far kept was_long pieces.Fault rest pending taken takes = absurd takes
gives_read old mid new given so_far kept was_long pieces.Limit rest pending taken takes = omega (arith, takes, taken, ap length pending)
gives_read old mid new given so_far kept was_long pieces.NotYet rest pending taken takes = absurd takes
