-- Which lines of a script are a connection's.
use Rattle.std.proofs.Common.{◌≡◌, ℕ, ◌+◌, ◌<◌, ◌≤◌, ◌^◌, ◌==◌, ◌&&◌, false, cond, List, [], ◌∷◌, ◌++◌, length, take, drop, Some, None, refl, sym, ap, ◌∙◌, arith, inl, inr, length-append}
use Rattle.std.specs.Prelude.{decimal, nat_lt, nat_le, position}
use Rattle.std.specs.List.{slice_split, join_with_byte, position_or_len}
use Rattle.std.proofs.Math.ListN.{get_or-append}
use Rattle.std.proofs.Math.Seq.{take-append_seam, drop-append-add, get_or-append_seam}
use Rattle.std.proofs.lemmas.Option.{same_Some}
use Rattle.std.proofs.lemmas.Bool.{and_parts, and_from, leb-true, le-leb, lt-ltb, eqb-true, cond-true}
use Rattle.std.proofs.lemmas.List.Elements.{All-get_or}
use Rattle.std.proofs.lemmas.List.Sums.{position_or_len_is}
use Rattle.std.proofs.lemmas.List.Splits.{join_with_byte-slice_split, length-slice_split}
use Rattle.vault_state.proofs.FirstPart.{split_at_some}
use Rattle.vault_state.proofs.Lists.{chosen}
use Rattle.vault_protocol.specs.Limits.{last_connection}
use Rattle.vault_lines.specs.Reading.{◌>>=◌}
use Rattle.vault_lines.specs.Words.{number_in}
use Rattle.vault_protocol.specs.Script.{connection_in, numbered_line, connection_line}
use Rattle.vault_protocol.specs.Spelling.{ConnectionSpells, ConnectionAsSpelled}
use Rattle.vault_lines.proofs.Steps.{along, bind_some}
use Rattle.vault_lines.proofs.Numbers.{number_is}
use Rattle.vault_lines.proofs.WordsFound.{number_found}
use Rattle.vault_lines.proofs.WordsAgain.{in_number}

joined : (first : List ℕ) (others : List (List ℕ)) → 0 < length others → join_with_byte 32 (first ∷ others) ≡ first ++ 32 ∷ join_with_byte 32 others
joined first [] h = absurd (omega arith)
joined first (other ∷ others) h = refl

-- what stands round the first space
round_space : (bs : List ℕ) (at : ℕ) → position (λ b. b == 32) bs ≡ Some at → bs ≡ take at bs ++ 32 ∷ drop (at + 1) bs
round_space bs at e =
    let some : 0 < length (slice_split (λ b. b == 32) (drop (at + 1) bs)) = omega (arith, length-slice_split (λ b. b == 32) (drop (at + 1) bs)) in
    sym (join_with_byte-slice_split 32 bs)
    ∙ ap (join_with_byte 32) (split_at_some 32 bs at e)
    ∙ joined (take at bs) (slice_split (λ b. b == 32) (drop (at + 1) bs)) some
    ∙ ap (λ more. take at bs ++ 32 ∷ more) (join_with_byte-slice_split 32 (drop (at + 1) bs))

connection_found : (word : List ℕ) (n : ℕ) → connection_in word ≡ Some n → (1 ≤ n) × (n ≤ last_connection) × (word ≡ decimal n)
connection_found word n e =
    let number = bind_some (number_in word) _ n e in
    elim (chosen (nat_le 1 number.0 && nat_le number.0 last_connection) (Some number.0) None (Some n) number.2) [
      | inr h ↦ cc (h.1)
      | inl h ↦
          let tests = and_parts _ _ h.0 in
          along (λ m. (1 ≤ m) × (m ≤ last_connection) × (word ≡ decimal m)) (same_Some _ _ h.1)
          (leb-true _ _ tests.0, leb-true _ _ tests.1, (number_found word number.0 number.1).1)
    ]

numbered_found : (rest : List ℕ) (connection : ℕ) (said : List ℕ) → numbered_line rest ≡ Some (connection, said)
    → (1 ≤ connection) × (connection ≤ last_connection) × (rest ≡ decimal connection ++ 32 ∷ said)
numbered_found rest connection said e =
    let at = bind_some (position (λ b. b == 32) rest) _ (connection, said) e in
    let number = bind_some (connection_in (take at.0 rest)) _ (connection, said) at.2 in
    let found = connection_found (take at.0 rest) number.0 number.1 in
    along (λ (p : ℕ × List ℕ). (1 ≤ p.0) × (p.0 ≤ last_connection) × (rest ≡ decimal p.0 ++ 32 ∷ p.1)) (same_Some _ _ number.2)
    (found.0, found.1, round_space rest at.0 at.1 ∙ ap (λ w. w ++ 32 ∷ drop (at.0 + 1) rest) found.2)

line_found : (line : List ℕ) (connection : ℕ) (said : List ℕ) → connection_line line ≡ Some (connection, said) → ConnectionSpells line connection said
line_found [] connection said e = cc e
line_found (first ∷ rest) connection said e =
    elim (chosen (first == 64) (numbered_line rest) None (Some (connection, said)) e) [
      | inr h ↦ cc (h.1)
      | inl h ↦
          let found = numbered_found rest connection said h.1 in
          (found.0, found.1, ap (λ b. b ∷ rest) (eqb-true _ _ h.0) ∙ ap (λ bs. 64 ∷ bs) found.2)
    ]

connection_again : (n : ℕ) → 1 ≤ n → n ≤ last_connection → connection_in (decimal n) ≡ Some n
connection_again n first last =
    ap (λ number. number >>= λ m. cond (nat_le 1 m && nat_le m last_connection) (Some m) None) (number_is (decimal n) n (omega arith) refl)
    ∙ cond-true (nat_le 1 n && nat_le n last_connection) (Some n) None (and_from _ _ (le-leb _ _ first) (le-leb _ _ last))

-- the first space behind a number is the one that follows it
space_behind : (n : ℕ) (said : List ℕ) → n < 2 ^ 32 → position (λ b. b == 32) (decimal n ++ 32 ∷ said) ≡ Some (length (decimal n))
space_behind n said fits =
    let whole = decimal n ++ 32 ∷ said in
    let sizes = length-append (decimal n) (32 ∷ said) in
    let here : position_or_len (λ b. b == 32) whole ≡ length (decimal n) =
    position_or_len_is (λ b. b == 32) whole (length (decimal n)) 0 (omega (arith, sizes))
    (λ k below. rw (get_or-append (decimal n) (32 ∷ said) 0 k below) (All-get_or (λ b. (b == 32) ≡ false) (decimal n) k 0 below (in_number n fits)))
    (λ _. ap (λ b. b == 32) (get_or-append_seam (decimal n) 32 said 0)) in
    cond-true (nat_lt (position_or_len (λ b. b == 32) whole) (length whole)) (Some (position_or_len (λ b. b == 32) whole)) None (lt-ltb _ _ (omega (arith, here, sizes)))
    ∙ ap Some here

numbered_again : (n : ℕ) (said : List ℕ) → 1 ≤ n → n ≤ last_connection → numbered_line (decimal n ++ 32 ∷ said) ≡ Some (n, said)
numbered_again n said first last =
    let whole = decimal n ++ 32 ∷ said in
    ap (λ place. place >>= λ at. connection_in (take at whole) >>= λ c. Some (c, drop (at + 1) whole)) (space_behind n said (omega arith))
    ∙ ap (λ word. connection_in word >>= λ c. Some (c, drop (length (decimal n) + 1) whole)) (take-append_seam (decimal n) (32 ∷ said))
    ∙ ap (λ connection. connection >>= λ c. Some (c, drop (length (decimal n) + 1) whole)) (connection_again n first last)
    ∙ ap (λ rest. Some (n, rest)) (drop-append-add (decimal n) (32 ∷ said) 1)

line_again : (line : List ℕ) (connection : ℕ) (said : List ℕ) → ConnectionSpells line connection said → connection_line line ≡ Some (connection, said)
line_again line connection said h = ap connection_line h.2 ∙ numbered_again connection said h.0 h.1

pub connection_as_spelled : ConnectionAsSpelled
connection_as_spelled line connection said = (line_found line connection said, line_again line connection said)
