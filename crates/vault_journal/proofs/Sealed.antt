-- A record written behind the others, and the frame sealed again.
use Rattle.std.proofs.Common.{◌≡◌, ℕ, ◌+◌, ◌≤◌, List, [], ◌∷◌, ◌++◌, length, take, drop, sym, ◌∙◌, ap, subst, arith, append_assoc, length-append, length-drop}
use Rattle.std.proofs.lemmas.List.{take_at, drop-take, length-take-le, drop-append-le}
use Rattle.vault_device.specs.Disk.{overwritten}
use Rattle.vault_journal.specs.Spelling.{in_four}
use Rattle.vault_journal.specs.Gate.{body_of}

module _ (old new : List ℕ) (used : ℕ) (text : List ℕ) (mid : List ℕ)
    (is-mid : mid ≡ overwritten old (4 + used) (text ++ 0 ∷ [])) (is-new : new ≡ overwritten mid 0 (in_four (used + length text))) (room : used + length text + 5 ≤ length old) where
  abbrev before : List ℕ
  before = take used (drop 4 old)

  abbrev rest : List ℕ
  rest = drop (4 + used + length (text ++ 0 ∷ [])) old

  size : length before ≡ used
  size = length-take-le used (drop 4 old) (omega (arith, room, length-drop 4 old))

  mid_behind : drop 4 mid ≡ (before ++ text) ++ 0 ∷ rest
  mid_behind =
      ap (λ (l : List ℕ). drop 4 l) (is-mid ∙ append_assoc (take (4 + used) old) (text ++ 0 ∷ []) rest)
      ∙ drop-append-le 4 (take (4 + used) old) ((text ++ 0 ∷ []) ++ rest) (omega (arith, room, length-take-le (4 + used) old (omega (arith, room))))
      ∙ ap (λ (l : List ℕ). l ++ ((text ++ 0 ∷ []) ++ rest)) (drop-take 4 used old)
      ∙ ap (λ (l : List ℕ). before ++ l) (append_assoc text (0 ∷ []) rest)
      ∙ sym (append_assoc before text (0 ∷ rest))

  behind : drop 4 new ≡ (before ++ text) ++ 0 ∷ rest
  behind = ap (λ (l : List ℕ). drop 4 l) is-new ∙ mid_behind

  size_all : length (before ++ text) ≡ used + length text
  size_all = omega (arith, length-append before text, size)

  records_are : take (used + length text) (drop 4 new) ≡ before ++ text
  records_are = ap (λ (l : List ℕ). take (used + length text) l) behind ∙ take_at (before ++ text) (0 ∷ rest) (used + length text) size_all

  whole : new ≡ body_of (before ++ text) ++ rest
  whole =
      is-new
      ∙ ap (λ (l : List ℕ). in_four (used + length text) ++ l) mid_behind
      ∙ ap (λ (n : ℕ). in_four n ++ ((before ++ text) ++ 0 ∷ rest)) (sym size_all)
      ∙ ap (λ (l : List ℕ). in_four (length (before ++ text)) ++ l) (sym (append_assoc (before ++ text) (0 ∷ []) rest))
      ∙ sym (append_assoc (in_four (length (before ++ text))) ((before ++ text) ++ 0 ∷ []) rest)
      ∙ ap (λ (l : List ℕ). l ++ rest) (sym (append_assoc (in_four (length (before ++ text))) (before ++ text) (0 ∷ [])))

  sealed_is : take (used + length text + 5) new ≡ body_of (take (used + length text) (drop 4 new))
  sealed_is =
      ap (λ (l : List ℕ). take (used + length text + 5) l) whole
      ∙ take_at (body_of (before ++ text)) rest (used + length text + 5) (omega (arith, size_all, length-append (in_four (length (before ++ text)) ++ (before ++ text)) (0 ∷ []), length-append (in_four (length (before ++ text))) (before ++ text)))
      ∙ ap (λ (l : List ℕ). body_of l) (sym records_are)

-- both, where the length is written as it was counted
pub sealed_with : (old new : List ℕ) (used : ℕ) (text mid : List ℕ) (all : ℕ) → all ≡ used + length text → mid ≡ overwritten old (4 + used) (text ++ 0 ∷ []) → new ≡ overwritten mid 0 (in_four all) → used + length text + 5 ≤ length old
    → (take all (drop 4 new) ≡ take used (drop 4 old) ++ text) × (take (all + 5) new ≡ body_of (take all (drop 4 new)))
sealed_with old new used text mid all is-all is-mid is-new room =
    let written = subst (λ n. new ≡ overwritten mid 0 (in_four n)) is-all is-new in (
      ap (λ n. take n (drop 4 new)) is-all ∙ records_are old new used text mid is-mid written room,
      subst (λ n. take (n + 5) new ≡ body_of (take n (drop 4 new))) (sym is-all) (sealed_is old new used text mid is-mid written room),
    )
