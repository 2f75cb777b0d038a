-- The first of the lines that the program keeps.
use Rattle.std.proofs.Common.{◌≡◌, ℕ, suc, ◌<◌, ◌≤◌, true, false, List, [], ◌∷◌, length, ◌++◌, refl, sym, ap, ◌∙◌, arith, slice_index_or}
use Rattle.std.proofs.lemmas.List.{append-nil}
use Rattle.vault_protocol.specs.declared.waiting.Waiting.{Waiting}
use Rattle.vault_protocol.specs.declared.waiting.Waiting.TheVariants as waiting
use Rattle.vault_protocol.specs.Waiting.{line_of, lines_of}
use Rattle.vault_protocol.specs.Saying.{may_be_said, known_texts}

alone : {A : Type 0} (settled : ℕ) (first : Waiting A) (rest : List (Waiting A)) → may_be_said settled (line_of first ∷ []) ≡ may_be_said settled (lines_of (first ∷ rest))
alone settled (waiting.Known text) rest = refl
alone settled (waiting.Awaited connection ticket) rest = refl

pub first_line : {A : Type 0} (settled : ℕ) (items : List (Waiting A)) (first : Waiting A) (n : ℕ) → length items ≡ n → 0 < n → first ≡ slice_index_or items 0 first
    → may_be_said settled (line_of first ∷ []) ≡ may_be_said settled (lines_of items)
first_line settled [] first n many some is = absurd (omega arith)
first_line settled (x ∷ rest) first n many some is = ap (λ line. may_be_said settled (line_of line ∷ [])) is ∙ alone settled x rest

pub no_line : {A : Type 0} (settled : ℕ) (items : List (Waiting A)) (n : ℕ) → length items ≡ n → (0 < n → false ≡ true) → false ≡ may_be_said settled (lines_of items)
no_line settled [] n many h = refl
no_line settled (x ∷ rest) n many h = absurd (cc (h (omega arith)))

-- the text of the first line, if it is known, and of the others
pub known_first : {A : Type 0} (first : Waiting A) (rest : List (Waiting A))
    → known_texts (lines_of (first ∷ rest)) ≡ known_texts (line_of first ∷ []) ++ known_texts (lines_of rest)
known_first (waiting.Known text) rest = ap (λ front. front ++ known_texts (lines_of rest)) (sym (append-nil text))
known_first (waiting.Awaited connection ticket) rest = refl

-- when no line is left, all known texts are printed
pub all_known : {A : Type 0} (items : List (Waiting A)) (out all : List ℕ) (n : ℕ) → length items ≡ n → n ≡ 0 → out ++ known_texts (lines_of items) ≡ all → out ≡ all
all_known [] out all n many none is = sym (append-nil out) ∙ is
all_known (x ∷ rest) out all n many none is = absurd (omega arith)

pub one_fewer : {A : Type 0} (items rest : List A) (first : A) → items ≡ first ∷ rest → suc (length rest) ≤ length items
one_fewer items rest first is = let size : length items ≡ suc (length rest) = ap length is in omega (arith, size)
