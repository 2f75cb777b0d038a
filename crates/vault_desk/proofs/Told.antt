-- Answers are given, written and counted one by one.
use Rattle.std.proofs.Common.{◌≡◌, ◌≢◌, ℕ, ◌+◌, List, [], ◌∷◌, ◌++◌, ap, ◌∙◌, refl, subst, arith, append-nil, Option, sum_by, inl}
use Rattle.std.specs.Io.KnownBytes.{Appends}
use Rattle.std.proofs.lemmas.Grind.{flat_map-append}
use Rattle.std.proofs.lemmas.List.Sums.{sum_by-append}
use Rattle.vault_desk.specs.Serving.{IsOf, SpeaksFor, session_of, session_after, text_of, texts_of, IsLeft, EndsWithLeft, NoneLeft, WritesAll, QuitsBy, CountsOne, CountsWith, is_told, is_broken}
use Rattle.vault_desk.specs.declared.report.Out.{Out}
use Rattle.vault_desk.specs.declared.report.Ended.{Ended}
use Rattle.vault_desk.specs.declared.report.Ended.TheVariants as ends
use Rattle.vault_desk.specs.declared.tally.Totals.{Totals}

-- one answer more is of the session that the connection speaks for
pub speaks_more : {A : Type 0} (session : ℕ) (outs : List (Out A)) (out : Out A) → SpeaksFor session outs → IsOf (session_of session outs) out → SpeaksFor session (outs ++ out ∷ [])
speaks_more session [] out all here = (here, tt)
speaks_more session (o ∷ outs) out all here = (all.0, speaks_more (session_after session o) outs out all.1 here)

-- the session after it
pub session_more : {A : Type 0} (session : ℕ) (outs : List (Out A)) (out : Out A) → session_of session (outs ++ out ∷ []) ≡ session_after (session_of session outs) out
session_more session [] out = refl
session_more session (o ∷ outs) out = session_more (session_after session o) outs out

-- the texts of the answers with the last one
pub texts_more : {A : Type 0} (before : List (Out A)) (last : Out A) → texts_of (before ++ last ∷ []) ≡ texts_of before ++ text_of last
texts_more before last = flat_map-append text_of before (last ∷ []) ∙ ap (λ l. texts_of before ++ l) (append-nil (text_of last))

-- it is counted
pub counts_more : {A : Type 0} (a b c : Totals) (outs : List (Out A)) (out : Out A) → CountsWith a outs 0 b → CountsOne b out c → CountsWith a (outs ++ out ∷ []) 0 c
counts_more a b c outs out old new =
    let told : sum_by is_told (outs ++ out ∷ []) ≡ sum_by is_told outs + sum_by is_told (out ∷ []) = sum_by-append is_told outs (out ∷ []) in
    let broken : sum_by is_broken (outs ++ out ∷ []) ≡ sum_by is_broken outs + sum_by is_broken (out ∷ []) = sum_by-append is_broken outs (out ∷ []) in
    record {
      told = omega (arith, told, old.told, new.told);
      least = omega (arith, told, old.least, new.least);
      most = omega (arith, told, broken, old.most, new.most);
    }

-- it is no receipt of a leave, like the others
pub none_left_more : {A : Type 0} (outs : List (Out A)) (out : Out A) → NoneLeft outs → (IsLeft out → ⊥) → NoneLeft (outs ++ out ∷ [])
none_left_more [] out none here = (here, tt)
none_left_more (o ∷ outs) out none here = (none.0, none_left_more outs out none.1 here)

last_not_left : {A : Type 0} (before : List (Out A)) (out : Out A) → NoneLeft (before ++ out ∷ []) → IsLeft out → ⊥
last_not_left [] out none left = none.0 left
last_not_left (o ∷ before) out none left = last_not_left before out none.1 left

-- so the last one isn't
pub not_ended_left : {A : Type 0} (outs : List (Out A)) → NoneLeft outs → EndsWithLeft outs → ⊥
not_ended_left outs none ended =
    let (before, out, split, left) = ended in
    last_not_left before out (subst NoneLeft split none) left

-- a conversation that ends otherwise than with a leave or a failed writer has written all
pub writes_whole : {A : Type 0} (ended : Ended) (a b : Option (List ℕ)) (outs : List (Out A)) → Appends a b (texts_of outs) → NoneLeft outs → (ended ≢ ends.Quit) × (ended ≢ ends.Write) → WritesAll ended a b outs
writes_whole ends.Quit a b outs written none other = absurd (other.0 refl)
writes_whole ends.Write a b outs written none other = absurd (other.1 refl)
writes_whole ends.NoMemory a b outs written none other = inl (written, not_ended_left outs none)
writes_whole ends.EndOfInput a b outs written none other = written
writes_whole ends.Read a b outs written none other = written
writes_whole ends.Limit a b outs written none other = written

-- and no leave is last
pub quits_without : {A : Type 0} (ended : Ended) (outs : List (Out A)) → NoneLeft outs → (ended ≢ ends.Quit) × (ended ≢ ends.Write) → QuitsBy ended outs
quits_without ends.Quit outs none other = absurd (other.0 refl)
quits_without ends.Write outs none other = tt
quits_without ends.NoMemory outs none other = tt
quits_without ends.EndOfInput outs none other = not_ended_left outs none
quits_without ends.Read outs none other = not_ended_left outs none
quits_without ends.Limit outs none other = not_ended_left outs none
