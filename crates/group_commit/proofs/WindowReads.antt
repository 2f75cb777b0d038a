-- What is read of the kept entries.
use Rattle.std.proofs.Common.{◌≡◌, ℕ, zero, suc, ◌<◌, ◌≤◌, List, [], ◌∷◌, length, drop, Result, Ok, Err, None, Some, IfOk, refl, ap, ◌∙◌, arith}
use Rattle.std.specs.Prelude.{false, true, slice_get, slice_index_or}
use Rattle.vault_model.specs.Said.{Reply}
use Rattle.group_commit.specs.declared.mark.Mark.{Mark}
use Rattle.group_commit.specs.Entries.{Kept, mark_at}

pub mark_read : (m : Mark) (l : List Kept) (p n : ℕ) (k : Kept) → length l ≡ n → p < n → k ≡ slice_index_or l p k → m ≡ k.mark → Some m ≡ mark_at l p
mark_read m [] p n k many below is same = absurd (omega arith)
mark_read m (x ∷ xs) zero n k many below is same = ap Some (same ∙ ap (λ (e : Kept). e.mark) is)
mark_read m (x ∷ xs) (suc p) n k many below is same = mark_read m xs p (length xs) k refl (omega arith) is same

-- behind the last entry there is no mark
pub no_mark : (l : List Kept) (p n : ℕ) → length l ≡ n → (p < n → false ≡ true) → None ≡ mark_at l p
no_mark [] p n many h = refl
no_mark (x ∷ xs) zero n many h = absurd (cc (h (omega arith)))
no_mark (x ∷ xs) (suc p) n many h = no_mark xs p (length xs) refl (λ (b : p < length xs). h (omega arith))

read_is : (l : List Kept) (p : ℕ) (k kept : Kept) → k ≡ slice_index_or l p k → slice_get l p ≡ Some kept → k ≡ kept
read_is [] p k kept is at = absurd (cc)
read_is (x ∷ xs) zero k kept is at = cc
read_is (x ∷ xs) (suc p) k kept is at = read_is xs p k kept is at

pub reply_read : {E : Type 0} (o : Result Reply E) (l : List Kept) (p : ℕ) (k : Kept) → IfOk o (λ r. r ≡ k.entry.reply) → k ≡ slice_index_or l p k
    → IfOk o (λ r. (kept : Kept) → slice_get l p ≡ Some kept → r ≡ kept.entry.reply)
reply_read (Ok r) l p k same is = λ kept at. same ∙ ap (λ (e : Kept). e.entry.reply) (read_is l p k kept is at)
reply_read (Err e) l p k same is = tt

pub fewer_rest : (l : List Kept) (n : ℕ) → length l ≤ n → length (drop 1 l) ≤ n
fewer_rest [] n few = few
fewer_rest (x ∷ xs) n few = omega arith
