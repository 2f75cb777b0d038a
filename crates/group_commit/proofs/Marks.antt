-- Marks of entries.
use Rattle.std.proofs.Common.{◌≡◌, ◌≢◌, ℕ, zero, suc, ◌+◌, ◌-◌, ◌≤◌, ◌<◌, List, [], ◌∷◌, ◌++◌, length, take, drop, Some, refl, sym, ap, ◌∙◌, arith}
use Rattle.std.specs.Prelude.{cond, Bool, true, false, get_or, set, slice_get}
use Rattle.group_commit.specs.declared.mark.Mark.{Mark}
use Rattle.group_commit.specs.declared.mark.Mark.TheVariants.{Open, Told, Forgotten}
use Rattle.group_commit.specs.Entries.{Entry, Kept, opened, mark_at, with_mark, is_told, told_in}
use Rattle.group_commit.specs.History.{Given, members}
use Rattle.group_commit.proofs.Folds.{sub_zero, sub_suc}

pub members-with_mark : (m : Mark) (l : List Kept) (p : ℕ) → members (with_mark m l p) ≡ members l
members-with_mark m [] p = refl
members-with_mark m (x ∷ xs) zero = refl
members-with_mark m (x ∷ xs) (suc p) = ap (λ l. Given x.entry ∷ l) (members-with_mark m xs p)

pub length-with_mark : (m : Mark) (l : List Kept) (p : ℕ) → length (with_mark m l p) ≡ length l
length-with_mark m [] p = refl
length-with_mark m (x ∷ xs) zero = refl
length-with_mark m (x ∷ xs) (suc p) = ap suc (length-with_mark m xs p)

pub mark_same : (m : Mark) (l : List Kept) (p : ℕ) → p < length l → mark_at (with_mark m l p) p ≡ Some m
mark_same m [] p h = absurd (omega arith)
mark_same m (x ∷ xs) zero h = refl
mark_same m (x ∷ xs) (suc p) h = mark_same m xs p (omega arith)

pub mark_other : (m : Mark) (l : List Kept) (p q : ℕ) → q ≢ p → mark_at (with_mark m l p) q ≡ mark_at l q
mark_other m [] p q h = refl
mark_other m (x ∷ xs) zero zero h = absurd (h refl)
mark_other m (x ∷ xs) zero (suc q) h = refl
mark_other m (x ∷ xs) (suc p) zero h = refl
mark_other m (x ∷ xs) (suc p) (suc q) h = mark_other m xs p q (λ e. h (ap suc e))

pub mark_below : (l : List Kept) (p : ℕ) (m : Mark) → mark_at l p ≡ Some m → p < length l
mark_below [] p m h = absurd (cc)
mark_below (x ∷ xs) zero m h = omega arith
mark_below (x ∷ xs) (suc p) m h = let k : p < length xs = mark_below xs p m h in omega arith

pub mark_front : (l more : List Kept) (p : ℕ) → p < length l → mark_at (l ++ more) p ≡ mark_at l p
mark_front [] more p h = absurd (omega arith)
mark_front (x ∷ xs) more zero h = refl
mark_front (x ∷ xs) more (suc p) h = mark_front xs more p (omega arith)

-- an entry behind all others is open
pub told_before : (l : List Kept) (e : Entry) (p : ℕ) → mark_at (l ++ opened e ∷ []) p ≡ Some Told → mark_at l p ≡ Some Told
told_before [] e zero h = absurd (cc)
told_before [] e (suc p) h = h
told_before (x ∷ xs) e zero h = h
told_before (x ∷ xs) e (suc p) h = told_before xs e p h

pub mark_drop : (l : List Kept) (r p : ℕ) → r ≤ p → mark_at (drop r l) (p - r) ≡ mark_at l p
mark_drop l zero p h = ap (mark_at l) (sub_zero p)
mark_drop [] (suc r) p h = refl
mark_drop (x ∷ xs) (suc r) zero h = absurd (omega arith)
mark_drop (x ∷ xs) (suc r) (suc p) h = ap (mark_at (drop r xs)) (sub_suc p r) ∙ mark_drop xs r p (omega arith)

pub drop-with_mark : (m : Mark) (l : List Kept) (r p : ℕ) → r ≤ p → drop r (with_mark m l p) ≡ with_mark m (drop r l) (p - r)
drop-with_mark m l zero p h = ap (with_mark m l) (sym (sub_zero p))
drop-with_mark m [] (suc r) p h = refl
drop-with_mark m (x ∷ xs) (suc r) zero h = absurd (omega arith)
drop-with_mark m (x ∷ xs) (suc r) (suc p) h = drop-with_mark m xs r p (omega arith) ∙ ap (with_mark m (drop r xs)) (sym (sub_suc p r))

pub take-with_mark : (m : Mark) (l : List Kept) (r p : ℕ) → members (take r (with_mark m l p)) ≡ members (take r l)
take-with_mark m l zero p = refl
take-with_mark m [] (suc r) p = refl
take-with_mark m (x ∷ xs) (suc r) zero = refl
take-with_mark m (x ∷ xs) (suc r) (suc p) = ap (λ l. Given x.entry ∷ l) (take-with_mark m xs r p)

told_of_open : (k : Kept) → Some k.mark ≡ Some Open → ◌≡◌ {A = ℕ} (cond (is_told k.mark) 1 0) 0
told_of_open k h = ap (λ m. cond (is_told m) 1 0) (some_inj h)
  where
    some_inj : {m n : Mark} → Some m ≡ Some n → m ≡ n
    some_inj e = cc

pub told_one_more : (l : List Kept) (p : ℕ) → mark_at l p ≡ Some Open → told_in (with_mark Told l p) ≡ told_in l + 1
told_one_more [] p h = absurd (cc)
told_one_more (x ∷ xs) zero h = let e : ◌≡◌ {A = ℕ} (cond (is_told x.mark) 1 0) 0 = told_of_open x h in omega arith
told_one_more (x ∷ xs) (suc p) h = let e : told_in (with_mark Told xs p) ≡ told_in xs + 1 = told_one_more xs p h in omega arith

pub told_same : (l : List Kept) (p : ℕ) → mark_at l p ≡ Some Open → told_in (with_mark Forgotten l p) ≡ told_in l
told_same [] p h = absurd (cc)
told_same (x ∷ xs) zero h = let e : ◌≡◌ {A = ℕ} (cond (is_told x.mark) 1 0) 0 = told_of_open x h in omega arith
told_same (x ∷ xs) (suc p) h = ap (λ n. cond (is_told x.mark) 1 0 + n) (told_same xs p h)

pub told_open : (l : List Kept) (e : Entry) → told_in (l ++ opened e ∷ []) ≡ told_in l
told_open [] e = refl
told_open (x ∷ xs) e = ap (λ n. cond (is_told x.mark) 1 0 + n) (told_open xs e)

-- a write of a mark at an element that was read
pub set_is_marked : (m : Mark) (l : List Kept) (p : ℕ) (k : Kept) → p < length l → k ≡ get_or l p k → set l p (record { entry = k.entry; mark = m }) ≡ with_mark m l p
set_is_marked m [] p k h e = absurd (omega arith)
set_is_marked m (x ∷ xs) zero k h e = λ i. (record { entry = (e i).entry; mark = m }) ∷ xs
set_is_marked m (x ∷ xs) (suc p) k h e = ap (λ l. x ∷ l) (set_is_marked m xs p k (omega arith) e)

pub at_most_one : (b : Bool) → ◌≤◌ (cond b 1 0) 1
at_most_one true = omega arith
at_most_one false = omega arith

told_at_most : (l : List Kept) → told_in l ≤ length l
told_at_most [] = omega arith
told_at_most (x ∷ xs) = let k : told_in xs ≤ length xs = told_at_most xs in let one = at_most_one (is_told x.mark) in omega arith

-- an open entry isn't acknowledged
pub told_below_length : (l : List Kept) (p : ℕ) → mark_at l p ≡ Some Open → told_in l < length l
told_below_length [] p h = absurd (cc)
told_below_length (x ∷ xs) zero h = let e : ◌≡◌ {A = ℕ} (cond (is_told x.mark) 1 0) 0 = told_of_open x h in let k : told_in xs ≤ length xs = told_at_most xs in omega arith
told_below_length (x ∷ xs) (suc p) h = let k : told_in xs < length xs = told_below_length xs p h in let one = at_most_one (is_told x.mark) in omega arith

-- an entry with a mark stands
pub entry_there : (l : List Kept) (p : ℕ) (m : Mark) → mark_at l p ≡ Some m → (k : Kept) × (slice_get l p ≡ Some k)
entry_there [] p m h = absurd (cc)
entry_there (x ∷ xs) zero m h = (x, refl)
entry_there (x ∷ xs) (suc p) m h = entry_there xs p m h
