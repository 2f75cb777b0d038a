-- Entries are dropped, the oldest first.
use Rattle.std.proofs.Common.{◌≡◌, ℕ, zero, suc, ◌+◌, ◌-◌, ◌≤◌, ◌<◌, Bool, true, false, cond, List, [], ◌∷◌, length, drop, Some, refl, sym, ap, ◌∙◌, arith, length-drop}
use Rattle.std.proofs.lemmas.Option.{same_Some}
use Rattle.std.proofs.lemmas.Bool.{cond-true}
use Rattle.group_commit.specs.declared.mark.Mark.{Mark}
use Rattle.group_commit.specs.declared.mark.Mark.TheVariants.{Open, Told, Forgotten}
use Rattle.group_commit.specs.Entries.{Kept, mark_at, with_mark}
use Rattle.group_commit.specs.World.{Retire}
use Rattle.group_commit.specs.View.{View, length_of, ViewAllows, view_acted}
use Rattle.group_commit.specs.Seen.{VaultSeen, snapshot_length, IsSoundView}
use Rattle.group_commit.specs.declared.answers.Retired.TheVariants as answers
use Rattle.group_commit.specs.Calls.{IsRetired}
use Rattle.vault_protocol.specs.Talk.{is_closed, free_in, retirings, all_gone}

-- the view after one entry was dropped
abbrev pub behind_one : View → View
behind_one v = view_acted snapshot_length v Retire

-- One entry.

open_is : (m : Mark) → is_closed m ≡ false → m ≡ Open
open_is Open e = refl
open_is Told e = cc e
open_is Forgotten e = cc e

-- the oldest entry, which is durable and closed
may_go : (v : View) (x : Kept) (rest : List Kept) (n : ℕ) → v.kept ≡ x ∷ rest → v.settled - v.retired ≡ suc n → is_closed x.mark ≡ true → ViewAllows snapshot_length v Retire
may_go v x rest n kept left closed =
    let settled : v.retired < v.settled = omega (arith, left) in
    (settled, λ unclosed. cc (sym closed ∙ ap is_closed (same_Some x.mark Open (sym (ap (λ (entries : List Kept). mark_at entries 0) kept) ∙ unclosed))))

one_more : (v : View) (n : ℕ) → v.settled - v.retired ≡ suc n → v.settled - (v.retired + 1) ≡ n
one_more v n left = omega (arith, left)

-- What dropping one entry (`Retire`) keeps, dropping all of them keeps.

module _ (Q : View → Type 0) (step : (v : View) → Q v → ViewAllows snapshot_length v Retire → Q (behind_one v)) where
  retirings_keep : (kept : List Kept) (n : ℕ) (v : View) → v.kept ≡ kept → v.settled - v.retired ≡ n → Q v → Q (retirings (free_in n kept) v)
  retirings_keep kept zero v e left q = q
  retirings_keep [] (suc n) v e left q = q
  retirings_keep (x ∷ rest) (suc n) v e left q = by_mark (λ next kept fewer holds. retirings_keep rest n next kept fewer holds) (is_closed x.mark) refl
    where
      by_mark : ((next : View) → next.kept ≡ rest → next.settled - next.retired ≡ n → Q next → Q (retirings (free_in n rest) next)) → (b : Bool) → is_closed x.mark ≡ b
          → Q (retirings (cond b (suc (free_in n rest)) 0) v)
      by_mark later true c = later (behind_one v) (ap (drop 1) e) (one_more v n left) (step v q (may_go v x rest n e left c))
      by_mark later false c = q

  pub all_gone_keeps : (v : View) → Q v → Q (all_gone v)
  unfolding all_gone
  all_gone_keeps v q = retirings_keep v.kept (v.settled - v.retired) v refl refl q

-- What it leaves.

drop_none : (n : ℕ) → ◌≡◌ {A = List Kept} (drop n []) []
drop_none zero = refl
drop_none (suc n) = refl

drop_more : (n : ℕ) (kept : List Kept) → drop n (drop 1 kept) ≡ drop (suc n) kept
drop_more n [] = drop_none n
drop_more n (x ∷ rest) = refl

-- the oldest entries are gone, and the base is another; nothing else changes
went : (n : ℕ) (v : View) → retirings n v ≡ record v { base = (retirings n v).base; kept = drop n v.kept; retired = v.retired + n }
went zero v = let number : v.retired ≡ v.retired + 0 = omega arith in λ i. record v { retired = number i }
went (suc n) v =
    let base = (retirings n (behind_one v)).base in
    let number : v.retired + 1 + n ≡ v.retired + suc n = omega arith in
    went n (behind_one v) ∙ (λ i. record v { base = base; kept = drop_more n v.kept i; retired = number i })

-- the first entries are closed
abbrev pub AreClosed : ℕ → List Kept → Type 0
AreClosed zero kept = Unit {0}
AreClosed (suc n) [] = ⊥
AreClosed (suc n) (x ∷ rest) = (is_closed x.mark ≡ true) × AreClosed n rest

all_free : (n : ℕ) (kept : List Kept) → AreClosed n kept → free_in n kept ≡ n
all_free zero kept c = refl
all_free (suc n) [] c = absurd c
all_free (suc n) (x ∷ rest) c = cond-true (is_closed x.mark) (suc (free_in n rest)) 0 c.0 ∙ ap suc (all_free n rest c.1)

pub closed_few : (n : ℕ) (kept : List Kept) → AreClosed n kept → n ≤ length kept
closed_few zero kept c = omega arith
closed_few (suc n) [] c = absurd c
closed_few (suc n) (x ∷ rest) c = let fewer : n ≤ length rest = closed_few n rest c.1 in omega (arith, fewer)

-- one more is closed, once it is acknowledged
pub closed_more : (n : ℕ) (kept : List Kept) → AreClosed n kept → mark_at kept n ≡ Some Open → AreClosed (suc n) (with_mark Told kept n)
closed_more zero [] c unclosed = cc unclosed
closed_more zero (x ∷ rest) c unclosed = (refl, tt)
closed_more (suc n) [] c unclosed = absurd c
closed_more (suc n) (x ∷ rest) c unclosed = (c.0, closed_more n rest c.1 unclosed)

-- if all durable entries are closed, all of them are dropped
pub settled_gone : (v : View) → AreClosed (v.settled - v.retired) v.kept → let n = v.settled - v.retired in
    all_gone v ≡ record v { base = (all_gone v).base; kept = drop n v.kept; retired = v.retired + n }
unfolding all_gone
settled_gone v c = by_count (free_in (v.settled - v.retired) v.kept) (all_free (v.settled - v.retired) v.kept c)
  where
    by_count : (free : ℕ) → free ≡ v.settled - v.retired → let n = v.settled - v.retired in
        retirings free v ≡ record v { base = (retirings free v).base; kept = drop n v.kept; retired = v.retired + n }
    by_count free is = went free v ∙ (λ i. record v { base = (retirings free v).base; kept = drop (is i) v.kept; retired = v.retired + is i })

-- the number of entries of the life stays, and the number of acknowledged ones
pub same_length : (v : View) → v.retired ≤ v.settled → AreClosed (v.settled - v.retired) v.kept → length_of (all_gone v) ≡ length_of v
same_length v order c =
    let few : v.settled - v.retired ≤ length v.kept = closed_few (v.settled - v.retired) v.kept c in
    let size = length-drop (v.settled - v.retired) v.kept in
    ap length_of (settled_gone v c) ∙ omega (arith, few, size)

-- One call.

-- after the oldest entry was dropped, the same entries as before may still be dropped
goes_on : (kept : List Kept) (n : ℕ) (v : View) → v.kept ≡ kept → v.settled - v.retired ≡ n → v.settled ≤ length_of v → ViewAllows snapshot_length v Retire
    → retirings (free_in (v.settled - (v.retired + 1)) (drop 1 v.kept)) (behind_one v) ≡ retirings (free_in n kept) v
goes_on kept zero v e left within may = let settled : v.retired < v.settled = may.0 in absurd (omega (arith, left, settled))
goes_on [] (suc n) v e left within may =
    let none : length v.kept ≡ 0 = ap length e in
    let settled : v.retired < v.settled = may.0 in
    let few : v.settled ≤ v.retired + length v.kept = within in
    absurd (omega (arith, none, settled, few))
goes_on (x ∷ rest) (suc n) v e left within may = by_mark (is_closed x.mark) refl
  where
    by_mark : (b : Bool) → is_closed x.mark ≡ b
        → retirings (free_in (v.settled - (v.retired + 1)) (drop 1 v.kept)) (behind_one v) ≡ retirings (cond b (suc (free_in n rest)) 0) v
    by_mark true c = let fewer = one_more v n left in let others = ap (drop 1) e in λ i. retirings (free_in (fewer i) (others i)) (behind_one v)
    by_mark false c = absurd (may.1 (ap (λ (entries : List Kept). mark_at entries 0) e ∙ ap Some (open_is x.mark c)))

-- none may be dropped
stays : (kept : List Kept) (n : ℕ) (v : View) → v.kept ≡ kept → v.settled - v.retired ≡ n → (ViewAllows snapshot_length v Retire → ⊥) → retirings (free_in n kept) v ≡ v
stays kept zero v e left may_not = refl
stays [] (suc n) v e left may_not = refl
stays (x ∷ rest) (suc n) v e left may_not = by_mark (is_closed x.mark) refl
  where
    by_mark : (b : Bool) → is_closed x.mark ≡ b → retirings (cond b (suc (free_in n rest)) 0) v ≡ v
    by_mark true c = absurd (may_not (may_go v x rest n e left c))
    by_mark false c = refl

module _ {D : Type 0} (old new : VaultSeen D) (sound : IsSoundView old.view) where
  pub one_gone : IsRetired old new answers.One → all_gone new.view ≡ all_gone old.view
  unfolding all_gone
  one_gone r =
      ap (λ (seen : VaultSeen D). all_gone seen.view) r.1
      ∙ goes_on old.view.kept (old.view.settled - old.view.retired) old.view refl refl sound.order.settled_all r.0

  pub one_fewer : IsRetired old new answers.One → length new.view.kept < length old.view.kept
  one_fewer r =
      let settled : old.view.retired < old.view.settled = r.0.0 in
      let few : old.view.settled ≤ old.view.retired + length old.view.kept = sound.order.settled_all in
      let size = length-drop 1 old.view.kept in
      let same : length new.view.kept ≡ length (drop 1 old.view.kept) = ap (λ (seen : VaultSeen D). length seen.view.kept) r.1 in
      omega (arith, settled, few, size, same)

  pub none_gone : IsRetired old new answers.Nothing → new.view ≡ all_gone old.view
  unfolding all_gone
  none_gone r =
      ap (λ (seen : VaultSeen D). seen.view) r.0
      ∙ sym (stays old.view.kept (old.view.settled - old.view.retired) old.view refl refl r.1)
