-- Drafts of one check-out: found by place, put in, weighed.
use Rattle.std.specs.Prelude.{◌≡◌, ℕ, zero, suc, ◌<◌, ◌≤◌, nat_lt, Bool, true, false, List, [], ◌∷◌, ◌++◌, length, take, drop, filter, slice_set, slice_index_or, insert, if◌then◌else◌, is_ok, Result, Ok, Err, OnOk, refl}
use Rattle.std.specs.List.{AllByRecursion, AllWithin, HoldsAt}
use Rattle.std.specs.List.Sorted.{IsNonDecreasingBy, IsPartitionPoint}
use Rattle.std.specs.Ordering.{nat_cmp, ordering_index}
use Rattle.std.proofs.Common.{arith, ap, sym, subst, cond, ◌∙◌, ◌-◌, ◌+◌, add-one, sub-one, get_or, Less, Equal, Greater}
use Rattle.std.proofs.lemmas.Cmp.{ranked}
use Rattle.std.proofs.lemmas.List.{get_or_default}
use Rattle.std.proofs.lemmas.List.Elements.{All-filter, All-from_recursion, recursion_from_All}
use Rattle.std.proofs.lemmas.List.Sorted.{IsNonDecreasingBy-from_default}
use Rattle.std.proofs.lemmas.Bool.Decides.{nat_tests}
use Rattle.vault_state.specs.Shelf.{Draft}
use Rattle.vault_state.proofs.Lists.{filter_passes}
use Rattle.check_outs.specs.CheckOuts.{IsRising, with_own}

-- a test that holds up to an index, and not from there on, cuts the list there
filter_front : {X : Type 0} (p : X → Bool) (xs : List X) (i : ℕ) → AllWithin (λ x. p x ≡ true) xs 0 i → AllWithin (λ x. p x ≡ false) xs i (length xs) → filter p xs ≡ take i xs
filter_front p [] zero inside beyond = refl
filter_front p [] (suc i) inside beyond = refl
filter_front p (x ∷ xs) zero inside beyond = rw (beyond 0 x (omega arith) (omega arith)) (filter_front p xs zero (λ k d low high. absurd (omega arith)) (λ k d low high. beyond (suc k) d (omega arith) (omega arith)))
filter_front p (x ∷ xs) (suc i) inside beyond = rw (inside 0 x (omega arith) (omega arith)) (ap (λ rest. x ∷ rest) (filter_front p xs i (λ k d low high. inside (suc k) d (omega arith) (omega arith)) (λ k d low high. beyond (suc k) d (omega arith) (omega arith))))

filter_back : {X : Type 0} (p : X → Bool) (xs : List X) (i : ℕ) → AllWithin (λ x. p x ≡ false) xs 0 i → AllWithin (λ x. p x ≡ true) xs i (length xs) → filter p xs ≡ drop i xs
filter_back p [] zero beyond inside = refl
filter_back p [] (suc i) beyond inside = refl
filter_back p (x ∷ xs) zero beyond inside = rw (inside 0 x (omega arith) (omega arith)) (ap (λ rest. x ∷ rest) (filter_back p xs zero (λ k d low high. absurd (omega arith)) (λ k d low high. inside (suc k) d (omega arith) (omega arith))))
filter_back p (x ∷ xs) (suc i) beyond inside = rw (beyond 0 x (omega arith) (omega arith)) (filter_back p xs i (λ k d low high. beyond (suc k) d (omega arith) (omega arith)) (λ k d low high. inside (suc k) d (omega arith) (omega arith)))

-- rising places, by index
later_at : (place : ℕ) (xs : List Draft) → AllByRecursion (λ (y : Draft). nat_lt place y.place ≡ true) xs → (j : ℕ) (d : Draft) → j < length xs → place < (slice_index_or xs j d).place
later_at place [] all j d high = absurd (omega arith)
later_at place (x ∷ xs) all zero d high = let less = all.0 in grind (arith, nat_tests, less)
later_at place (x ∷ xs) all (suc j) d high = later_at place xs all.1 j d (omega arith)

pub rising_at : (xs : List Draft) → IsRising xs → (i j : ℕ) (d : Draft) → i < j → j < length xs → (slice_index_or xs i d).place < (slice_index_or xs j d).place
rising_at [] rising i j d low high = absurd (omega arith)
rising_at (x ∷ xs) rising zero (suc j) d low high = later_at x.place xs rising.0 j d (omega arith)
rising_at (x ∷ xs) rising (suc i) (suc j) d low high = rising_at xs rising.1 i j d (omega arith) (omega arith)
rising_at (x ∷ xs) rising i zero d low high = absurd (omega arith)

-- one more after the last
above_more : (place : ℕ) (xs : List Draft) (i : ℕ) (d : Draft) → suc i < length xs → (slice_index_or xs i d).place < (slice_index_or xs (suc i) d).place
    → AllByRecursion (λ (y : Draft). nat_lt place y.place ≡ true) (take (suc i) xs) → AllByRecursion (λ (y : Draft). nat_lt place y.place ≡ true) (take (suc (suc i)) xs)
above_more place [] i d high less all = absurd (omega arith)
above_more place (x ∷ []) i d high less all = absurd (omega (arith, high))
above_more place (x ∷ y ∷ xs) zero d high less all = (all.0, (let here = all.0 in grind (arith, nat_tests, here, less), tt))
above_more place (x ∷ y ∷ xs) (suc i) d high less all = (all.0, above_more place (y ∷ xs) i d (omega (arith, high)) less all.1)

pub rising_more : (xs : List Draft) (i : ℕ) (d : Draft) → suc i < length xs → (slice_index_or xs i d).place < (slice_index_or xs (suc i) d).place → IsRising (take (suc i) xs) → IsRising (take (suc (suc i)) xs)
rising_more [] i d high less rising = absurd (omega arith)
rising_more (x ∷ []) i d high less rising = absurd (omega (arith, high))
rising_more (x ∷ y ∷ xs) zero d high less rising = ((grind (arith, nat_tests, less), tt), (tt, tt))
rising_more (x ∷ y ∷ xs) (suc i) d high less rising = (above_more x.place (y ∷ xs) i d (omega (arith, high)) less rising.0, rising_more (y ∷ xs) i d (omega (arith, high)) less rising.1)

-- the same for a draft and the one before it
pub rises_at : (xs : List Draft) (i : ℕ) (x y : Draft) → 1 ≤ i → i < length xs → x ≡ get_or xs i x → y ≡ get_or xs (i - 1) y → IsRising xs → y.place < x.place
rises_at xs zero x y low high at_x at_y rising = absurd (omega (arith, low))
rises_at xs (suc i) x y low high at_x at_y rising =
    let first : y ≡ get_or xs i x = at_y ∙ rw sub-one (get_or_default xs i y x (omega (arith, high))) in
    let rise = rising_at xs rising i (suc i) x (omega arith) high in
    subst (λ (d : Draft). d.place < x.place) (sym first) (subst (λ (d : Draft). (slice_index_or xs i x).place < d.place) (sym at_x) rise)

pub rising_next : (xs : List Draft) (i : ℕ) (x y : Draft) → 1 ≤ i → i < length xs → x ≡ get_or xs i x → y ≡ get_or xs (i - 1) y → y.place < x.place → IsRising (take i xs) → IsRising (take (i + 1) xs)
rising_next xs zero x y low high at_x at_y less rising = absurd (omega (arith, low))
rising_next xs (suc i) x y low high at_x at_y less rising =
    let first : y ≡ get_or xs i x = at_y ∙ rw sub-one (get_or_default xs i y x (omega (arith, high))) in
    let rise : (slice_index_or xs i x).place < (slice_index_or xs (suc i) x).place = subst (λ (d : Draft). (slice_index_or xs i x).place < d.place) at_x (subst (λ (d : Draft). d.place < x.place) first less) in
    let more = rising_more xs i x high rise rising in
    rw add-one more

set_is : (xs : List Draft) (i : ℕ) (new : Draft) → i < length xs → slice_set xs i new ≡ take i xs ++ new ∷ drop (suc i) xs
set_is [] i new high = absurd (omega arith)
set_is (x ∷ xs) zero new high = refl
set_is (x ∷ xs) (suc i) new high = ap (λ rest. x ∷ rest) (set_is xs i new (omega arith))

module _ (xs : List Draft) (rising : IsRising xs) (new : Draft) where
  not_before : (i j : ℕ) (d : Draft) → i ≤ j → j < length xs → (slice_index_or xs i d).place ≤ (slice_index_or xs j d).place
  not_before i j d low high = by_cases (nat_lt i j) refl
    where
      by_cases : (b : Bool) → nat_lt i j ≡ b → (slice_index_or xs i d).place ≤ (slice_index_or xs j d).place
      by_cases true e = let less : i < j = grind (arith, nat_tests, e) in let rise = rising_at xs rising i j d less high in omega arith
      by_cases false e = let same : i ≡ j = grind (arith, nat_tests, e) in subst (λ k. (slice_index_or xs i d).place ≤ (slice_index_or xs k d).place) same (omega arith)

  -- a draft of the place is written over
  pub written_over : (i : ℕ) → i < length xs → HoldsAt (λ (y : Draft). nat_cmp y.place new.place ≡ Equal) xs i → slice_set xs i new ≡ with_own xs new
  written_over i high equal =
      set_is xs i new high
      ∙ ap (λ front. front ++ new ∷ drop (suc i) xs) (sym (filter_front (λ (x : Draft). nat_lt x.place new.place) xs i
      (λ k d low less. let here = ranked _ new.place _ (sym (equal d)) in let before = rising_at xs rising k i d less high in grind (arith, nat_tests))
      (λ k d low less. let here = ranked _ new.place _ (sym (equal d)) in by_place k d low less here)))
      ∙ ap (λ back. filter (λ (x : Draft). nat_lt x.place new.place) xs ++ new ∷ back) (sym (filter_back (λ (x : Draft). nat_lt new.place x.place) xs (suc i)
      (λ k d low less. let here = ranked _ new.place _ (sym (equal d)) in by_low k d less here)
      (λ k d low less. let here = ranked _ new.place _ (sym (equal d)) in let after = rising_at xs rising i k d (omega arith) less in grind (arith, nat_tests))))
    where
      by_place : (k : ℕ) (d : Draft) → i ≤ k → k < length xs → (slice_index_or xs i d).place ≡ new.place → nat_lt (slice_index_or xs k d).place new.place ≡ false
      by_place k d low less here = let no_less = not_before i k d low less in grind (arith, nat_tests)

      by_low : (k : ℕ) (d : Draft) → k < suc i → (slice_index_or xs i d).place ≡ new.place → nat_lt new.place (slice_index_or xs k d).place ≡ false
      by_low k d less here = let no_more = not_before k i d (omega arith) high in grind (arith, nat_tests)

  comparisons_rise : IsNonDecreasingBy (λ (y : Draft). ordering_index (nat_cmp y.place new.place)) xs
  comparisons_rise = IsNonDecreasingBy-from_default (λ (y : Draft). ordering_index (nat_cmp y.place new.place)) xs new (λ i j le in_range. let rise = not_before i j new le in_range in grind (arith, nat_tests))

  -- a draft of another place is put where it belongs
  pub put_in : (i : ℕ) → (IsNonDecreasingBy (λ (y : Draft). ordering_index (nat_cmp y.place new.place)) xs → IsPartitionPoint (λ (y : Draft). nat_cmp y.place new.place ≡ Less) (λ (y : Draft). nat_cmp y.place new.place ≡ Greater) xs i) → insert xs i new ≡ with_own xs new
  put_in i parted =
      let parts = parted comparisons_rise in
      ap (λ front. front ++ new ∷ drop i xs) (sym (filter_front (λ (x : Draft). nat_lt x.place new.place) xs i
      (λ k d low less. let here = ranked _ new.place _ (sym (parts.0 k d low less)) in grind (arith, nat_tests))
      (λ k d low less. let here = ranked _ new.place _ (sym (parts.1 k d low less)) in grind (arith, nat_tests))))
      ∙ ap (λ back. filter (λ (x : Draft). nat_lt x.place new.place) xs ++ new ∷ back) (sym (filter_back (λ (x : Draft). nat_lt new.place x.place) xs i
      (λ k d low less. let here = ranked _ new.place _ (sym (parts.0 k d low less)) in grind (arith, nat_tests))
      (λ k d low less. let here = ranked _ new.place _ (sym (parts.1 k d low less)) in grind (arith, nat_tests))))

-- an insertion that was made
pub insert_ok : {E : Type 0} (xs ys zs ws : List Draft) (result : Result (Unit {0}) E) → zs ≡ (if is_ok result then ys else xs) → ys ≡ ws → OnOk result (zs ≡ ws)
insert_ok xs ys zs ws (Ok done) e f = e ∙ f
insert_ok xs ys zs ws (Err failed) e f = tt

-- what holds of each holds of those that pass a test
pub all_kept : {X : Type 0} (P : X → Type 0) (keep : X → Bool) (xs : List X) → AllByRecursion P xs → AllByRecursion P (filter keep xs)
all_kept P keep xs all = recursion_from_All P (filter keep xs) (All-filter keep P xs (All-from_recursion P xs all))

rising_kept : (keep : Draft → Bool) (xs : List Draft) → IsRising xs → IsRising (filter keep xs)
rising_kept keep [] rising = tt
rising_kept keep (x ∷ xs) rising = by_test (keep x) (rising_kept keep xs rising.1)
  where
    by_test : (b : Bool) → IsRising (filter keep xs) → IsRising (cond b (x ∷ filter keep xs) (filter keep xs))
    by_test true rest = (all_kept (λ (y : Draft). nat_lt x.place y.place ≡ true) keep xs rising.0, rest)
    by_test false rest = rest

rising_joined : (new : Draft) (xs ys : List Draft) → IsRising xs → AllByRecursion (λ (x : Draft). nat_lt x.place new.place ≡ true) xs → IsRising ys → AllByRecursion (λ (y : Draft). nat_lt new.place y.place ≡ true) ys → IsRising (xs ++ new ∷ ys)
rising_joined new [] ys first low rest high = (high, rest)
rising_joined new (x ∷ xs) ys first low rest high = (ahead xs first.0, rising_joined new xs ys first.1 low.1 rest high)
  where
    behind : (zs : List Draft) → AllByRecursion (λ (y : Draft). nat_lt new.place y.place ≡ true) zs → AllByRecursion (λ (y : Draft). nat_lt x.place y.place ≡ true) zs
    behind [] h = tt
    behind (z ∷ zs) h = (let one = low.0 in let two = h.0 in grind (arith, nat_tests, one, two), behind zs h.1)

    ahead : (zs : List Draft) → AllByRecursion (λ (y : Draft). nat_lt x.place y.place ≡ true) zs → AllByRecursion (λ (y : Draft). nat_lt x.place y.place ≡ true) (zs ++ new ∷ ys)
    ahead [] h = (low.0, behind ys high)
    ahead (z ∷ zs) h = (h.0, ahead zs h.1)

-- drafts stay in order with a new one
pub rising_with : (xs : List Draft) (new : Draft) → IsRising xs → IsRising (with_own xs new)
rising_with xs new rising =
    rising_joined new (filter (λ (x : Draft). nat_lt x.place new.place) xs) (filter (λ (x : Draft). nat_lt new.place x.place) xs)
    (rising_kept (λ (x : Draft). nat_lt x.place new.place) xs rising) (filter_passes (λ (x : Draft). nat_lt x.place new.place) xs)
    (rising_kept (λ (x : Draft). nat_lt new.place x.place) xs rising) (filter_passes (λ (x : Draft). nat_lt new.place x.place) xs)

pub insert_rising : {E : Type 0} (xs ys zs ws : List Draft) (result : Result (Unit {0}) E) → zs ≡ (if is_ok result then ys else xs) → ys ≡ ws → IsRising xs → IsRising ws → IsRising zs
insert_rising xs ys zs ws (Ok done) e f old new = subst IsRising (sym (e ∙ f)) new
insert_rising xs ys zs ws (Err failed) e f old new = subst IsRising (sym e) old
