-- Check-outs found by their number, and the drafts of all of them.
use Rattle.std.specs.Prelude.{◌≡◌, ℕ, zero, suc, ◌+◌, ◌<◌, ◌==◌, nat_lt, Bool, true, false, not, List, [], ◌∷◌, length, position, slice_get, slice_set, slice_index_or, insert, remove, Option, None, Some, Result, Ok, Err, OnOk, OnErr, refl}
use Rattle.std.specs.List.{AllByRecursion, position_or_len}
use Rattle.std.specs.Option.{option_map_or, IfSome}
use Rattle.std.proofs.Common.{arith, ap, sym, subst, cond, ◌∙◌}
use Rattle.std.proofs.lemmas.List.Folds.{find_at}
use Rattle.std.proofs.lemmas.Option.{slice_get_past, slice_get-get_or}
use Rattle.std.proofs.lemmas.Bool.Decides.{nat_tests}
use Rattle.vault_state.specs.Shelf.{Draft}
use Rattle.vault_state.proofs.Overlaps.{eq_from}
use Rattle.check_outs.specs.CheckOuts.{CheckOutSeen, with_own}
use Rattle.check_outs.specs.declared.any.AnyCheckOut.{AnyCheckOut}
use Rattle.check_outs.specs.declared.any.AnyCheckOut.TheVariants.{Held}
use Rattle.check_outs.specs.Typed.{number_of, is_granted, own_drafts, check_out_of, without_check_out, saving, with_saved, is_open, drafts_at, IsAscending}

module _ {A : Type 0} (n : ℕ) where
  abbrev is_it : AnyCheckOut A → Bool
  is_it c = number_of c == n

  -- where its number is found
  pub found_at : (xs : List (AnyCheckOut A)) (i : ℕ) → position is_it xs ≡ Some i → (position_or_len is_it xs ≡ i) × (i < length xs)
  found_at xs i e = by_test (nat_lt (position_or_len is_it xs) (length xs)) refl e
    where
      by_test : (b : Bool) → nat_lt (position_or_len is_it xs) (length xs) ≡ b → cond b (Some (position_or_len is_it xs)) None ≡ Some i → (position_or_len is_it xs ≡ i) × (i < length xs)
      by_test true f e = let same : position_or_len is_it xs ≡ i = cc in (same, grind (arith, nat_tests, f))
      by_test false f e = cc

  pub at_index : (xs : List (AnyCheckOut A)) (i : ℕ) → position is_it xs ≡ Some i → slice_get xs i ≡ check_out_of xs n
  at_index xs i e = ap (slice_get xs) (sym (found_at xs i e).0) ∙ sym (find_at is_it xs)

  pub if_found : (xs : List (AnyCheckOut A)) (r : Option ℕ) → r ≡ position is_it xs → IfSome r (λ i. slice_get xs i ≡ check_out_of xs n)
  if_found xs None e = tt
  if_found xs (Some i) e = at_index xs i (sym e)

  pub none_found : (xs : List (AnyCheckOut A)) → None ≡ position is_it xs → check_out_of xs n ≡ None
  none_found xs e = by_test (nat_lt (position_or_len is_it xs) (length xs)) refl (sym e)
    where
      by_test : (b : Bool) → nat_lt (position_or_len is_it xs) (length xs) ≡ b → cond b (Some (position_or_len is_it xs)) None ≡ None → check_out_of xs n ≡ None
      by_test true f e = cc
      by_test false f e = find_at is_it xs ∙ slice_get_past xs (position_or_len is_it xs) (grind (arith, nat_tests, f))

  -- the one that is found is written over
  pub set_at : (xs : List (AnyCheckOut A)) (i : ℕ) (c : AnyCheckOut A) (draft : Draft) → position_or_len is_it xs ≡ i → slice_get xs i ≡ Some c → slice_set xs i (saving draft c) ≡ with_saved xs n draft
  set_at [] i c draft at got = cc
  set_at (x ∷ xs) i c draft at got = by_test (is_it x) refl i at got (set_at xs)
    where
      by_test : (b : Bool) → is_it x ≡ b → (i : ℕ) → cond (not b) (1 + position_or_len is_it xs) 0 ≡ i → slice_get (x ∷ xs) i ≡ Some c
          → ((i : ℕ) (c : AnyCheckOut A) (draft : Draft) → position_or_len is_it xs ≡ i → slice_get xs i ≡ Some c → slice_set xs i (saving draft c) ≡ with_saved xs n draft)
          → slice_set (x ∷ xs) i (saving draft c) ≡ cond b (saving draft x ∷ xs) (x ∷ with_saved xs n draft)
      by_test true e zero at got rest = let same : x ≡ c = cc in ap (λ y. saving draft y ∷ xs) (sym same)
      by_test true e (suc i) at got rest = absurd (omega (arith, at))
      by_test false e zero at got rest = absurd (omega (arith, at))
      by_test false e (suc i) at got rest = ap (λ ys. x ∷ ys) (rest i c draft (omega (arith, at)) got)

  all_apart : (xs : List (AnyCheckOut A)) → AllByRecursion (λ d. nat_lt n (number_of d) ≡ true) xs → without_check_out xs n ≡ xs
  all_apart [] above = refl
  all_apart (x ∷ xs) above =
      let apart : (number_of x == n) ≡ false = let less = above.0 in grind (arith, nat_tests, less) in
      rw apart (ap (λ ys. x ∷ ys) (all_apart xs above.1))

  -- the one that is found is taken away
  pub remove_at : (xs : List (AnyCheckOut A)) (i : ℕ) → IsAscending xs → position_or_len is_it xs ≡ i → i < length xs → remove xs i ≡ without_check_out xs n
  unfolding IsAscending
  remove_at [] i ascending at high = absurd (omega arith)
  remove_at (x ∷ xs) i ascending at high = by_test (is_it x) refl i at high (remove_at xs)
    where
      by_test : (b : Bool) → is_it x ≡ b → (i : ℕ) → cond (not b) (1 + position_or_len is_it xs) 0 ≡ i → i < suc (length xs)
          → ((i : ℕ) → IsAscending xs → position_or_len is_it xs ≡ i → i < length xs → remove xs i ≡ without_check_out xs n)
          → remove (x ∷ xs) i ≡ cond (not b) (x ∷ without_check_out xs n) (without_check_out xs n)
      by_test true e zero at high rest =
          let same : number_of x ≡ n = eq_from (number_of x) n e in
          sym (all_apart xs (subst (λ k. AllByRecursion (λ d. nat_lt k (number_of d) ≡ true) xs) same ascending.0))
      by_test true e (suc i) at high rest = absurd (omega (arith, at))
      by_test false e zero at high rest = absurd (omega (arith, at))
      by_test false e (suc i) at high rest = ap (λ ys. x ∷ ys) (rest i ascending.1 (omega (arith, at)) (omega arith))

  pub none_taken : (xs : List (AnyCheckOut A)) → check_out_of xs n ≡ None → without_check_out xs n ≡ xs
  none_taken [] none = refl
  none_taken (x ∷ xs) none = by_test (is_it x) refl none (none_taken xs)
    where
      by_test : (b : Bool) → is_it x ≡ b → cond b (Some x) (check_out_of xs n) ≡ None → (check_out_of xs n ≡ None → without_check_out xs n ≡ xs) → cond (not b) (x ∷ without_check_out xs n) (without_check_out xs n) ≡ x ∷ xs
      by_test true e none rest = cc
      by_test false e none rest = ap (λ ys. x ∷ ys) (rest none)

  -- what is taken out and put back is as it was
  pub put_back : (xs : List (AnyCheckOut A)) (i : ℕ) (c : AnyCheckOut A) → slice_get xs i ≡ Some c → insert (remove xs i) i c ≡ xs
  put_back [] i c got = cc
  put_back (x ∷ xs) zero c got = let same : x ≡ c = cc in ap (λ y. y ∷ xs) (sym same)
  put_back (x ∷ xs) (suc i) c got = ap (λ ys. x ∷ ys) (put_back xs i c got)

  -- whether the one that is found is typed as held
  pub open_at : (xs : List (AnyCheckOut A)) (i : ℕ) (c : AnyCheckOut A) → slice_get xs i ≡ Some c → position is_it xs ≡ Some i → is_open xs n ≡ is_granted c
  open_at xs i c got at = ap (λ o. option_map_or is_granted o false) (sym (at_index xs i at) ∙ got)

  pub closed_at : (xs : List (AnyCheckOut A)) → None ≡ position is_it xs → is_open xs n ≡ false
  closed_at xs none = ap (λ o. option_map_or is_granted o false) (none_found xs none)

  pub saved_ok : {E : Type 0} (xs : List (AnyCheckOut A)) (i : ℕ) (held new : CheckOutSeen (List Draft)) (draft : Draft) (result : Result (Unit {0}) E) → slice_get xs i ≡ Some (Held held) → position is_it xs ≡ Some i
      → OnOk result (new ≡ record { number = held.number; state = with_own held.state draft }) → OnOk result (slice_set xs i (Held new) ≡ with_saved xs n draft)
  saved_ok xs i held new draft (Ok done) got at e = ap (λ h. slice_set xs i (Held h)) e ∙ set_at xs i (Held held) draft (found_at xs i at).0 got
  saved_ok xs i held new draft (Err failed) got at e = tt

  set_same : (xs : List (AnyCheckOut A)) (i : ℕ) (c : AnyCheckOut A) → slice_get xs i ≡ Some c → slice_set xs i c ≡ xs
  set_same [] i c got = cc
  set_same (x ∷ xs) zero c got = let same : x ≡ c = cc in ap (λ y. y ∷ xs) (sym same)
  set_same (x ∷ xs) (suc i) c got = ap (λ ys. x ∷ ys) (set_same xs i c got)

  pub saved_err : {E : Type 0} (xs : List (AnyCheckOut A)) (i : ℕ) (held new : CheckOutSeen (List Draft)) (result : Result (Unit {0}) E) → slice_get xs i ≡ Some (Held held)
      → OnErr result (new ≡ held) → OnErr result (slice_set xs i (Held new) ≡ xs)
  saved_err xs i held new (Ok done) got e = tt
  saved_err xs i held new (Err failed) got e = ap (λ h. slice_set xs i (Held h)) e ∙ set_same xs i (Held held) got

  pub own_number : (xs : List (AnyCheckOut A)) (c : AnyCheckOut A) → check_out_of xs n ≡ Some c → number_of c ≡ n
  own_number [] c e = cc
  own_number (x ∷ xs) c e = by_test (is_it x) refl e (own_number xs c)
    where
      by_test : (b : Bool) → is_it x ≡ b → cond b (Some x) (check_out_of xs n) ≡ Some c → (check_out_of xs n ≡ Some c → number_of c ≡ n) → number_of c ≡ n
      by_test true f h rest = let same : x ≡ c = cc in subst (λ y. number_of y ≡ n) same (eq_from (number_of x) n f)
      by_test false f h rest = rest h

  pub own_drafts_at : (xs : List (AnyCheckOut A)) (c : AnyCheckOut A) → check_out_of xs n ≡ Some c → own_drafts c ≡ drafts_at xs n
  own_drafts_at xs c e = ap (λ o. option_map_or own_drafts o []) (sym e)

  -- what is known of one that was removed
  pub record Removed (xs : List (AnyCheckOut A)) (i : ℕ) (c : AnyCheckOut A) : Type 0 where
    pub at : position is_it xs ≡ Some i
    pub got : slice_get xs i ≡ Some c
    pub found : check_out_of xs n ≡ Some c

  pub removed : (xs ys : List (AnyCheckOut A)) (i : ℕ) (c : AnyCheckOut A) → ys ≡ xs → Some i ≡ position is_it ys → i < length ys → c ≡ slice_index_or xs i c → Removed xs i c
  removed xs ys i c same e bound value =
      let at : position is_it xs ≡ Some i = sym (e ∙ ap (position is_it) same) in
      let high : i < length xs = rw same at bound in
      let got : slice_get xs i ≡ Some c = slice_get-get_or xs i c high ∙ ap Some (sym value) in
      record { at = at; got = got; found = sym (at_index xs i at) ∙ got }
