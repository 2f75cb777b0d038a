-- Check-outs put in by rising number, and those of claims with their drafts.
use Rattle.std.specs.Prelude.{◌≡◌, ℕ, suc, ◌+◌, ◌-◌, ◌≤◌, ◌==◌, nat_lt, Bool, true, false, not, List, [], ◌∷◌, length, take, drop, map, sum_by, slice_get, insert, position, None, Some, is_some, All, refl}
use Rattle.std.specs.List.{AllByRecursion, IsDistinct, position_or_len}
use Rattle.std.specs.Option.{option_map_or, unwrap_or}
use Rattle.std.proofs.Common.{arith, ap, sym, cond, ◌∙◌, get_or}
use Rattle.std.proofs.lemmas.List.{drop_more, get_or-take, take-take}
use Rattle.std.proofs.lemmas.Option.{get_or_from_slice_get}
use Rattle.std.proofs.lemmas.Bool.Decides.{nat_tests}
use Rattle.std.proofs.lemmas.List.Sums.{sum_by-cons, prefix_len-le-length}
use Rattle.std.proofs.lemmas.List.Elements.{All-nil, All-cons, All-head, All-tail}
use Rattle.vault_state.specs.declared.claims.Claim.{Claim}
use Rattle.vault_state.specs.declared.ids.ClaimId.{ClaimId}
use Rattle.vault_state.specs.declared.ids.ClaimId.TheVariants.{Long}
use Rattle.vault_state.specs.Claims.{same_id, claim_of}
use Rattle.vault_state.specs.Shelf.{Draft, drafts_weight}
use Rattle.vault_state.specs.Drafts.{saved_weight}
use Rattle.vault_state.proofs.Overlaps.{eq_from, eq_itself}
use Rattle.vault_state.proofs.Stays.{ids}
use Rattle.check_outs.specs.declared.any.AnyCheckOut.{AnyCheckOut}
use Rattle.check_outs.specs.Typed.{number_of, own_drafts, saved, check_out_of, drafts_at, IsAscending}
use Rattle.check_outs.specs.Parts.{number_in, opened, put_in, opened_all}
use Rattle.check_outs.proofs.Weighing.{saved_weight-cons}

-- where the first is that passes, or the end
pub first_or_end : {X : Type 0} (p : X → Bool) (xs : List X) → unwrap_or (position p xs) (length xs) ≡ position_or_len p xs
first_or_end p xs = by_test (nat_lt (position_or_len p xs) (length xs)) refl
  where
    by_test : (b : Bool) → nat_lt (position_or_len p xs) (length xs) ≡ b → unwrap_or (cond b (Some (position_or_len p xs)) None) (length xs) ≡ position_or_len p xs
    by_test true e = refl
    by_test false e = let le = prefix_len-le-length (λ x. not (p x)) xs in grind (arith, nat_tests, e, le)

module _ {A : Type 0} where
  pub place_within : (xs : List (AnyCheckOut A)) (n : ℕ) → unwrap_or (position (λ c. nat_lt n (number_of c)) xs) (length xs) ≤ length xs
  place_within xs n = rw (first_or_end (λ c. nat_lt n (number_of c)) xs) (prefix_len-le-length (λ c. not (nat_lt n (number_of c))) xs)

  insert_is : (c : AnyCheckOut A) (xs : List (AnyCheckOut A)) → insert xs (position_or_len (λ x. nat_lt (number_of c) (number_of x)) xs) c ≡ put_in c xs
  insert_is c [] = refl
  insert_is c (x ∷ xs) = by_test (nat_lt (number_of c) (number_of x)) (insert_is c xs)
    where
      by_test : (b : Bool) → insert xs (position_or_len (λ x. nat_lt (number_of c) (number_of x)) xs) c ≡ put_in c xs
          → insert (x ∷ xs) (cond (not b) (1 + position_or_len (λ x. nat_lt (number_of c) (number_of x)) xs) 0) c ≡ cond b (c ∷ x ∷ xs) (x ∷ put_in c xs)
      by_test true h = refl
      by_test false h = let e : 1 + position_or_len (λ x. nat_lt (number_of c) (number_of x)) xs ≡ suc (position_or_len (λ x. nat_lt (number_of c) (number_of x)) xs) = omega arith in rw e (ap (λ ys. x ∷ ys) h)

  pub put_is : (c : AnyCheckOut A) (xs : List (AnyCheckOut A)) → insert xs (unwrap_or (position (λ x. nat_lt (number_of c) (number_of x)) xs) (length xs)) c ≡ put_in c xs
  put_is c xs = ap (λ i. insert xs i c) (first_or_end (λ x. nat_lt (number_of c) (number_of x)) xs) ∙ insert_is c xs

  pub All_put : (P : AnyCheckOut A → Type 0) (c : AnyCheckOut A) (xs : List (AnyCheckOut A)) → P c → All P xs → All P (put_in c xs)
  All_put P c [] h all = All-cons P c [] h all
  All_put P c (x ∷ xs) h all = by_test (nat_lt (number_of c) (number_of x)) (All_put P c xs h (All-tail P x xs all))
    where
      by_test : (b : Bool) → All P (put_in c xs) → All P (cond b (c ∷ x ∷ xs) (x ∷ put_in c xs))
      by_test true rest = All-cons P c (x ∷ xs) h all
      by_test false rest = All-cons P x (put_in c xs) (All-head P x xs all) rest

  -- no check-out of this number
  abbrev pub Others : ℕ → List (AnyCheckOut A) → Type 0
  Others n xs = All (λ (x : AnyCheckOut A). (number_of x == n) ≡ false) xs

  above_put : (n : ℕ) (c : AnyCheckOut A) (xs : List (AnyCheckOut A)) → nat_lt n (number_of c) ≡ true → AllByRecursion (λ d. nat_lt n (number_of d) ≡ true) xs → AllByRecursion (λ d. nat_lt n (number_of d) ≡ true) (put_in c xs)
  above_put n c [] h all = (h, tt)
  above_put n c (x ∷ xs) h all = by_test (nat_lt (number_of c) (number_of x)) (above_put n c xs h all.1)
    where
      by_test : (b : Bool) → AllByRecursion (λ d. nat_lt n (number_of d) ≡ true) (put_in c xs) → AllByRecursion (λ d. nat_lt n (number_of d) ≡ true) (cond b (c ∷ x ∷ xs) (x ∷ put_in c xs))
      by_test true rest = (h, all)
      by_test false rest = (all.0, rest)

  higher : (m n : ℕ) (xs : List (AnyCheckOut A)) → nat_lt m n ≡ true → AllByRecursion (λ d. nat_lt n (number_of d) ≡ true) xs → AllByRecursion (λ d. nat_lt m (number_of d) ≡ true) xs
  higher m n [] less all = tt
  higher m n (x ∷ xs) less all = (let more = all.0 in grind (arith, nat_tests, less, more), higher m n xs less all.1)

  pub ascending_put : (c : AnyCheckOut A) (xs : List (AnyCheckOut A)) → IsAscending xs → Others (number_of c) xs → IsAscending (put_in c xs)
  unfolding IsAscending
  ascending_put c [] ascending others = (tt, tt)
  ascending_put c (x ∷ xs) ascending others = by_test (nat_lt (number_of c) (number_of x)) refl (ascending_put c xs ascending.1 (All-tail (λ (x : AnyCheckOut A). (number_of x == number_of c) ≡ false) x xs others))
    where
      by_test : (b : Bool) → nat_lt (number_of c) (number_of x) ≡ b → IsAscending (put_in c xs) → IsAscending (cond b (c ∷ x ∷ xs) (x ∷ put_in c xs))
      by_test true e rest = ((e, higher (number_of c) (number_of x) xs e ascending.0), ascending)
      by_test false e rest =
          let apart = All-head (λ (x : AnyCheckOut A). (number_of x == number_of c) ≡ false) x xs others in
          let less : nat_lt (number_of x) (number_of c) ≡ true = grind (arith, nat_tests, e, apart) in
          (above_put (number_of x) c xs less ascending.0, rest)

  pub found_put : (n : ℕ) (c : AnyCheckOut A) (xs : List (AnyCheckOut A)) → Others (number_of c) xs → check_out_of (put_in c xs) n ≡ cond (number_of c == n) (Some c) (check_out_of xs n)
  found_put n c [] others = refl
  found_put n c (x ∷ xs) others =
      by_tests (nat_lt (number_of c) (number_of x)) (number_of c == n) refl (number_of x == n) refl (All-head (λ (x : AnyCheckOut A). (number_of x == number_of c) ≡ false) x xs others)
      (found_put n c xs (All-tail (λ (x : AnyCheckOut A). (number_of x == number_of c) ≡ false) x xs others))
    where
      by_tests : (b t : Bool) → (number_of c == n) ≡ t → (u : Bool) → (number_of x == n) ≡ u → (number_of x == number_of c) ≡ false → check_out_of (put_in c xs) n ≡ cond t (Some c) (check_out_of xs n)
          → check_out_of (cond b (c ∷ x ∷ xs) (x ∷ put_in c xs)) n ≡ cond t (Some c) (cond u (Some x) (check_out_of xs n))
      by_tests true t e u f apart rest = rw (e, f) refl
      by_tests false true e true f apart rest =
          let one : number_of c ≡ n = eq_from (number_of c) n e in
          let two : number_of x ≡ n = eq_from (number_of x) n f in
          let same : (number_of x == number_of c) ≡ true = let both : number_of x ≡ number_of c = two ∙ sym one in grind (arith, nat_tests, both) in
          let clash : true ≡ false = sym same ∙ apart in
          cc
      by_tests false true e false f apart rest = rw f rest
      by_tests false false e true f apart rest = rw f refl
      by_tests false false e false f apart rest = rw f rest

  weight_put : (c : AnyCheckOut A) (xs : List (AnyCheckOut A)) → saved_weight (saved (put_in c xs)) ≡ drafts_weight (own_drafts c) + saved_weight (saved xs)
  weight_put c [] = saved_weight-cons c []
  weight_put c (x ∷ xs) = by_test (nat_lt (number_of c) (number_of x)) (weight_put c xs)
    where
      by_test : (b : Bool) → saved_weight (saved (put_in c xs)) ≡ drafts_weight (own_drafts c) + saved_weight (saved xs) → saved_weight (saved (cond b (c ∷ x ∷ xs) (x ∷ put_in c xs))) ≡ drafts_weight (own_drafts c) + saved_weight (saved (x ∷ xs))
      by_test true h = saved_weight-cons c (x ∷ xs)
      by_test false h = let a = saved_weight-cons x (put_in c xs) in let b = saved_weight-cons x xs in omega arith

module _ (A : Type 0) where
  pub number_opened : (n : ℕ) (own : List Draft) → number_of (opened {A = A} n own) ≡ n
  number_opened n [] = refl
  number_opened n (d ∷ own) = refl

  pub own_opened : (n : ℕ) (own : List Draft) → own_drafts (opened {A = A} n own) ≡ own
  own_opened n [] = refl
  own_opened n (d ∷ own) = refl

-- as many drafts as claims
abbrev pub Match : List Claim → List (List Draft) → Type 0
Match [] [] = Unit {0}
Match [] (own ∷ drafts) = ⊥
Match (c ∷ claims) [] = ⊥
Match (c ∷ claims) (own ∷ drafts) = Match claims drafts

-- what holds of each claim and its drafts
abbrev pub EachOf : (Claim → List Draft → Type 0) → List Claim → List (List Draft) → Type 0
EachOf Q [] [] = Unit {0}
EachOf Q [] (own ∷ drafts) = ⊥
EachOf Q (c ∷ claims) [] = ⊥
EachOf Q (c ∷ claims) (own ∷ drafts) = Q c own × EachOf Q claims drafts

-- long claims, each of a number of its own
abbrev pub IsLong : Claim → Type 0
IsLong c = c.id ≡ Long (number_in c.id)

pub record AreLong (claims : List Claim) : Type 0 where
  pub each : All IsLong claims
  pub apart : IsDistinct same_id (ids claims)

pub long_tail : (c : Claim) (claims : List Claim) → AreLong (c ∷ claims) → AreLong claims
unfolding IsDistinct
long_tail c claims long = record { each = All-tail IsLong c claims long.each; apart = long.apart.1 }

same_numbers : (m n : ClaimId) → m ≡ Long (number_in m) → n ≡ Long (number_in n) → same_id m n ≡ (number_in n == number_in m)
same_numbers m n is_m is_n = rw (is_m, is_n) (turned (number_in m) (number_in n))
  where
    turned : (a b : ℕ) → (a == b) ≡ (b == a)
    turned a b = by_test (a == b) refl
      where
        by_test : (t : Bool) → (a == b) ≡ t → t ≡ (b == a)
        by_test true e = let same : a ≡ b = eq_from a b e in sym (rw same (eq_itself b))
        by_test false e = grind (arith, nat_tests, e)

-- the others have other numbers
pub other_numbers : (c : Claim) (claims : List Claim) → AreLong (c ∷ claims) → All (λ (d : Claim). (number_in d.id == number_in c.id) ≡ false) claims
unfolding IsDistinct
other_numbers c claims long = each claims (All-tail IsLong c claims long.each) long.apart.0
  where
    here : IsLong c
    here = All-head IsLong c claims long.each

    each : (ds : List Claim) → All IsLong ds → AllByRecursion (λ k. same_id c.id k ≡ false) (ids ds) → All (λ (d : Claim). (number_in d.id == number_in c.id) ≡ false) ds
    each [] all apart = All-nil (λ (d : Claim). (number_in d.id == number_in c.id) ≡ false)
    each (d ∷ ds) all apart =
        All-cons (λ (d : Claim). (number_in d.id == number_in c.id) ≡ false) d ds (sym (same_numbers c.id d.id here (All-head IsLong d ds all)) ∙ apart.0)
        (each ds (All-tail IsLong d ds all) apart.1)

module _ (A : Type 0) where
  -- what holds of each check-out
  pub All_opened : (P : AnyCheckOut A → Type 0) (claims : List Claim) (drafts : List (List Draft)) → (Q : Claim → List Draft → Type 0) → ((c : Claim) (own : List Draft) → Q c own → P (opened (number_in c.id) own)) → EachOf Q claims drafts → All P (opened_all claims drafts)
  All_opened P [] drafts Q h all = All-nil P
  All_opened P (c ∷ claims) [] Q h all = All-nil P
  All_opened P (c ∷ claims) (own ∷ drafts) Q h all = All_put P (opened (number_in c.id) own) (opened_all claims drafts) (h c own all.0) (All_opened P claims drafts Q h all.1)

  pub others_opened : (n : ℕ) (claims : List Claim) (drafts : List (List Draft)) → All (λ (c : Claim). (number_in c.id == n) ≡ false) claims → Others n (opened_all {A = A} claims drafts)
  others_opened n [] drafts all = All-nil (λ (x : AnyCheckOut A). (number_of x == n) ≡ false)
  others_opened n (c ∷ claims) [] all = All-nil (λ (x : AnyCheckOut A). (number_of x == n) ≡ false)
  others_opened n (c ∷ claims) (own ∷ drafts) all =
      All_put (λ (x : AnyCheckOut A). (number_of x == n) ≡ false) (opened (number_in c.id) own) (opened_all claims drafts)
      (rw (number_opened A (number_in c.id) own) (All-head (λ (c : Claim). (number_in c.id == n) ≡ false) c claims all))
      (others_opened n claims drafts (All-tail (λ (c : Claim). (number_in c.id == n) ≡ false) c claims all))

  -- one check-out and the others of a line
  others_behind : (c : Claim) (claims : List Claim) (own : List Draft) (drafts : List (List Draft)) → AreLong (c ∷ claims) → Others (number_of (opened {A = A} (number_in c.id) own)) (opened_all {A = A} claims drafts)
  others_behind c claims own drafts long = rw (number_opened A (number_in c.id) own) (others_opened (number_in c.id) claims drafts (other_numbers c claims long))

  pub ascending_opened : (claims : List Claim) (drafts : List (List Draft)) → AreLong claims → IsAscending (opened_all {A = A} claims drafts)
  unfolding IsAscending
  ascending_opened [] drafts long = tt
  ascending_opened (c ∷ claims) [] long = tt
  ascending_opened (c ∷ claims) (own ∷ drafts) long = ascending_put (opened (number_in c.id) own) (opened_all claims drafts) (ascending_opened claims drafts (long_tail c claims long)) (others_behind c claims own drafts long)

  found_first : (n : ℕ) (c : Claim) (claims : List Claim) (own : List Draft) (drafts : List (List Draft)) → AreLong (c ∷ claims)
      → check_out_of (opened_all {A = A} (c ∷ claims) (own ∷ drafts)) n ≡ cond (number_in c.id == n) (Some (opened (number_in c.id) own)) (check_out_of (opened_all claims drafts) n)
  found_first n c claims own drafts long =
      found_put n (opened (number_in c.id) own) (opened_all claims drafts) (others_behind c claims own drafts long)
      ∙ ap (λ k. cond (k == n) (Some (opened (number_in c.id) own)) (check_out_of (opened_all claims drafts) n)) (number_opened A (number_in c.id) own)

  -- there is one for each long claim
  pub found_opened : (n : ℕ) (claims : List Claim) (drafts : List (List Draft)) → Match claims drafts → AreLong claims → is_some (check_out_of (opened_all {A = A} claims drafts) n) ≡ is_some (claim_of claims (Long n))
  found_opened n [] [] match long = refl
  found_opened n [] (own ∷ drafts) match long = absurd match
  found_opened n (c ∷ claims) [] match long = absurd match
  found_opened n (c ∷ claims) (own ∷ drafts) match long =
      ap is_some (found_first n c claims own drafts long)
      ∙ by_test (number_in c.id == n) (found_opened n claims drafts match (long_tail c claims long))
      ∙ ap (λ b. is_some (cond b (Some c) (claim_of claims (Long n)))) (sym (ap (λ id. same_id id (Long n)) (All-head IsLong c claims long.each)))
    where
      by_test : (b : Bool) → is_some (check_out_of (opened_all {A = A} claims drafts) n) ≡ is_some (claim_of claims (Long n))
          → is_some (cond b (Some (opened {A = A} (number_in c.id) own)) (check_out_of (opened_all claims drafts) n)) ≡ is_some (cond b (Some c) (claim_of claims (Long n)))
      by_test true rest = refl
      by_test false rest = rest

  -- and it has the drafts of that claim
  pub drafts_opened : (claims : List Claim) (drafts : List (List Draft)) → Match claims drafts → AreLong claims → map (λ (c : Claim). drafts_at (opened_all {A = A} claims drafts) (number_in c.id)) claims ≡ drafts
  drafts_opened [] [] match long = refl
  drafts_opened [] (own ∷ drafts) match long = absurd match
  drafts_opened (c ∷ claims) [] match long = absurd match
  drafts_opened (c ∷ claims) (own ∷ drafts) match long =
      ap (λ ds. ds ∷ map (λ (d : Claim). drafts_at (opened_all {A = A} (c ∷ claims) (own ∷ drafts)) (number_in d.id)) claims) first
      ∙ ap (λ rest. own ∷ rest) (others claims (other_numbers c claims long) ∙ drafts_opened claims drafts match (long_tail c claims long))
    where
      first : drafts_at (opened_all {A = A} (c ∷ claims) (own ∷ drafts)) (number_in c.id) ≡ own
      first =
          ap (λ o. option_map_or own_drafts o []) (found_first (number_in c.id) c claims own drafts long)
          ∙ ap (λ b. option_map_or own_drafts (cond b (Some (opened {A = A} (number_in c.id) own)) (check_out_of (opened_all claims drafts) (number_in c.id))) []) (eq_itself (number_in c.id))
          ∙ own_opened A (number_in c.id) own

      one : (d : Claim) → (number_in d.id == number_in c.id) ≡ false → drafts_at (opened_all {A = A} (c ∷ claims) (own ∷ drafts)) (number_in d.id) ≡ drafts_at (opened_all {A = A} claims drafts) (number_in d.id)
      one d apart =
          let turned : (number_in c.id == number_in d.id) ≡ false = grind (arith, nat_tests, apart) in
          ap (λ o. option_map_or own_drafts o []) (found_first (number_in d.id) c claims own drafts long)
          ∙ ap (λ b. option_map_or own_drafts (cond b (Some (opened {A = A} (number_in c.id) own)) (check_out_of (opened_all claims drafts) (number_in d.id))) []) turned

      others : (ds : List Claim) → All (λ (d : Claim). (number_in d.id == number_in c.id) ≡ false) ds
          → map (λ (d : Claim). drafts_at (opened_all {A = A} (c ∷ claims) (own ∷ drafts)) (number_in d.id)) ds ≡ map (λ (d : Claim). drafts_at (opened_all {A = A} claims drafts) (number_in d.id)) ds
      others [] all = refl
      others (d ∷ ds) all =
          ap (λ y. y ∷ map (λ (e : Claim). drafts_at (opened_all {A = A} (c ∷ claims) (own ∷ drafts)) (number_in e.id)) ds) (one d (All-head (λ (d : Claim). (number_in d.id == number_in c.id) ≡ false) d ds all))
          ∙ ap (λ ys. drafts_at (opened_all {A = A} claims drafts) (number_in d.id) ∷ ys) (others ds (All-tail (λ (d : Claim). (number_in d.id == number_in c.id) ≡ false) d ds all))

  -- what all drafts weigh
  pub weight_opened : (claims : List Claim) (drafts : List (List Draft)) → Match claims drafts → saved_weight (saved (opened_all {A = A} claims drafts)) ≡ sum_by drafts_weight drafts
  weight_opened [] [] match = refl
  weight_opened [] (own ∷ drafts) match = absurd match
  weight_opened (c ∷ claims) [] match = absurd match
  weight_opened (c ∷ claims) (own ∷ drafts) match =
      let a = weight_put {A = A} (opened (number_in c.id) own) (opened_all claims drafts) in
      let b : drafts_weight (own_drafts (opened {A = A} (number_in c.id) own)) ≡ drafts_weight own = ap drafts_weight (own_opened A (number_in c.id) own) in
      let d = weight_opened claims drafts match in
      let e = sum_by-cons drafts_weight own drafts in
      omega arith

  -- one more of the last claims
  pub opened_step : (claims : List Claim) (drafts olds : List (List Draft)) (n m : ℕ) (own : List Draft) (c : Claim) → n + 1 ≡ m → m ≤ length drafts → length claims ≡ length drafts → olds ≡ take m drafts → own ≡ get_or olds (m - 1) own → slice_get claims n ≡ Some c
      → put_in (opened {A = A} (number_in c.id) own) (opened_all (drop m claims) (drop m drafts)) ≡ opened_all (drop n claims) (drop n drafts)
  opened_step claims drafts olds n m own c next within same olds_are own_is got = sym (ap (λ cs. opened_all cs (drop n drafts)) at_claim ∙ ap (opened_all (c ∷ drop m claims)) at_own)
    where
      last : m - 1 ≡ n
      last = omega (arith, next)

      at_claim : drop n claims ≡ c ∷ drop m claims
      at_claim =
          drop_more claims n c (omega (arith, next, within, same))
          ∙ ap (λ d. d ∷ drop (n + 1) claims) (get_or_from_slice_get claims n c c got)
          ∙ ap (λ k. c ∷ drop k claims) next

      own_at : get_or drafts n own ≡ own
      own_at = sym (own_is ∙ ap (λ l. get_or l (m - 1) own) olds_are ∙ get_or-take m drafts (m - 1) own (omega (arith, next)) ∙ ap (λ k. get_or drafts k own) last)

      at_own : drop n drafts ≡ own ∷ drop m drafts
      at_own =
          drop_more drafts n own (omega (arith, next, within))
          ∙ ap (λ d. d ∷ drop (n + 1) drafts) own_at
          ∙ ap (λ k. own ∷ drop k drafts) next

-- all but the last
pub rest_taken : (drafts olds news : List (List Draft)) (n m : ℕ) → n + 1 ≡ m → olds ≡ take m drafts → news ≡ take (m - 1) olds → news ≡ take n drafts
rest_taken drafts olds news n m next olds_are news_are =
    news_are ∙ ap (take (m - 1)) olds_are ∙ take-take (m - 1) m drafts (omega arith) ∙ ap (λ k. take k drafts) (omega (arith, next))

pub match_length : (claims : List Claim) (drafts : List (List Draft)) → Match claims drafts → length claims ≡ length drafts
match_length [] [] match = refl
match_length [] (own ∷ drafts) match = absurd match
match_length (c ∷ claims) [] match = absurd match
match_length (c ∷ claims) (own ∷ drafts) match = ap suc (match_length claims drafts match)
