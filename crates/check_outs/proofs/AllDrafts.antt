-- The drafts of all check-outs, in one list.
use Rattle.std.specs.Prelude.{◌≡◌, ℕ, ◌==◌, nat_lt, Bool, true, false, not, List, [], ◌∷◌, ◌++◌, map, filter, Option, None, Some, is_some, refl}
use Rattle.std.specs.List.{AllByRecursion}
use Rattle.std.specs.Option.{option_map_or}
use Rattle.std.proofs.Common.{arith, ap, sym, subst, cond, ◌∙◌, append-nil, append_assoc}
use Rattle.std.proofs.lemmas.Bool.Decides.{nat_tests}
use Rattle.vault_state.specs.Shelf.{Draft}
use Rattle.vault_state.specs.Drafts.{SavedDraft, comes_before, with_draft, drafts_of, without_drafts, saved_by}
use Rattle.vault_state.proofs.Overlaps.{eq_from}
use Rattle.check_outs.specs.CheckOuts.{with_own}
use Rattle.check_outs.specs.declared.any.AnyCheckOut.{AnyCheckOut}
use Rattle.check_outs.specs.declared.any.AnyCheckOut.TheVariants.{Waiting, Held}
use Rattle.check_outs.specs.Typed.{number_of, is_granted, own_drafts, marked, saved, check_out_of, without_check_out, saving, with_saved, is_open, drafts_at, IsAscending}

filter-append : {X : Type 0} (p : X → Bool) (xs ys : List X) → filter p (xs ++ ys) ≡ filter p xs ++ filter p ys
filter-append p [] ys = refl
filter-append p (x ∷ xs) ys = by_test (p x) (filter-append p xs ys)
  where
    by_test : (b : Bool) → filter p (xs ++ ys) ≡ filter p xs ++ filter p ys → cond b (x ∷ filter p (xs ++ ys)) (filter p (xs ++ ys)) ≡ cond b (x ∷ filter p xs) (filter p xs) ++ filter p ys
    by_test true h = ap (λ zs. x ∷ zs) h
    by_test false h = h

-- a test that is the same for all of a check-out's drafts
marked_pass : (p : SavedDraft → Bool) (m : ℕ) (drafts : List Draft) → ((d : Draft) → p (saved_by m d) ≡ true) → filter p (marked m drafts) ≡ marked m drafts
marked_pass p m [] h = refl
marked_pass p m (d ∷ drafts) h = rw (h d) (ap (λ zs. saved_by m d ∷ zs) (marked_pass p m drafts h))

marked_fail : (p : SavedDraft → Bool) (m : ℕ) (drafts : List Draft) → ((d : Draft) → p (saved_by m d) ≡ false) → filter p (marked m drafts) ≡ []
marked_fail p m [] h = refl
marked_fail p m (d ∷ drafts) h = rw (h d) (marked_fail p m drafts h)

-- or that looks at the draft alone
marked_by : (p : SavedDraft → Bool) (q : Draft → Bool) (m : ℕ) (drafts : List Draft) → ((d : Draft) → p (saved_by m d) ≡ q d) → filter p (marked m drafts) ≡ marked m (filter q drafts)
marked_by p q m [] h = refl
marked_by p q m (d ∷ drafts) h = rw (h d) (by_test (q d) (marked_by p q m drafts h))
  where
    by_test : (b : Bool) → filter p (marked m drafts) ≡ marked m (filter q drafts) → cond b (saved_by m d ∷ filter p (marked m drafts)) (filter p (marked m drafts)) ≡ marked m (cond b (d ∷ filter q drafts) (filter q drafts))
    by_test true e = ap (λ zs. saved_by m d ∷ zs) e
    by_test false e = e

marked-append : (m : ℕ) (xs ys : List Draft) → marked m (xs ++ ys) ≡ marked m xs ++ marked m ys
marked-append m [] ys = refl
marked-append m (x ∷ xs) ys = ap (λ zs. saved_by m x ∷ zs) (marked-append m xs ys)

unmarked : (m : ℕ) (drafts : List Draft) → map (λ (x : SavedDraft). x.draft) (marked m drafts) ≡ drafts
unmarked m [] = refl
unmarked m (d ∷ drafts) = ap (λ zs. d ∷ zs) (unmarked m drafts)

module _ (n : ℕ) (draft : Draft) where
  abbrev new : SavedDraft
  new = saved_by n draft

  abbrev low : SavedDraft → Bool
  low x = comes_before x new

  abbrev high : SavedDraft → Bool
  high x = comes_before new x

  low_above : (m : ℕ) (d : Draft) → nat_lt n m ≡ true → comes_before (saved_by m d) new ≡ false
  low_above m d less =
      let no_less : nat_lt m n ≡ false = grind (arith, nat_tests, less) in
      let other : (m == n) ≡ false = grind (arith, nat_tests, less) in
      rw (no_less, other) refl

  high_above : (m : ℕ) (d : Draft) → nat_lt n m ≡ true → comes_before new (saved_by m d) ≡ true
  high_above m d less = rw less refl

  low_below : (m : ℕ) (d : Draft) → nat_lt m n ≡ true → comes_before (saved_by m d) new ≡ true
  low_below m d less = rw less refl

  high_below : (m : ℕ) (d : Draft) → nat_lt m n ≡ true → comes_before new (saved_by m d) ≡ false
  high_below m d less =
      let no_less : nat_lt n m ≡ false = grind (arith, nat_tests, less) in
      let other : (n == m) ≡ false = grind (arith, nat_tests, less) in
      rw (no_less, other) refl

  low_here : (d : Draft) → comes_before (saved_by n d) new ≡ nat_lt d.place draft.place
  low_here d =
      let no_less : nat_lt n n ≡ false = grind (arith, nat_tests) in
      let same : (n == n) ≡ true = grind (arith, nat_tests) in
      rw (no_less, same) refl

  high_here : (d : Draft) → comes_before new (saved_by n d) ≡ nat_lt draft.place d.place
  high_here d =
      let no_less : nat_lt n n ≡ false = grind (arith, nat_tests) in
      let same : (n == n) ≡ true = grind (arith, nat_tests) in
      rw (no_less, same) refl

module _ {A : Type 0} where
  pub saved-append : (xs ys : List (AnyCheckOut A)) → saved (xs ++ ys) ≡ saved xs ++ saved ys
  saved-append [] ys = refl
  saved-append (x ∷ xs) ys = ap (λ zs. marked (number_of x) (own_drafts x) ++ zs) (saved-append xs ys) ∙ sym (append_assoc (marked (number_of x) (own_drafts x)) (saved xs) (saved ys))

  -- where a test fails, or passes, for each check-out of a list
  saved_fail : (p : SavedDraft → Bool) (xs : List (AnyCheckOut A)) → AllByRecursion (λ c. (d : Draft) → p (saved_by (number_of c) d) ≡ false) xs → filter p (saved xs) ≡ []
  saved_fail p [] all = refl
  saved_fail p (x ∷ xs) all = filter-append p (marked (number_of x) (own_drafts x)) (saved xs) ∙ rw (marked_fail p (number_of x) (own_drafts x) all.0) (saved_fail p xs all.1)

  saved_pass : (p : SavedDraft → Bool) (xs : List (AnyCheckOut A)) → AllByRecursion (λ c. (d : Draft) → p (saved_by (number_of c) d) ≡ true) xs → filter p (saved xs) ≡ saved xs
  saved_pass p [] all = refl
  saved_pass p (x ∷ xs) all = filter-append p (marked (number_of x) (own_drafts x)) (saved xs) ∙ rw (marked_pass p (number_of x) (own_drafts x) all.0) (ap (λ zs. marked (number_of x) (own_drafts x) ++ zs) (saved_pass p xs all.1))

  weaker : (P Q : AnyCheckOut A → Type 0) (xs : List (AnyCheckOut A)) → ((c : AnyCheckOut A) → P c → Q c) → AllByRecursion P xs → AllByRecursion Q xs
  weaker P Q [] h all = tt
  weaker P Q (x ∷ xs) h all = (h x all.0, weaker P Q xs h all.1)

  module _ (n : ℕ) where
    above : AnyCheckOut A → Type 0
    above c = nat_lt n (number_of c) ≡ true

    -- what holds of each holds of the one that is found
    found_holds : (P : AnyCheckOut A → Type 0) (xs : List (AnyCheckOut A)) → AllByRecursion P xs → is_some (check_out_of xs n) ≡ true → (c : AnyCheckOut A) × (number_of c ≡ n) × P c
    found_holds P [] all some = cc
    found_holds P (x ∷ xs) all some = by_test (number_of x == n) refl some (found_holds P xs all.1)
      where
        by_test : (b : Bool) → (number_of x == n) ≡ b → is_some (cond b (Some x) (check_out_of xs n)) ≡ true → (is_some (check_out_of xs n) ≡ true → (c : AnyCheckOut A) × (number_of c ≡ n) × P c) → (c : AnyCheckOut A) × (number_of c ≡ n) × P c
        by_test true e h rest = (x, eq_from (number_of x) n e, all.0)
        by_test false e h rest = rest h

    open_there : (xs : List (AnyCheckOut A)) → is_open xs n ≡ true → is_some (check_out_of xs n) ≡ true
    open_there xs h = by_case (check_out_of xs n) h
      where
        by_case : (o : Option (AnyCheckOut A)) → option_map_or is_granted o false ≡ true → is_some o ≡ true
        by_case None h = cc
        by_case (Some c) h = refl

    module _ (draft : Draft) where
      -- the drafts of all, with one more in the check-out of this number
      pub saved_is : (xs : List (AnyCheckOut A)) → IsAscending xs → is_open xs n ≡ true → saved (with_saved xs n draft) ≡ with_draft (saved xs) (new n draft)
      unfolding IsAscending
      saved_is [] ascending opened = cc
      saved_is (x ∷ xs) ascending opened = by_test (number_of x == n) refl opened (saved_is xs ascending.1)
        where
          by_test : (b : Bool) → (number_of x == n) ≡ b → option_map_or is_granted (cond b (Some x) (check_out_of xs n)) false ≡ true → (is_open xs n ≡ true → saved (with_saved xs n draft) ≡ with_draft (saved xs) (new n draft))
              → saved (cond b (saving draft x ∷ xs) (x ∷ with_saved xs n draft)) ≡ with_draft (saved (x ∷ xs)) (new n draft)
          by_test true e h rest = by_type x (eq_from (number_of x) n e) ascending.0 h
            where
              by_type : (y : AnyCheckOut A) → number_of y ≡ n → AllByRecursion (λ d. nat_lt (number_of y) (number_of d) ≡ true) xs → is_granted y ≡ true → saved (saving draft y ∷ xs) ≡ with_draft (saved (y ∷ xs)) (new n draft)
              by_type (Waiting c) own rise h = cc
              by_type (Held c) own rise h =
                  let all : AllByRecursion (λ d. nat_lt n (number_of d) ≡ true) xs = subst (λ k. AllByRecursion (λ d. nat_lt k (number_of d) ≡ true) xs) own rise in
                  let low_rest : filter (low n draft) (saved xs) ≡ [] = saved_fail (low n draft) xs (weaker (λ d. nat_lt n (number_of d) ≡ true) (λ c. (d : Draft) → low n draft (saved_by (number_of c) d) ≡ false) xs (λ c less d. low_above n draft (number_of c) d less) all) in
                  let high_rest : filter (high n draft) (saved xs) ≡ saved xs = saved_pass (high n draft) xs (weaker (λ d. nat_lt n (number_of d) ≡ true) (λ c. (d : Draft) → high n draft (saved_by (number_of c) d) ≡ true) xs (λ c less d. high_above n draft (number_of c) d less) all) in
                  let low_own : filter (low n draft) (marked n c.state) ≡ marked n (filter (λ (d : Draft). nat_lt d.place draft.place) c.state) = marked_by (low n draft) (λ (d : Draft). nat_lt d.place draft.place) n c.state (low_here n draft) in
                  let high_own : filter (high n draft) (marked n c.state) ≡ marked n (filter (λ (d : Draft). nat_lt draft.place d.place) c.state) = marked_by (high n draft) (λ (d : Draft). nat_lt draft.place d.place) n c.state (high_here n draft) in
                  let lows : filter (low n draft) (marked n c.state ++ saved xs) ≡ marked n (filter (λ (d : Draft). nat_lt d.place draft.place) c.state) = filter-append (low n draft) (marked n c.state) (saved xs) ∙ rw (low_own, low_rest) (append-nil _) in
                  let highs : filter (high n draft) (marked n c.state ++ saved xs) ≡ marked n (filter (λ (d : Draft). nat_lt draft.place d.place) c.state) ++ saved xs = filter-append (high n draft) (marked n c.state) (saved xs) ∙ rw (high_own, high_rest) refl in
                  rw own (rw (lows, highs) (
                  ap (λ zs. zs ++ saved xs) (marked-append n (filter (λ (d : Draft). nat_lt d.place draft.place) c.state) (draft ∷ filter (λ (d : Draft). nat_lt draft.place d.place) c.state))
                  ∙ append_assoc (marked n (filter (λ (d : Draft). nat_lt d.place draft.place) c.state)) (new n draft ∷ marked n (filter (λ (d : Draft). nat_lt draft.place d.place) c.state)) (saved xs)
                  ))
          by_test false e h rest =
              let there = found_holds (λ d. nat_lt (number_of x) (number_of d) ≡ true) xs ascending.0 (open_there xs h) in
              let less : nat_lt (number_of x) n ≡ true = subst (λ k. nat_lt (number_of x) k ≡ true) there.1 there.2 in
              let low_own : filter (low n draft) (marked (number_of x) (own_drafts x)) ≡ marked (number_of x) (own_drafts x) = marked_pass (low n draft) (number_of x) (own_drafts x) (λ d. low_below n draft (number_of x) d less) in
              let high_own : filter (high n draft) (marked (number_of x) (own_drafts x)) ≡ [] = marked_fail (high n draft) (number_of x) (own_drafts x) (λ d. high_below n draft (number_of x) d less) in
              let lows : filter (low n draft) (saved (x ∷ xs)) ≡ marked (number_of x) (own_drafts x) ++ filter (low n draft) (saved xs) = filter-append (low n draft) (marked (number_of x) (own_drafts x)) (saved xs) ∙ rw low_own refl in
              let highs : filter (high n draft) (saved (x ∷ xs)) ≡ filter (high n draft) (saved xs) = filter-append (high n draft) (marked (number_of x) (own_drafts x)) (saved xs) ∙ rw high_own refl in
              rw (lows, highs) (ap (λ zs. marked (number_of x) (own_drafts x) ++ zs) (rest h) ∙ sym (append_assoc (marked (number_of x) (own_drafts x)) (filter (low n draft) (saved xs)) (new n draft ∷ filter (high n draft) (saved xs))))

    -- the drafts of one check-out among all
    pub drafts_are : (xs : List (AnyCheckOut A)) → IsAscending xs → drafts_of (saved xs) n ≡ drafts_at xs n
    unfolding IsAscending
    drafts_are [] ascending = refl
    drafts_are (x ∷ xs) ascending = by_test (number_of x == n) refl (drafts_are xs ascending.1)
      where
        split : filter (λ (y : SavedDraft). y.claim == n) (saved (x ∷ xs)) ≡ filter (λ (y : SavedDraft). y.claim == n) (marked (number_of x) (own_drafts x)) ++ filter (λ (y : SavedDraft). y.claim == n) (saved xs)
        split = filter-append (λ (y : SavedDraft). y.claim == n) (marked (number_of x) (own_drafts x)) (saved xs)

        by_test : (b : Bool) → (number_of x == n) ≡ b → drafts_of (saved xs) n ≡ drafts_at xs n → drafts_of (saved (x ∷ xs)) n ≡ option_map_or own_drafts (cond b (Some x) (check_out_of xs n)) []
        by_test true e rest =
            let own : number_of x ≡ n = eq_from (number_of x) n e in
            let mine : filter (λ (y : SavedDraft). y.claim == n) (marked (number_of x) (own_drafts x)) ≡ marked (number_of x) (own_drafts x) = marked_pass (λ (y : SavedDraft). y.claim == n) (number_of x) (own_drafts x) (λ d. e) in
            let all : AllByRecursion (λ d. nat_lt n (number_of d) ≡ true) xs = subst (λ k. AllByRecursion (λ d. nat_lt k (number_of d) ≡ true) xs) own ascending.0 in
            let none : filter (λ (y : SavedDraft). y.claim == n) (saved xs) ≡ [] = saved_fail (λ (y : SavedDraft). y.claim == n) xs (weaker (λ d. nat_lt n (number_of d) ≡ true) (λ c. (d : Draft) → (number_of c == n) ≡ false) xs (λ c less d. grind (arith, nat_tests, less)) all) in
            ap (map (λ (y : SavedDraft). y.draft)) (split ∙ rw (mine, none) (append-nil _)) ∙ unmarked (number_of x) (own_drafts x)
        by_test false e rest = ap (map (λ (y : SavedDraft). y.draft)) (split ∙ rw (marked_fail (λ (y : SavedDraft). y.claim == n) (number_of x) (own_drafts x) (λ d. e)) refl) ∙ rest

    -- and those of the others
    pub others_are : (xs : List (AnyCheckOut A)) → saved (without_check_out xs n) ≡ without_drafts (saved xs) n
    others_are [] = refl
    others_are (x ∷ xs) = by_test (number_of x == n) refl (others_are xs)
      where
        split : without_drafts (saved (x ∷ xs)) n ≡ without_drafts (marked (number_of x) (own_drafts x)) n ++ without_drafts (saved xs) n
        split = filter-append (λ (y : SavedDraft). not (y.claim == n)) (marked (number_of x) (own_drafts x)) (saved xs)

        by_test : (b : Bool) → (number_of x == n) ≡ b → saved (without_check_out xs n) ≡ without_drafts (saved xs) n → saved (cond (not b) (x ∷ without_check_out xs n) (without_check_out xs n)) ≡ without_drafts (saved (x ∷ xs)) n
        by_test true e rest = rest ∙ sym (split ∙ rw (marked_fail (λ (y : SavedDraft). not (y.claim == n)) (number_of x) (own_drafts x) (λ d. rw e refl)) refl)
        by_test false e rest = ap (λ zs. marked (number_of x) (own_drafts x) ++ zs) rest ∙ sym (split ∙ rw (marked_pass (λ (y : SavedDraft). not (y.claim == n)) (number_of x) (own_drafts x) (λ d. rw e refl)) refl)

    -- with one more draft the numbers stay, and the check-out has it
    number_saving : (draft : Draft) (c : AnyCheckOut A) → number_of (saving draft c) ≡ number_of c
    number_saving draft (Waiting c) = refl
    number_saving draft (Held c) = refl

    all_saved : (P : ℕ → Type 0) (draft : Draft) (xs : List (AnyCheckOut A)) → AllByRecursion (λ c. P (number_of c)) xs → AllByRecursion (λ c. P (number_of c)) (with_saved xs n draft)
    all_saved P draft [] all = tt
    all_saved P draft (x ∷ xs) all = by_test (number_of x == n) (all_saved P draft xs all.1)
      where
        by_test : (b : Bool) → AllByRecursion (λ c. P (number_of c)) (with_saved xs n draft) → AllByRecursion (λ c. P (number_of c)) (cond b (saving draft x ∷ xs) (x ∷ with_saved xs n draft))
        by_test true rest = (subst P (sym (number_saving draft x)) all.0, all.1)
        by_test false rest = (all.0, rest)

    pub ascending_saved : (draft : Draft) (xs : List (AnyCheckOut A)) → IsAscending xs → IsAscending (with_saved xs n draft)
    unfolding IsAscending
    ascending_saved draft [] ascending = tt
    ascending_saved draft (x ∷ xs) ascending = by_test (number_of x == n) (ascending_saved draft xs ascending.1)
      where
        by_test : (b : Bool) → IsAscending (with_saved xs n draft) → IsAscending (cond b (saving draft x ∷ xs) (x ∷ with_saved xs n draft))
        by_test true rest = (subst (λ k. AllByRecursion (λ d. nat_lt k (number_of d) ≡ true) xs) (sym (number_saving draft x)) ascending.0, ascending.1)
        by_test false rest = (all_saved (λ k. nat_lt (number_of x) k ≡ true) draft xs ascending.0, rest)

    pub at_saved : (draft : Draft) (xs : List (AnyCheckOut A)) → is_open xs n ≡ true → drafts_at (with_saved xs n draft) n ≡ with_own (drafts_at xs n) draft
    at_saved draft [] opened = cc
    at_saved draft (x ∷ xs) opened = by_test (number_of x == n) refl opened (at_saved draft xs)
      where
        by_test : (b : Bool) → (number_of x == n) ≡ b → option_map_or is_granted (cond b (Some x) (check_out_of xs n)) false ≡ true → (is_open xs n ≡ true → drafts_at (with_saved xs n draft) n ≡ with_own (drafts_at xs n) draft)
            → drafts_at (cond b (saving draft x ∷ xs) (x ∷ with_saved xs n draft)) n ≡ with_own (option_map_or own_drafts (cond b (Some x) (check_out_of xs n)) []) draft
        by_test true e h rest = by_type x e h
          where
            by_type : (y : AnyCheckOut A) → (number_of y == n) ≡ true → is_granted y ≡ true → drafts_at (saving draft y ∷ xs) n ≡ with_own (own_drafts y) draft
            by_type (Waiting c) e h = cc
            by_type (Held c) e h = rw e refl
        by_test false e h rest = rw e (rest h)
