-- What drafts weigh, with one more and without.
use Rattle.std.specs.Prelude.{◌≡◌, ℕ, suc, ◌+◌, ◌-◌, ◌<◌, ◌≤◌, ◌==◌, ◌&&◌, nat_lt, nat_le, Bool, true, false, not, List, [], ◌∷◌, ◌++◌, length, map, filter, drop, Some, count_by, sum_by, refl}
use Rattle.std.specs.Option.{option_map_or}
use Rattle.std.proofs.Common.{arith, ap, sym, cond, ◌∙◌, length-append, get_or, Fits, w64}
use Rattle.std.proofs.lemmas.List.{at_drop_all, at_drop_more}
use Rattle.std.proofs.lemmas.List.Sums.{sum_by-cons, length-filter}
use Rattle.std.proofs.lemmas.Bool.Decides.{nat_tests}
use Rattle.vault_state.specs.Shelf.{Draft, content_weight, drafts_weight, weight, draft_at}
use Rattle.vault_state.specs.Drafts.{SavedDraft, with_draft, drafts_of, saved_weight, saved_by}
use Rattle.vault_state.specs.Limits.{longest_content, most_drafts, most_weight, extra_weight}
use Rattle.vault_state.specs.Vault.{Vault, new_vault, weight_of}
use Rattle.vault_model.specs.Step.{may_save}
use Rattle.vault_state.proofs.Shelves.{true_le}
use Rattle.vault_state.proofs.Overlaps.{and_both}
use Rattle.check_outs.specs.CheckOuts.{with_own, beside}
use Rattle.check_outs.specs.declared.any.AnyCheckOut.{AnyCheckOut}
use Rattle.check_outs.specs.declared.any.AnyCheckOut.TheVariants.{Waiting, Held}
use Rattle.check_outs.specs.Typed.{number_of, is_granted, own_drafts, marked, saved, check_out_of, saving, with_saved, is_open, drafts_at, IsAscending}
use Rattle.check_outs.specs.Parts.{AreLight}
use Rattle.check_outs.proofs.Steps.{one_taken}
use Rattle.check_outs.proofs.AllDrafts.{saved_is, drafts_are, ascending_saved, at_saved}

pub weight-cons : (x : Draft) (xs : List Draft) → drafts_weight (x ∷ xs) ≡ content_weight x.content + drafts_weight xs
weight-cons x xs = sum_by-cons (λ (d : Draft). content_weight d.content) x xs

pub weight-append : (xs ys : List Draft) → drafts_weight (xs ++ ys) ≡ drafts_weight xs + drafts_weight ys
weight-append [] ys = omega arith
weight-append (x ∷ xs) ys = let e = weight-cons x (xs ++ ys) in let f = weight-cons x xs in let g = weight-append xs ys in omega arith

-- drafts weighed one by one
module _ (xs : List Draft) (i : ℕ) where
  weight_taken : (x : Draft) → i < length xs → x ≡ get_or xs i x → drafts_weight (drop i xs) ≡ content_weight x.content + drafts_weight (drop (i + 1) xs)
  weight_taken = one_taken drafts_weight (λ (d : Draft). content_weight d.content) weight-cons xs i

  module _ (sum all : ℕ) (so_far : sum + drafts_weight (drop i xs) ≡ all) where
    pub weighed_all : length xs ≤ i → sum ≡ all
    weighed_all past = let none = at_drop_all drafts_weight xs i past in omega arith

    module _ (x : Draft) (content : List ℕ) (inside : i < length xs) (is : x ≡ get_or xs i x) (same : content ≡ x.content) where
      pub weighed_next : sum + (length content + 8) + drafts_weight (drop (i + 1) xs) ≡ all
      weighed_next = let taken = weight_taken x inside is in let size = ap length same in omega arith

      pub weighed_fits : all ≤ most_weight → Fits w64 (sum + (length content + 8))
      weighed_fits light = let next = weighed_next in omega arith

  -- the room that is left after them
  module _ (room left : ℕ) (so_far : left + drafts_weight xs ≡ room + drafts_weight (drop i xs)) where
    pub left_all : length xs ≤ i → left + drafts_weight xs ≡ room
    left_all past = let none = at_drop_all drafts_weight xs i past in omega arith

    module _ (x : Draft) (inside : i < length xs) (is : x ≡ get_or xs i x) where
      pub left_short : (8 ≤ left → ⊥) → room < drafts_weight xs
      left_short short = let taken = weight_taken x inside is in omega arith

      module _ (less : ℕ) (content : List ℕ) (first : (8 ≤ left) × (less ≡ left - 8)) (same : content ≡ x.content) where
        pub left_shorter : (length content ≤ less → ⊥) → room < drafts_weight xs
        left_shorter short = let taken = weight_taken x inside is in let size = ap length same in omega arith

        pub left_next : (new : ℕ) → (length content ≤ less) × (new ≡ less - length content) → new + drafts_weight xs ≡ room + drafts_weight (drop (i + 1) xs)
        left_next new second = let taken = weight_taken x inside is in let size = ap length same in omega arith

-- the same for the drafts of all check-outs after a shelf
module _ (shelf : List (List (List ℕ))) (xs : List (List Draft)) (i room : ℕ) (so_far : room + weight shelf + sum_by drafts_weight xs ≡ most_weight + sum_by drafts_weight (drop i xs)) where
  pub light_all : length xs ≤ i → AreLight shelf xs
  light_all past = let none = at_drop_all (sum_by drafts_weight) xs i past in omega arith

  module _ (x own : List Draft) (inside : i < length xs) (is : x ≡ get_or xs i x) (same : own ≡ x) where
    own_taken : sum_by drafts_weight (drop i xs) ≡ drafts_weight own + sum_by drafts_weight (drop (i + 1) xs)
    own_taken = one_taken (sum_by drafts_weight) drafts_weight (sum_by-cons drafts_weight) xs i x inside is ∙ ap (λ ys. drafts_weight ys + sum_by drafts_weight (drop (i + 1) xs)) (sym same)

    pub light_next : (left : ℕ) → left + drafts_weight own ≡ room → left + weight shelf + sum_by drafts_weight xs ≡ most_weight + sum_by drafts_weight (drop (i + 1) xs)
    light_next left e = let taken = own_taken in omega arith

    pub too_heavy : room < drafts_weight own → AreLight shelf xs → ⊥
    too_heavy short light = let taken = own_taken in omega arith

module _ (place : ℕ) where
  abbrev low : Draft → Bool
  low x = nat_lt x.place place

  abbrev high : Draft → Bool
  high x = nat_lt place x.place

  abbrev other : Draft → Bool
  other x = not (x.place == place)

  -- a draft of another place is at a lower or at a higher one, so the sum over the others is the sum over both kinds
  split : (total : List Draft → ℕ) (of_one : Draft → ℕ) → total [] ≡ 0 → ((x : Draft) (xs : List Draft) → total (x ∷ xs) ≡ of_one x + total xs) → (xs : List Draft) → total (filter low xs) + total (filter high xs) ≡ total (filter other xs)
  split total of_one none adds [] = omega arith
  split total of_one none adds (x ∷ xs) = by_tests (nat_lt x.place place) refl (nat_lt place x.place) refl (x.place == place) refl (split total of_one none adds xs)
    where
      by_tests : (u : Bool) → nat_lt x.place place ≡ u → (w : Bool) → nat_lt place x.place ≡ w → (t : Bool) → (x.place == place) ≡ t → total (filter low xs) + total (filter high xs) ≡ total (filter other xs)
          → total (cond u (x ∷ filter low xs) (filter low xs)) + total (cond w (x ∷ filter high xs) (filter high xs)) ≡ total (cond (not t) (x ∷ filter other xs) (filter other xs))
      by_tests true e true f t g h = let no : ⊥ = grind (arith, nat_tests, e, f) in absurd no
      by_tests true e false f true g h = let no : ⊥ = grind (arith, nat_tests, e, g) in absurd no
      by_tests true e false f false g h = let a = adds x (filter low xs) in let b = adds x (filter other xs) in omega arith
      by_tests false e true f true g h = let no : ⊥ = grind (arith, nat_tests, f, g) in absurd no
      by_tests false e true f false g h = let a = adds x (filter high xs) in let b = adds x (filter other xs) in omega arith
      by_tests false e false f true g h = h
      by_tests false e false f false g h = let no : ⊥ = grind (arith, nat_tests, e, f, g) in absurd no

  counts_split : (xs : List Draft) → length (filter low xs) + length (filter high xs) ≡ length (filter other xs)
  counts_split xs = split length (λ x. 1) refl (λ x xs. omega arith) xs

  weights_split : (xs : List Draft) → drafts_weight (filter low xs) + drafts_weight (filter high xs) ≡ drafts_weight (filter other xs)
  weights_split xs = split drafts_weight (λ x. content_weight x.content) refl weight-cons xs

  pub weight_less : (xs : List Draft) → drafts_weight (beside xs place) ≤ drafts_weight xs
  weight_less [] = omega arith
  weight_less (x ∷ xs) = by_test (other x) (weight_less xs)
    where
      by_test : (b : Bool) → drafts_weight (filter other xs) ≤ drafts_weight xs → drafts_weight (cond b (x ∷ filter other xs) (filter other xs)) ≤ drafts_weight (x ∷ xs)
      by_test true h = let a = weight-cons x (filter other xs) in let b = weight-cons x xs in omega arith
      by_test false h = let b = weight-cons x xs in omega arith

-- the drafts of other places weighed one by one
module _ (xs : List Draft) (i place sum part all : ℕ) (x : Draft) (inside : i < length xs) (is : x ≡ get_or xs i x)
    (so_far : sum + drafts_weight (beside (drop i xs) place) ≡ part) (bound : sum + drafts_weight (drop i xs) ≤ all) where
  beside_is : drafts_weight (beside (drop i xs) place) ≡ drafts_weight (beside (x ∷ drop (i + 1) xs) place)
  beside_is = at_drop_more (λ ys. drafts_weight (beside ys place)) xs i x inside ∙ ap (λ (y : Draft). drafts_weight (beside (y ∷ drop (i + 1) xs) place)) (sym is)

  pub beside_next : (new : ℕ) (content : List ℕ) → not (x.place == place) ≡ true → content ≡ x.content → new ≡ sum + (length content + 8)
      → record { sum : new + drafts_weight (beside (drop (i + 1) xs) place) ≡ part; bound : new + drafts_weight (drop (i + 1) xs) ≤ all }
  beside_next new content other same e =
      let one : drafts_weight (beside (x ∷ drop (i + 1) xs) place) ≡ content_weight x.content + drafts_weight (beside (drop (i + 1) xs) place) = rw other (weight-cons x (beside (drop (i + 1) xs) place)) in
      let rest = beside_is in
      let taken = weight_taken xs i x inside is in
      let size = ap length same in
      record { sum = omega arith; bound = omega arith }

  pub beside_same : (new : ℕ) → not (x.place == place) ≡ false → new ≡ sum
      → record { sum : new + drafts_weight (beside (drop (i + 1) xs) place) ≡ part; bound : new + drafts_weight (drop (i + 1) xs) ≤ all }
  beside_same new own e =
      let one : drafts_weight (beside (x ∷ drop (i + 1) xs) place) ≡ drafts_weight (beside (drop (i + 1) xs) place) = rw own refl in
      let rest = beside_is in
      let taken = weight_taken xs i x inside is in
      record { sum = omega arith; bound = omega arith }

-- one more than the drafts of other places, and its weight with theirs
pub length-with_own : (own : List Draft) (new : Draft) → length (with_own own new) ≡ suc (length (beside own new.place))
length-with_own own new =
    let split = counts_split new.place own in
    let all = length-append (filter (λ (x : Draft). nat_lt x.place new.place) own) (new ∷ filter (λ (x : Draft). nat_lt new.place x.place) own) in
    omega arith

pub weight-with_own : (own : List Draft) (new : Draft) → drafts_weight (with_own own new) ≡ content_weight new.content + drafts_weight (beside own new.place)
weight-with_own own new =
    let split = weights_split new.place own in
    let all = weight-append (filter (λ (x : Draft). nat_lt x.place new.place) own) (new ∷ filter (λ (x : Draft). nat_lt new.place x.place) own) in
    let first = weight-cons new (filter (λ (x : Draft). nat_lt new.place x.place) own) in
    omega arith

unmarked-append : (m : ℕ) (own : List Draft) (rest : List SavedDraft) → saved_weight (marked m own ++ rest) ≡ drafts_weight own + saved_weight rest
unmarked-append m [] rest = omega arith
unmarked-append m (x ∷ own) rest =
    let a = weight-cons x (map (λ (y : SavedDraft). y.draft) (marked m own ++ rest)) in
    let b = weight-cons x own in
    let c = unmarked-append m own rest in
    omega arith

module _ {A : Type 0} where
  pub saved_weight-cons : (c : AnyCheckOut A) (xs : List (AnyCheckOut A)) → saved_weight (saved (c ∷ xs)) ≡ drafts_weight (own_drafts c) + saved_weight (saved xs)
  saved_weight-cons c xs = unmarked-append (number_of c) (own_drafts c) (saved xs)

  -- check-outs weighed one by one
  module _ (xs : List (AnyCheckOut A)) (i sum all : ℕ) (so_far : sum + saved_weight (saved (drop i xs)) ≡ all) where
    pub saved_all : length xs ≤ i → sum ≡ all
    saved_all past = let none = at_drop_all (λ ys. saved_weight (saved ys)) xs i past in omega arith

    module _ (x : AnyCheckOut A) (own : List Draft) (inside : i < length xs) (is : x ≡ get_or xs i x) (same : own ≡ own_drafts x) where
      saved_taken : saved_weight (saved (drop i xs)) ≡ drafts_weight own + saved_weight (saved (drop (i + 1) xs))
      saved_taken =
          one_taken (λ ys. saved_weight (saved ys)) (λ y. drafts_weight (own_drafts y)) saved_weight-cons xs i x inside is
          ∙ ap (λ ys. drafts_weight ys + saved_weight (saved (drop (i + 1) xs))) (sym same)

      pub own_within : all ≤ most_weight → drafts_weight own ≤ most_weight
      own_within light = let taken = saved_taken in omega arith

      pub saved_next : (w : ℕ) → w ≡ drafts_weight own → sum + w + saved_weight (saved (drop (i + 1) xs)) ≡ all
      saved_next w e = let taken = saved_taken in omega arith

      pub saved_fits : (w : ℕ) → w ≡ drafts_weight own → all ≤ most_weight → Fits w64 (sum + w)
      saved_fits w e light = let next = saved_next w e in omega arith

  -- a check-out's drafts weigh no more than all
  pub own_lighter : (xs : List (AnyCheckOut A)) (n : ℕ) → drafts_weight (drafts_at xs n) ≤ saved_weight (saved xs)
  own_lighter [] n = omega arith
  own_lighter (x ∷ xs) n = by_test (number_of x == n) (own_lighter xs n)
    where
      by_test : (b : Bool) → drafts_weight (drafts_at xs n) ≤ saved_weight (saved xs) → drafts_weight (option_map_or own_drafts (cond b (Some x) (check_out_of xs n)) []) ≤ saved_weight (saved (x ∷ xs))
      by_test true h = let all = saved_weight-cons x xs in omega arith
      by_test false h = let all = saved_weight-cons x xs in omega arith

  -- what all weigh with one more draft in a held check-out
  weight-with_saved : (xs : List (AnyCheckOut A)) (n : ℕ) (draft : Draft) → is_open xs n ≡ true
      → saved_weight (saved (with_saved xs n draft)) + drafts_weight (drafts_at xs n) ≡ saved_weight (saved xs) + drafts_weight (with_own (drafts_at xs n) draft)
  weight-with_saved [] n draft opened = cc
  weight-with_saved (x ∷ xs) n draft opened = by_test (number_of x == n) opened (weight-with_saved xs n draft)
    where
      by_test : (b : Bool) → option_map_or is_granted (cond b (Some x) (check_out_of xs n)) false ≡ true
          → (is_open xs n ≡ true → saved_weight (saved (with_saved xs n draft)) + drafts_weight (drafts_at xs n) ≡ saved_weight (saved xs) + drafts_weight (with_own (drafts_at xs n) draft))
          → saved_weight (saved (cond b (saving draft x ∷ xs) (x ∷ with_saved xs n draft))) + drafts_weight (option_map_or own_drafts (cond b (Some x) (check_out_of xs n)) [])
          ≡ saved_weight (saved (x ∷ xs)) + drafts_weight (with_own (option_map_or own_drafts (cond b (Some x) (check_out_of xs n)) []) draft)
      by_test true h rest = by_type x h
        where
          by_type : (y : AnyCheckOut A) → is_granted y ≡ true → saved_weight (saved (saving draft y ∷ xs)) + drafts_weight (own_drafts y) ≡ saved_weight (saved (y ∷ xs)) + drafts_weight (with_own (own_drafts y) draft)
          by_type (Waiting c) h = cc
          by_type (Held c) h = let new = saved_weight-cons (saving draft (Held c)) xs in let old = saved_weight-cons (Held c) xs in omega arith
      by_test false h rest = let new = saved_weight-cons x (with_saved xs n draft) in let old = saved_weight-cons x xs in let same = rest h in omega arith

  module _ (shelf : List (List (List ℕ))) (xs : List (AnyCheckOut A)) (n place : ℕ) (content : List ℕ) (ascending : IsAscending xs) (opened : is_open xs n ≡ true) where
    abbrev vault : Vault
    vault = record new_vault { shelf = shelf; drafts = saved xs }

    abbrev draft : Draft
    draft = draft_at place content

    abbrev new : SavedDraft
    new = saved_by n draft

    count_is : length (drafts_of (with_draft (saved xs) new) n) ≡ suc (length (beside (drafts_at xs n) place))
    count_is =
        ap (λ all. length (drafts_of all n)) (sym (saved_is n draft xs ascending opened))
        ∙ ap length (drafts_are n (with_saved xs n draft) (ascending_saved n draft xs ascending) ∙ at_saved n draft xs opened)
        ∙ length-with_own (drafts_at xs n) draft

    weight_is : weight_of (record vault { drafts = with_draft (saved xs) new }) + drafts_weight (drafts_at xs n) ≡ weight shelf + saved_weight (saved xs) + length content + extra_weight + drafts_weight (beside (drafts_at xs n) place)
    weight_is =
        let same = ap saved_weight (saved_is n draft xs ascending opened) in
        let all = weight-with_saved xs n draft opened in
        let own = weight-with_own (drafts_at xs n) draft in
        omega arith

    pub own_light : weight shelf + saved_weight (saved xs) ≤ most_weight → drafts_weight (drafts_at xs n) ≤ most_weight
    own_light light = let less = own_lighter xs n in omega arith

    pub too_long : longest_content < length content → false ≡ may_save vault new
    too_long long = let no : nat_le (length content) longest_content ≡ false = grind (arith, nat_tests, long) in rw no refl

    pub too_many : most_drafts ≤ count_by (λ (x : Draft). not (x.place == place)) (drafts_at xs n) → false ≡ may_save vault new
    too_many many =
        let counted = length-filter (λ (x : Draft). not (x.place == place)) (drafts_at xs n) in
        let here = count_is in
        let no : nat_le (length (drafts_of (with_draft (saved xs) new) n)) most_drafts ≡ false = grind (arith, nat_tests, many, counted, here) in
        rw no (by_first (nat_le (length content) longest_content))
      where
        by_first : (b : Bool) → false ≡ ((b && false) && nat_le (weight_of (record vault { drafts = with_draft (saved xs) new })) most_weight)
        by_first true = refl
        by_first false = refl

    pub by_weight : (w sum own beside_own : ℕ) → length content ≤ longest_content → count_by (λ (x : Draft). not (x.place == place)) (drafts_at xs n) < most_drafts
        → w ≡ weight shelf → sum ≡ saved_weight (saved xs) → own ≡ drafts_weight (drafts_at xs n) → beside_own ≡ drafts_weight (beside (drafts_at xs n) place)
        → nat_le (w + (sum - own + beside_own) + length content + 8) most_weight ≡ may_save vault new
    by_weight w sum own beside_own short few e f g h =
        let counted = length-filter (λ (x : Draft). not (x.place == place)) (drafts_at xs n) in
        let here = count_is in
        let all = weight_is in
        let less = own_lighter xs n in
        let first : nat_le (length content) longest_content ≡ true = grind (arith, nat_tests, short) in
        let second : nat_le (length (drafts_of (with_draft (saved xs) new) n)) most_drafts ≡ true = grind (arith, nat_tests, few, counted, here) in
        let same : w + (sum - own + beside_own) + length content + 8 ≡ weight_of (record vault { drafts = with_draft (saved xs) new }) = omega arith in
        rw (first, second, same) refl

-- what a draft that may be saved has
pub record May (v : Vault) (new : SavedDraft) : Type 0 where
  pub short : length new.draft.content ≤ longest_content
  pub few : length (drafts_of (with_draft v.drafts new) new.claim) ≤ most_drafts
  pub light : weight_of (record v { drafts = with_draft v.drafts new }) ≤ most_weight

pub may_is : (v : Vault) (new : SavedDraft) → may_save v new ≡ true → May v new
may_is v new may =
    let last = and_both (nat_le (length new.draft.content) longest_content && nat_le (length (drafts_of (with_draft v.drafts new) new.claim)) most_drafts) (nat_le (weight_of (record v { drafts = with_draft v.drafts new })) most_weight) may in
    let first = and_both (nat_le (length new.draft.content) longest_content) (nat_le (length (drafts_of (with_draft v.drafts new) new.claim)) most_drafts) last.0 in
    record { short = true_le (length new.draft.content) longest_content first.0; few = true_le (length (drafts_of (with_draft v.drafts new) new.claim)) most_drafts first.1; light = true_le (weight_of (record v { drafts = with_draft v.drafts new })) most_weight last.1 }
