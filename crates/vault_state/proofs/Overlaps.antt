-- Claims overlap, as sets of places, exactly where two of their items meet.
use Rattle.std.specs.Prelude.{◌≡◌, ℕ, zero, suc, ◌<◌, ◌≤◌, Bool, true, false, ◌||◌, ◌&&◌, ◌==◌, List, [], ◌∷◌, length, Option, None, Some, All, refl}
use Rattle.std.proofs.Common.{subst, sym, ◌∙◌, arith, ◌⊎◌, inl, inr}
use Rattle.std.specs.List.{list_any}
use Rattle.std.proofs.lemmas.Bool.{cases_lt}
use Rattle.std.proofs.lemmas.Bool.Decides.{nat_tests}
use Rattle.std.proofs.lemmas.List.Elements.{All-head, All-tail}
use Rattle.vault_state.specs.declared.place.Place.{Place}
use Rattle.vault_state.specs.declared.claims.Item.{Item}
use Rattle.vault_state.specs.Tree.{parent_of, is_under}
use Rattle.vault_state.specs.Claims.{is_change, look_set, change_set, meet_below, meet, overlap}
use Rattle.vault_state.specs.Vault.{AreThere}
use Rattle.vault_state.proofs.Walks.{Rises, is_under-step, is_under-top, is_under-same}
use Rattle.vault_state.specs.Pairs.{pair_meets, pairs_meet}

pub or_cases : (a b : Bool) → (a || b) ≡ true → (a ≡ true) ⊎ (b ≡ true)
or_cases true b e = inl refl
or_cases false b e = inr e

pub or_left : (a b : Bool) → a ≡ true → (a || b) ≡ true
or_left true b e = refl
or_left false b e = cc

pub or_right : (a b : Bool) → b ≡ true → (a || b) ≡ true
or_right true b e = refl
or_right false b e = e

pub and_both : (a b : Bool) → (a && b) ≡ true → (a ≡ true) × (b ≡ true)
and_both true b e = (refl, e)
and_both false b e = cc

pub neither : (a b : Bool) → (a || b) ≡ false → (a ≡ false) × (b ≡ false)
neither true b e = cc
neither false b e = (refl, e)

pub and_intro : (a b : Bool) → a ≡ true → b ≡ true → (a && b) ≡ true
and_intro true b e f = f
and_intro false b e f = cc

-- two tests that imply each other are the same
pub same_test : (a b : Bool) → (a ≡ true → b ≡ true) → (b ≡ true → a ≡ true) → a ≡ b
same_test true b f g = sym (f refl)
same_test false true f g = g refl
same_test false false f g = refl

pub eq_from : (m n : ℕ) → (m == n) ≡ true → m ≡ n
eq_from m n e = grind (arith, nat_tests, e)

pub eq_itself : (n : ℕ) → (n == n) ≡ true
eq_itself n = grind (arith, nat_tests)

abbrev Comparable : List Place → ℕ → ℕ → Type 0
Comparable tree a b = (is_under tree a b || is_under tree b a) ≡ true

comparable_by : (tree : List Place) (p a b : ℕ) (o : Option ℕ) → parent_of tree p ≡ o → Rises tree → ((r : ℕ) → r < p → is_under tree r a ≡ true → is_under tree r b ≡ true → Comparable tree a b) → is_under tree p a ≡ true → is_under tree p b ≡ true → Comparable tree a b
comparable_by tree p a b None e rises ih ha hb =
    let same_a : p ≡ a = eq_from p a (sym (is_under-top tree p a e) ∙ ha) in
    or_left _ _ (subst (λ x. is_under tree x b ≡ true) same_a hb)
comparable_by tree p a b (Some r) e rises ih ha hb =
    by_cases (or_cases _ _ (sym (is_under-step tree p a r rises e) ∙ ha)) (or_cases _ _ (sym (is_under-step tree p b r rises e) ∙ hb))
  where
    by_cases : ((p == a) ≡ true) ⊎ (is_under tree r a ≡ true) → ((p == b) ≡ true) ⊎ (is_under tree r b ≡ true) → Comparable tree a b
    by_cases (inl h) other = or_left _ _ (subst (λ x. is_under tree x b ≡ true) (eq_from p a h) hb)
    by_cases (inr h) (inl g) = or_right _ _ (subst (λ x. is_under tree x a ≡ true) (eq_from p b g) ha)
    by_cases (inr h) (inr g) = ih r (rises p r e) h g

comparable_within : (n : ℕ) (tree : List Place) (p a b : ℕ) → Rises tree → p ≤ n → is_under tree p a ≡ true → is_under tree p b ≡ true → Comparable tree a b
comparable_within zero tree p a b rises h = comparable_by tree p a b (parent_of tree p) refl rises (λ r lower. absurd (omega arith))
comparable_within (suc n) tree p a b rises h = comparable_by tree p a b (parent_of tree p) refl rises (λ r lower. comparable_within n tree r a b rises (omega arith))

-- two places above one place lie one under the other
pub comparable : (tree : List Place) (p a b : ℕ) → Rises tree → is_under tree p a ≡ true → is_under tree p b ≡ true → Comparable tree a b
comparable tree p a b rises = comparable_within p tree p a b rises (omega arith)

-- an item of the list that passes the test
record Passes (items : List Item) (n : ℕ) (test : Item → Bool) : Type 0 where
  item : Item
  passes : test item ≡ true
  listed : (t : Item → Bool) → t item ≡ true → list_any t items ≡ true
  there : item.place ≤ n

some_item : (items : List Item) (n : ℕ) (test : Item → Bool) → All (λ (item : Item). item.place ≤ n) items → list_any test items ≡ true → Passes items n test
some_item [] n test there e = cc
some_item (x ∷ xs) n test there e = by_first (some_item xs n test (All-tail (λ (item : Item). item.place ≤ n) x xs there)) (or_cases _ _ e)
  where
    by_first : (list_any test xs ≡ true → Passes xs n test) → (test x ≡ true) ⊎ (list_any test xs ≡ true) → Passes (x ∷ xs) n test
    by_first rest (inl h) = record { item = x; passes = h; listed = λ t k. or_left _ _ k; there = All-head (λ (item : Item). item.place ≤ n) x xs there }
    by_first rest (inr h) = let found = rest h in record { item = found.item; passes = found.passes; listed = λ t k. or_right _ _ (found.listed t k); there = found.there }

pub meet_from : (n : ℕ) (a b : ℕ → Bool) → meet_below n a b ≡ true → (p : ℕ) × (p < n) × (a p ≡ true) × (b p ≡ true)
meet_from zero a b e = cc
meet_from (suc n) a b e = by_last (meet_from n a b) (or_cases _ _ e)
  where
    by_last : (meet_below n a b ≡ true → (p : ℕ) × (p < n) × (a p ≡ true) × (b p ≡ true)) → ((a n && b n) ≡ true) ⊎ (meet_below n a b ≡ true) → (p : ℕ) × (p < suc n) × (a p ≡ true) × (b p ≡ true)
    by_last rest (inl h) = let both = and_both _ _ h in (n, omega arith, both.0, both.1)
    by_last rest (inr h) = let found = rest h in let lower = found.1 in (found.0, omega arith, found.2, found.3)

pub meet_to : (n : ℕ) (a b : ℕ → Bool) (p : ℕ) → p < n → a p ≡ true → b p ≡ true → meet_below n a b ≡ true
meet_to zero a b p h ha hb = absurd (omega arith)
meet_to (suc n) a b p h ha hb = by_last (meet_to n a b p) (cases_lt p n)
  where
    by_last : (p < n → a p ≡ true → b p ≡ true → meet_below n a b ≡ true) → (p < n) ⊎ (n ≤ p) → ((a n && b n) || meet_below n a b) ≡ true
    by_last rest (inl g) = or_right _ _ (rest g ha hb)
    by_last rest (inr g) = let same : p ≡ n = omega arith in or_left _ _ (and_intro _ _ (subst (λ x. a x ≡ true) same ha) (subst (λ x. b x ≡ true) same hb))

abbrev looks : List Place → ℕ → Item → Bool
looks tree p x = is_under tree p x.place

abbrev changes : List Place → ℕ → Item → Bool
changes tree p x = is_change x.intent && is_under tree p x.place

module _ (tree : List Place) (c d : List Item) (rises : Rises tree) (c_there : AreThere tree c) (d_there : AreThere tree d) where
  -- two items over one place, of which one is for change, meet
  meets_at : (p : ℕ) (a b : Item) → is_under tree p a.place ≡ true → is_under tree p b.place ≡ true → (is_change a.intent || is_change b.intent) ≡ true → pair_meets tree a b ≡ true
  meets_at p a b ua ub e = and_intro (is_change a.intent || is_change b.intent) (is_under tree a.place b.place || is_under tree b.place a.place) e (comparable tree p a.place b.place rises ua ub)

  listed_pair : (m n : ℕ) (s t : Item → Bool) (a : Passes c m s) (b : Passes d n t) → pair_meets tree a.item b.item ≡ true → pairs_meet tree c d ≡ true
  listed_pair m n s t a b e = a.listed (λ x. list_any (λ y. pair_meets tree x y) d) (b.listed (λ y. pair_meets tree a.item y) e)

  first_half : meet tree (change_set tree c) (look_set tree d) ≡ true → pairs_meet tree c d ≡ true
  first_half e =
      let met = meet_from (suc (length tree)) (change_set tree c) (look_set tree d) e in
      let a = some_item c (length tree) (changes tree met.0) c_there met.2 in
      let b = some_item d (length tree) (looks tree met.0) d_there met.3 in
      let parts = and_both (is_change a.item.intent) (looks tree met.0 a.item) a.passes in
      listed_pair (length tree) (length tree) (changes tree met.0) (looks tree met.0) a b
      (meets_at met.0 a.item b.item parts.1 b.passes (or_left (is_change a.item.intent) (is_change b.item.intent) parts.0))

  second_half : meet tree (change_set tree d) (look_set tree c) ≡ true → pairs_meet tree c d ≡ true
  second_half e =
      let met = meet_from (suc (length tree)) (change_set tree d) (look_set tree c) e in
      let b = some_item d (length tree) (changes tree met.0) d_there met.2 in
      let a = some_item c (length tree) (looks tree met.0) c_there met.3 in
      let parts = and_both (is_change b.item.intent) (looks tree met.0 b.item) b.passes in
      listed_pair (length tree) (length tree) (looks tree met.0) (changes tree met.0) a b
      (meets_at met.0 a.item b.item a.passes parts.1 (or_right (is_change a.item.intent) (is_change b.item.intent) parts.0))

  -- the deeper of two items that meet is in both sets
  meeting : (a : Passes c (length tree) (λ x. list_any (λ y. pair_meets tree x y) d)) (b : Passes d (length tree) (λ y. pair_meets tree a.item y)) → (p : ℕ) × (p ≤ length tree) × (is_under tree p a.item.place ≡ true) × (is_under tree p b.item.place ≡ true)
  meeting a b = by_order (or_cases (is_under tree a.item.place b.item.place) (is_under tree b.item.place a.item.place) (and_both (is_change a.item.intent || is_change b.item.intent) (is_under tree a.item.place b.item.place || is_under tree b.item.place a.item.place) b.passes).1)
    where
      by_order : (is_under tree a.item.place b.item.place ≡ true) ⊎ (is_under tree b.item.place a.item.place ≡ true) → (p : ℕ) × (p ≤ length tree) × (is_under tree p a.item.place ≡ true) × (is_under tree p b.item.place ≡ true)
      by_order (inl h) = (a.item.place, a.there, is_under-same tree a.item.place a.item.place (eq_itself a.item.place), h)
      by_order (inr h) = (b.item.place, b.there, h, is_under-same tree b.item.place b.item.place (eq_itself b.item.place))

  backward : pairs_meet tree c d ≡ true → overlap tree c d ≡ true
  unfolding overlap
  backward e =
      let a = some_item c (length tree) (λ x. list_any (λ y. pair_meets tree x y) d) c_there e in
      let b = some_item d (length tree) (λ y. pair_meets tree a.item y) d_there a.passes in
      let met = meeting a b in
      let inside : met.0 < suc (length tree) = let bound = met.1 in omega arith in
      by_change a b met.0 inside met.2 met.3 (or_cases (is_change a.item.intent) (is_change b.item.intent) (and_both (is_change a.item.intent || is_change b.item.intent) (is_under tree a.item.place b.item.place || is_under tree b.item.place a.item.place) b.passes).0)
    where
      by_change : (a : Passes c (length tree) (λ x. list_any (λ y. pair_meets tree x y) d)) (b : Passes d (length tree) (λ y. pair_meets tree a.item y)) (p : ℕ) → p < suc (length tree) → is_under tree p a.item.place ≡ true → is_under tree p b.item.place ≡ true
          → (is_change a.item.intent ≡ true) ⊎ (is_change b.item.intent ≡ true) → (meet tree (change_set tree c) (look_set tree d) || meet tree (change_set tree d) (look_set tree c)) ≡ true
      by_change a b p h ua ub (inl g) = or_left (meet tree (change_set tree c) (look_set tree d)) _ (meet_to (suc (length tree)) (change_set tree c) (look_set tree d) p h (a.listed (changes tree p) (and_intro (is_change a.item.intent) (is_under tree p a.item.place) g ua)) (b.listed (looks tree p) ub))
      by_change a b p h ua ub (inr g) = or_right (meet tree (change_set tree c) (look_set tree d)) (meet tree (change_set tree d) (look_set tree c)) (meet_to (suc (length tree)) (change_set tree d) (look_set tree c) p h (b.listed (changes tree p) (and_intro (is_change b.item.intent) (is_under tree p b.item.place) g ub)) (a.listed (looks tree p) ua))

  forward : overlap tree c d ≡ true → pairs_meet tree c d ≡ true
  unfolding overlap
  forward e = by_half (or_cases _ _ e)
    where
      by_half : (meet tree (change_set tree c) (look_set tree d) ≡ true) ⊎ (meet tree (change_set tree d) (look_set tree c) ≡ true) → pairs_meet tree c d ≡ true
      by_half (inl h) = first_half h
      by_half (inr h) = second_half h

  pub overlap-pairs : overlap tree c d ≡ pairs_meet tree c d
  overlap-pairs = same_test _ _ forward backward
