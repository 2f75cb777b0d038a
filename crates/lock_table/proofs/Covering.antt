-- The held claims that cover a place, found at the place and at those above it.
use Rattle.std.specs.Prelude.{◌≡◌, ◌≢◌, ◌⊎◌, ℕ, suc, Bool, true, false, ◌||◌, ◌&&◌, ◌==◌, List, [], ◌∷◌, slice_get, Option, None, Some, All, refl}
use Rattle.std.proofs.Common.{sym, ap, subst, ◌∙◌, cond, inl, inr, eqb}
use Rattle.std.specs.List.{IsDistinct, AllByRecursion, list_any}
use Rattle.std.specs.Option.{option_map, option_map_or, option_and_then}
use Rattle.std.proofs.lemmas.Bool.Decides.{eqb_tells}
use Rattle.std.proofs.lemmas.List.Elements.{All-nil, All-cons, All-head, All-tail}
use Rattle.vault_state.specs.declared.place.Place.{Place}
use Rattle.vault_state.specs.Tree.{parent_of, is_under}
use Rattle.vault_state.proofs.Walks.{Rises}
use Rattle.lock_modes.specs.declared.mode.Mode.{Mode}
use Rattle.lock_modes.specs.declared.mode.Mode.TheVariants.{S}
use Rattle.lock_modes.specs.Modes.{at_least}
use Rattle.lock_table.specs.declared.locks.Lock.{Lock}
use Rattle.lock_table.specs.declared.entry.Entry.{Entry}
use Rattle.lock_table.specs.Locks.{mode_at, AreApart}
use Rattle.lock_table.specs.Tables.{IsTable, is_held_in, locks_cover, held_over_in}
use Rattle.lock_queue.specs.Queue.{QueueSeen, first_of, is_cover}
use Rattle.lock_table.specs.Queues.{AreQueues, requests_at, position_of, earlier}
use Rattle.lock_table.proofs.Climb.{is_beneath, is_under-beneath}
use Rattle.lock_table.proofs.JoinedAt.{places}
use Rattle.lock_table.proofs.Putting.{none_there}
use Rattle.lock_table.proofs.Positions.{first_from, first_or, first_same, queue_first, id_found, first_none}

-- the first held entry that covers a place, and the first that covers it from above
abbrev pub cover_from : List Place → List Entry → ℕ → Option ℕ
cover_from tree table place = first_from (λ (e : Entry). locks_cover tree e.locks place && is_held_in table e) 0 table

abbrev pub cover_of : List Place → List Entry → Option ℕ → Option ℕ
cover_of tree table None = None
cover_of tree table (Some r) = cover_from tree table r

abbrev pub cover_above : List Place → List Entry → ℕ → Option ℕ
cover_above tree table place = cover_of tree table (parent_of tree place)

-- whether a mode covers its own place
abbrev covers_here : Option Mode → Bool
covers_here None = false
covers_here (Some m) = at_least m S

eq_turned : (p q : ℕ) → (p == q) ≡ (q == p)
eq_turned p q = by_test (eqb_tells p q) (eqb_tells q p)
  where
    by_test : ((eqb p q ≡ true) × (p ≡ q)) ⊎ ((eqb p q ≡ false) × (p ≢ q)) → ((eqb q p ≡ true) × (q ≡ p)) ⊎ ((eqb q p ≡ false) × (q ≢ p)) → (p == q) ≡ (q == p)
    by_test (inl a) (inl b) = a.0 ∙ sym b.0
    by_test (inl a) (inr b) = absurd (b.1 (sym a.1))
    by_test (inr a) (inl b) = absurd (a.1 (sym b.1))
    by_test (inr a) (inr b) = a.0 ∙ sym b.0

own_first : (c b u : Bool) → (c || u) ≡ (c || ((b && c) || u))
own_first true b u = refl
own_first false true u = refl
own_first false false u = refl

or_swap : (a h u : Bool) → (a || (h || u)) ≡ (h || (a || u))
or_swap true true u = refl
or_swap true false u = refl
or_swap false true u = refl
or_swap false false u = refl

module _ (tree : List Place) (rises : Rises tree) (p : ℕ) where
  -- locks cover a place where they have such a mode there, or cover it from above
  pub cover_split : (ls : List Lock) → AreApart ls → locks_cover tree ls p ≡ (covers_here (mode_at ls p) || list_any (λ (l : Lock). is_beneath tree p l.place && at_least l.mode S) ls)
  unfolding IsDistinct
  cover_split [] apart = refl
  cover_split (l ∷ ls) apart =
      ap (λ b. (b && at_least l.mode S) || locks_cover tree ls p) (is_under-beneath tree rises p l.place ∙ ap (λ b. b || is_beneath tree p l.place) (eq_turned p l.place))
      ∙ by_place (eqb_tells l.place p) (cover_split ls apart.1)
    where
      any : List Lock → Bool
      any xs = list_any (λ (x : Lock). is_beneath tree p x.place && at_least x.mode S) xs

      by_place : ((eqb l.place p ≡ true) × (l.place ≡ p)) ⊎ ((eqb l.place p ≡ false) × (l.place ≢ p)) → locks_cover tree ls p ≡ (covers_here (mode_at ls p) || any ls)
          → ((((l.place == p) || is_beneath tree p l.place) && at_least l.mode S) || locks_cover tree ls p) ≡ (covers_here (mode_at (l ∷ ls) p) || any (l ∷ ls))
      by_place (inl same) ih =
          let none : mode_at ls p ≡ None = none_there p ls (subst (λ q. AllByRecursion (λ y. (q == y) ≡ false) (places ls)) same.1 apart.0) in
          let rest : locks_cover tree ls p ≡ any ls = ih ∙ ap (λ o. covers_here o || any ls) none in
          rw (same.0, rest) (own_first (at_least l.mode S) (is_beneath tree p l.place) (any ls))
      by_place (inr other) ih = rw (other.0, ih) (or_swap (is_beneath tree p l.place && at_least l.mode S) (covers_here (mode_at ls p)) (any ls))

first_same_all : (a b : Entry → Bool) (n : ℕ) (es : List Entry) → All (λ (e : Entry). a e ≡ b e) es → first_from a n es ≡ first_from b n es
first_same_all a b n [] all = refl
first_same_all a b n (e ∷ es) all =
    ap (λ t. cond t (Some n) (first_from a (suc n) es)) (All-head (λ (x : Entry). a x ≡ b x) e es all) ∙ ap (cond (b e) (Some n)) (first_same_all a b (suc n) es (All-tail (λ (x : Entry). a x ≡ b x) e es all))

all_split : (P Q : Entry → Type 0) → ((e : Entry) → P e → Q e) → (es : List Entry) → All P es → All Q es
all_split P Q f [] all = All-nil Q
all_split P Q f (e ∷ es) all = All-cons Q e es (f e (All-head P e es all)) (all_split P Q f es (All-tail P e es all))

or_held : (a b h : Bool) → ((a && h) || (b && h)) ≡ ((a || b) && h)
or_held true true true = refl
or_held true true false = refl
or_held true false true = refl
or_held true false false = refl
or_held false b h = refl

none_any : (ls : List Lock) → list_any (λ (l : Lock). false && at_least l.mode S) ls ≡ false
none_any [] = refl
none_any (l ∷ ls) = none_any ls

module _ (tree : List Place) (rises : Rises tree) (table : List Entry) (queues : List QueueSeen) (kept : IsTable table) (are_queues : AreQueues table queues) (p : ℕ) where
  abbrev beneath_of : Option ℕ → Entry → Bool
  beneath_of o e = list_any (λ (l : Lock). option_map_or (λ r. is_under tree r l.place) o false && at_least l.mode S) e.locks

  above_law : (o : Option ℕ) → cover_of tree table o ≡ first_from (λ (e : Entry). beneath_of o e && is_held_in table e) 0 table
  above_law None = sym (first_same (λ (e : Entry). beneath_of None e && is_held_in table e) (λ e. false) (λ e. ap (λ b. b && is_held_in table e) (none_any e.locks)) 0 table ∙ first_none 0 table)
  above_law (Some r) = refl

  here_law : position_of table (first_of is_cover (requests_at queues p)) ≡ first_from (λ (e : Entry). covers_here (mode_at e.locks p) && is_held_in table e) 0 table
  here_law = ap (λ xs. position_of table (first_of is_cover xs)) (are_queues.requests p)
      ∙ queue_first is_cover (λ (e : Entry). covers_here (mode_at e.locks p) && is_held_in table e) (is_held_in table) p (λ e h. rw h refl) (λ e m h. rw h refl) table kept.distinct

  -- the first at the place and the first from above give the first
  pub cover_step : earlier (position_of table (first_of is_cover (requests_at queues p))) (cover_above tree table p) ≡ cover_from tree table p
  cover_step =
      ap (λ o. earlier o (cover_above tree table p)) here_law
      ∙ (ap (earlier (first_from (λ (e : Entry). covers_here (mode_at e.locks p) && is_held_in table e) 0 table)) (above_law (parent_of tree p))
      ∙ (first_or (λ (e : Entry). covers_here (mode_at e.locks p) && is_held_in table e) (λ (e : Entry). beneath_of (parent_of tree p) e && is_held_in table e) 0 table
      ∙ first_same_all _ (λ (e : Entry). locks_cover tree e.locks p && is_held_in table e) 0 table
      (all_split (λ (e : Entry). AreApart e.locks) _ (λ e apart.
      or_held (covers_here (mode_at e.locks p)) (beneath_of (parent_of tree p) e) (is_held_in table e) ∙ ap (λ b. b && is_held_in table e) (sym (cover_split tree rises p e.locks apart))) table are_queues.apart)))

pub over_id : (tree : List Place) (table : List Entry) (place : ℕ) → option_and_then (λ i. option_map (λ (e : Entry). e.id) (slice_get table i)) (cover_from tree table place) ≡ held_over_in tree table place
over_id tree table place = id_found (λ (e : Entry). locks_cover tree e.locks place && is_held_in table e) table
