-- The position found by a search from the end.
use Rattle.std.specs.Prelude.{◌≡◌, ℕ, zero, suc, ◌+◌, ◌<◌, Bool, true, false, not, nat_lt, List, [], ◌∷◌, length, take, drop, position, slice_get, None, Some, All, refl}
use Rattle.std.proofs.Common.{ap, subst, ◌∙◌, cond, arith}
use Rattle.std.specs.List.{position_or_len}
use Rattle.std.proofs.lemmas.Bool.Decides.{nat_tests}
use Rattle.std.proofs.lemmas.List.Elements.{All-nil, All-cons, All-head, All-tail}
use Rattle.std.proofs.lemmas.Option.{same_Some}
use Rattle.vault_state.specs.declared.ids.ClaimId.{ClaimId}
use Rattle.vault_state.specs.Claims.{same_id}
use Rattle.lock_queue.specs.declared.queue.Request.{Request}
use Rattle.lock_queue.specs.Queue.{requests_without}
use Rattle.lock_queue.proofs.Taken.{is_its_request, shorter}

module _ {T : Type 0} (t : T → Bool) where
  abbrev pub Fails : T → Type 0
  Fails x = t x ≡ false

  -- one that passes, with none before it, is the first
  first_there : (xs : List T) (i : ℕ) (x : T) → slice_get xs i ≡ Some x → t x ≡ true → All Fails (take i xs) → (position_or_len t xs ≡ i) × (i < length xs)
  first_there [] i x h passes all = cc
  first_there (y ∷ xs) zero x h passes all =
      let here : t y ≡ true = ap t (same_Some y x h) ∙ passes in
      (rw here refl, omega arith)
  first_there (y ∷ xs) (suc i) x h passes all =
      let rest = first_there xs i x h passes (All-tail Fails y (take i xs) all) in
      let same = rest.0 in
      let inside = rest.1 in
      let next : 1 + position_or_len t xs ≡ suc i = omega (arith, same) in
      (rw (All-head Fails y (take i xs) all) next, omega (arith, inside))

  pub position_there : (xs : List T) (i : ℕ) (x : T) → slice_get xs i ≡ Some x → t x ≡ true → All Fails (take i xs) → position t xs ≡ Some i
  position_there xs i x h passes all =
      let there = first_there xs i x h passes all in
      let inside = there.1 in
      let test : nat_lt i (length xs) ≡ true = grind (arith, nat_tests) in
      rw (there.0, test) refl

  none_length : (xs : List T) → All Fails xs → position_or_len t xs ≡ length xs
  none_length [] all = refl
  none_length (y ∷ xs) all =
      let rest = none_length xs (All-tail Fails y xs all) in
      let next : 1 + position_or_len t xs ≡ suc (length xs) = omega (arith, rest) in
      rw (All-head Fails y xs all) next

  -- where none passes, there is no first
  pub position_none : (xs : List T) → All Fails xs → position t xs ≡ None
  position_none xs all =
      let outside : nat_lt (length xs) (length xs) ≡ false = grind (arith, nat_tests) in
      rw (none_length xs all, outside) refl

  -- one more that fails, in front of those from a position on
  pub fails_from : (xs : List T) (i : ℕ) (x : T) → slice_get xs i ≡ Some x → t x ≡ false → All Fails (drop (i + 1) xs) → All Fails (drop i xs)
  fails_from [] i x h fails all = cc
  fails_from (y ∷ xs) zero x h fails all = All-cons Fails y xs (ap t (same_Some y x h) ∙ fails) all
  fails_from (y ∷ xs) (suc i) x h fails all =
      let more : suc i + 1 ≡ suc (i + 1) = omega arith in
      fails_from xs i x h fails (subst (λ k. All Fails (drop k (y ∷ xs))) more all)

all_at : {T : Type 0} (P : T → Type 0) (xs : List T) (i : ℕ) (x : T) → All P xs → slice_get xs i ≡ Some x → P x
all_at P [] i x all h = cc
all_at P (y ∷ xs) zero x all h = subst P (same_Some y x h) (All-head P y xs all)
all_at P (y ∷ xs) (suc i) x all h = all_at P xs i x (All-tail P y xs all) h

module _ (id : ClaimId) where
  -- where no request is removed, none is the claim's
  none_its : (requests : List Request) → length requests ≡ length (requests_without id requests) → All (Fails (is_its_request id)) requests
  none_its [] h = All-nil (Fails (is_its_request id))
  none_its (s ∷ requests) h = by_test (same_id s.id id) refl h (none_its requests)
    where
      by_test : (b : Bool) → same_id s.id id ≡ b → suc (length requests) ≡ length (cond (not b) (s ∷ requests_without id requests) (requests_without id requests))
          → (length requests ≡ length (requests_without id requests) → All (Fails (is_its_request id)) requests) → All (Fails (is_its_request id)) (s ∷ requests)
      by_test true g k ih = let few = shorter id requests in absurd (omega (arith, few, k))
      by_test false g k ih = All-cons (Fails (is_its_request id)) s requests g (ih (omega (arith, k)))

  -- where a claim has one request, none is before it
  pub none_before : (requests : List Request) (i : ℕ) (s : Request) → length requests ≡ suc (length (requests_without id requests)) → slice_get requests i ≡ Some s → same_id s.id id ≡ true → All (Fails (is_its_request id)) (take i requests)
  none_before [] i s one h its = cc
  none_before (x ∷ requests) zero s one h its = All-nil (Fails (is_its_request id))
  none_before (x ∷ requests) (suc i) s one h its = by_test (same_id x.id id) refl one (λ rest. none_before requests i s rest h its)
    where
      by_test : (b : Bool) → same_id x.id id ≡ b → suc (length requests) ≡ suc (length (cond (not b) (x ∷ requests_without id requests) (requests_without id requests)))
          → (length requests ≡ suc (length (requests_without id requests)) → All (Fails (is_its_request id)) (take i requests)) → All (Fails (is_its_request id)) (x ∷ take i requests)
      by_test true g k ih = let other = all_at (Fails (is_its_request id)) requests i s (none_its requests (omega (arith, k))) h in cc
      by_test false g k ih = All-cons (Fails (is_its_request id)) x (take i requests) g (ih (omega (arith, k)))

-- what stands at a position
pub record HasItem {T : Type 0} (xs : List T) (i : ℕ) : Type 0 where
  pub item : T
  pub is : slice_get xs i ≡ Some item

pub item_at : {T : Type 0} (xs : List T) (i : ℕ) → i < length xs → HasItem xs i
item_at [] i h = absurd (omega (arith, h))
item_at (x ∷ xs) zero h = record { item = x; is = refl }
item_at (x ∷ xs) (suc i) h = let rest = item_at xs i (omega (arith, h)) in record { item = rest.item; is = rest.is }
