-- The one request of a claim, found and taken out of a queue.
use Rattle.std.specs.Prelude.{◌≡◌, ℕ, suc, ◌+◌, ◌<◌, ◌≤◌, Bool, true, false, not, nat_lt, List, [], ◌∷◌, length, position, Some, refl}
use Rattle.std.proofs.Common.{sym, ap, subst, ◌∙◌, cond, arith}
use Rattle.std.specs.List.{remove, position_or_len}
use Rattle.std.proofs.lemmas.Bool.Decides.{nat_tests}
use Rattle.std.proofs.lemmas.Option.{same_Some}
use Rattle.vault_state.specs.declared.ids.ClaimId.{ClaimId}
use Rattle.vault_state.specs.Claims.{same_id}
use Rattle.lock_modes.specs.declared.mode.Mode.{Mode}
use Rattle.lock_modes.specs.Groups.{size, group_of}
use Rattle.lock_queue.specs.declared.queue.Request.{Request}
use Rattle.lock_queue.specs.Queue.{request_modes, held_requests, requests_without, HasRequest}
use Rattle.lock_queue.proofs.Counts.{size-with_one, size_all}

module _ (id : ClaimId) where
  abbrev pub is_its_request : Request → Bool
  is_its_request s = same_id s.id id

  pub shorter : (requests : List Request) → length (requests_without id requests) ≤ length requests
  shorter [] = omega arith
  shorter (s ∷ requests) = by_test (same_id s.id id) (shorter requests)
    where
      by_test : (b : Bool) → length (requests_without id requests) ≤ length requests → length (cond (not b) (s ∷ requests_without id requests) (requests_without id requests)) ≤ suc (length requests)
      by_test true ih = omega arith
      by_test false ih = omega arith

  none_out : (requests : List Request) → length requests ≡ length (requests_without id requests) → requests_without id requests ≡ requests
  none_out [] h = refl
  none_out (s ∷ requests) h = by_test (same_id s.id id) h (none_out requests)
    where
      by_test : (b : Bool) → suc (length requests) ≡ length (cond (not b) (s ∷ requests_without id requests) (requests_without id requests)) → (length requests ≡ length (requests_without id requests) → requests_without id requests ≡ requests)
          → cond (not b) (s ∷ requests_without id requests) (requests_without id requests) ≡ s ∷ requests
      by_test true h ih = let few = shorter requests in absurd (omega (arith, few, h))
      by_test false h ih = ap (λ xs. s ∷ xs) (ih (omega (arith, h)))

  -- where one request is removed, the request taken out at its index is that one
  pub one_out : (requests : List Request) → length requests ≡ suc (length (requests_without id requests)) → remove requests (position_or_len is_its_request requests) ≡ requests_without id requests
  one_out [] h = absurd (omega (arith, h))
  one_out (s ∷ requests) h = by_test (same_id s.id id) h (one_out requests)
    where
      by_test : (b : Bool) → suc (length requests) ≡ suc (length (cond (not b) (s ∷ requests_without id requests) (requests_without id requests))) → (length requests ≡ suc (length (requests_without id requests)) → remove requests (position_or_len is_its_request requests) ≡ requests_without id requests)
          → remove (s ∷ requests) (cond (not b) (1 + position_or_len is_its_request requests) 0) ≡ cond (not b) (s ∷ requests_without id requests) (requests_without id requests)
      by_test true h ih = sym (none_out requests (omega (arith, h)))
      by_test false h ih = let more : 1 + position_or_len is_its_request requests ≡ suc (position_or_len is_its_request requests) = omega arith in rw more (ap (λ xs. s ∷ xs) (ih (omega (arith, h))))

  pub one_inside : (requests : List Request) → length requests ≡ suc (length (requests_without id requests)) → position_or_len is_its_request requests < length requests
  one_inside [] h = absurd (omega (arith, h))
  one_inside (s ∷ requests) h = by_test (same_id s.id id) h (one_inside requests)
    where
      by_test : (b : Bool) → suc (length requests) ≡ suc (length (cond (not b) (s ∷ requests_without id requests) (requests_without id requests))) → (length requests ≡ suc (length (requests_without id requests)) → position_or_len is_its_request requests < length requests)
          → cond (not b) (1 + position_or_len is_its_request requests) 0 < suc (length requests)
      by_test true h ih = omega arith
      by_test false h ih = let inside = ih (omega (arith, h)) in omega (arith, inside)

  pub one_found : (requests : List Request) → length requests ≡ suc (length (requests_without id requests)) → position is_its_request requests ≡ Some (position_or_len is_its_request requests)
  one_found requests h =
      let inside = one_inside requests h in
      let test : nat_lt (position_or_len is_its_request requests) (length requests) ≡ true = grind (arith, nat_tests) in
      rw test refl

  -- the index that is found in a copy of the queue, and what is taken out there
  module _ (requests copy : List Request) (i : ℕ) (one : length requests ≡ suc (length (requests_without id requests))) (same : copy ≡ requests) (at : position is_its_request copy ≡ Some i) where
    pub one_index : position_or_len is_its_request requests ≡ i
    one_index = same_Some _ _ (sym (one_found requests one) ∙ (ap (position is_its_request) (sym same) ∙ at))

    pub one_taken : remove requests i ≡ requests_without id requests
    one_taken = subst (λ k. remove requests k ≡ requests_without id requests) one_index (one_out requests one)

-- a claim with a request has only one
pub one_request : (id : ClaimId) (m : Mode) (b : Bool) (requests : List Request) → HasRequest id m b requests → length requests ≡ suc (length (requests_without id requests))
one_request id m b requests mine =
    let all = size_all requests (group_of (request_modes requests)) (group_of (request_modes (held_requests requests))) (refl, refl) in
    let others = size_all (requests_without id requests) (group_of (request_modes (requests_without id requests))) (group_of (request_modes (held_requests (requests_without id requests)))) (refl, refl) in
    sym all ∙ (ap size mine.all ∙ (size-with_one (group_of (request_modes (requests_without id requests))) m ∙ ap suc others))
