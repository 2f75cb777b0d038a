-- The requests of one place through each change, and both groups with them.
use Rattle.std.specs.Prelude.{◌≡◌, ℕ, suc, ◌+◌, ◌<◌, ◌≤◌, Bool, true, false, not, nat_lt, List, [], ◌∷◌, length, position, set, Option, None, Some, refl}
use Rattle.std.proofs.Common.{sym, ap, subst, ◌∙◌, cond, arith, get_or}
use Rattle.std.specs.List.{position_or_len}
use Rattle.std.proofs.lemmas.Bool.Decides.{nat_tests}
use Rattle.std.proofs.lemmas.Option.{same_Some}
use Rattle.vault_state.specs.declared.ids.ClaimId.{ClaimId}
use Rattle.vault_state.specs.Claims.{same_id}
use Rattle.vault_state.specs.Limits.{most_claims}
use Rattle.std.specs.Bool.{then_some}
use Rattle.lock_modes.specs.declared.mode.Mode.{Mode}
use Rattle.lock_modes.specs.Groups.{Counts, size, with_one, group_of, count_of}
use Rattle.lock_queue.specs.declared.queue.Request.{Request}
use Rattle.lock_queue.specs.Queue.{QueueSeen, AreCounted, request_modes, held_requests, requests_without, restood, with_own, HasOwn, HasRequest}
use Rattle.lock_queue.proofs.Counts.{with_one_swap, length_held, size_all, size_held}
use Rattle.lock_queue.proofs.Groups.{with_one_same, count_own}

-- a request put first
pub counted_first : (requests more : List Request) (all held : Counts) (s : Request) (all' held' : Counts) → AreCounted requests all held → more ≡ s ∷ requests
    → all' ≡ with_one all s.mode → held' ≡ cond s.is_held (with_one held s.mode) held → AreCounted more all' held'
counted_first requests more all held s all' held' counted put a h = (
  a ∙ (ap (λ g. with_one g s.mode) counted.0 ∙ sym (ap (λ xs. group_of (request_modes xs)) put)),
  h ∙ (ap (λ g. cond s.is_held (with_one g s.mode) g) counted.1 ∙ (by_held s.is_held ∙ sym (ap (λ xs. group_of (request_modes (held_requests xs))) put))),
)
  where
    by_held : (b : Bool) → cond b (with_one (group_of (request_modes (held_requests requests))) s.mode) (group_of (request_modes (held_requests requests))) ≡ group_of (request_modes (cond b (s ∷ held_requests requests) (held_requests requests)))
    by_held true = refl
    by_held false = refl

with_own_same : (o : Option Mode) (g h : Counts) → with_own o g ≡ with_own o h → g ≡ h
with_own_same None g h e = e
with_own_same (Some m) g h e = with_one_same g h m e

-- a claim's request taken out
pub counted_without : (requests new : List Request) (id : ClaimId) (m : Mode) (b : Bool) (all held all' held' : Counts) → AreCounted requests all held → HasRequest id m b requests → all ≡ with_one all' m
    → held ≡ with_own (cond b (Some m) None) held' → new ≡ requests_without id requests → AreCounted new all' held'
counted_without requests new id m b all held all' held' counted mine a h out = (
  with_one_same all' (group_of (request_modes (requests_without id requests))) m (sym a ∙ (counted.0 ∙ mine.all)) ∙ sym (ap (λ xs. group_of (request_modes xs)) out),
  with_own_same (cond b (Some m) None) held' (group_of (request_modes (held_requests (requests_without id requests)))) (sym h ∙ (counted.1 ∙ mine.held_ones)) ∙ sym (ap (λ xs. group_of (request_modes (held_requests xs))) out),
)

pub one_there : (requests : List Request) (id : ClaimId) (m : Mode) (b : Bool) (all held : Counts) → AreCounted requests all held → HasRequest id m b requests → 0 < count_of all m
one_there requests id m b all held counted mine = subst (λ (g : Counts). 0 < count_of g m) (sym (counted.0 ∙ mine.all)) (count_own (group_of (request_modes (requests_without id requests))) m)

pub own_there : (requests : List Request) (id : ClaimId) (m : Mode) (b : Bool) (all held : Counts) → AreCounted requests all held → HasRequest id m b requests → HasOwn (cond b (Some m) None) held
own_there requests id m true all held counted mine = subst (λ (g : Counts). 0 < count_of g m) (sym (counted.1 ∙ mine.held_ones)) (count_own (group_of (request_modes (held_requests (requests_without id requests)))) m)
own_there requests id m false all held counted mine = tt

-- a claim's request at a position, and the requests with its standing changed
module _ (id : ClaimId) where
  abbrev pub is_its : Request → Bool
  is_its s = same_id s.id id

  pub record IsAt (requests : List Request) (i : ℕ) (s : Request) : Type 0 where
    pub changed : (b : Bool) → set requests i (record { id = s.id; mode = s.mode; is_held = b }) ≡ restood id b requests
    pub same : restood id s.is_held requests ≡ requests
    pub up : s.is_held ≡ false → group_of (request_modes (held_requests (restood id true requests))) ≡ with_one (group_of (request_modes (held_requests requests))) s.mode
    pub down : s.is_held ≡ true → group_of (request_modes (held_requests requests)) ≡ with_one (group_of (request_modes (held_requests (restood id false requests)))) s.mode
    pub fewer : s.is_held ≡ false → length (held_requests requests) < length requests

  at_here : (s : Request) (requests : List Request) → same_id s.id id ≡ true → IsAt (s ∷ requests) 0 s
  at_here s requests e = record {
    changed = λ b. rw e refl;
    same = rw e refl;
    up = λ h. rw (e, h) refl;
    down = λ h. rw (e, h) refl;
    fewer = λ h. let all = length_held requests in rw h (omega (arith, all));
  }

  at_there : (x : Request) (requests : List Request) (i : ℕ) (s : Request) → same_id x.id id ≡ false → IsAt requests i s → IsAt (x ∷ requests) (suc i) s
  at_there x requests i s e rest = record {
    changed = λ b. rw e (ap (λ xs. x ∷ xs) (rest.changed b));
    same = rw e (ap (λ xs. x ∷ xs) rest.same);
    up = λ h. rw e (up_by x.is_held h);
    down = λ h. rw e (down_by x.is_held h);
    fewer = λ h. fewer_by x.is_held (rest.fewer h);
  }
    where
      up_by : (b : Bool) → s.is_held ≡ false → group_of (request_modes (cond b (x ∷ held_requests (restood id true requests)) (held_requests (restood id true requests)))) ≡ with_one (group_of (request_modes (cond b (x ∷ held_requests requests) (held_requests requests)))) s.mode
      up_by true h = ap (λ g. with_one g x.mode) (rest.up h) ∙ with_one_swap (group_of (request_modes (held_requests requests))) s.mode x.mode
      up_by false h = rest.up h

      down_by : (b : Bool) → s.is_held ≡ true → group_of (request_modes (cond b (x ∷ held_requests requests) (held_requests requests))) ≡ with_one (group_of (request_modes (cond b (x ∷ held_requests (restood id false requests)) (held_requests (restood id false requests))))) s.mode
      down_by true h = ap (λ g. with_one g x.mode) (rest.down h) ∙ with_one_swap (group_of (request_modes (held_requests (restood id false requests)))) s.mode x.mode
      down_by false h = rest.down h

      fewer_by : (b : Bool) → length (held_requests requests) < length requests → length (cond b (x ∷ held_requests requests) (held_requests requests)) < suc (length requests)
      fewer_by true k = omega (arith, k)
      fewer_by false k = omega (arith, k)

  at_position : (requests : List Request) (s : Request) → position_or_len is_its requests < length requests → s ≡ get_or requests (position_or_len is_its requests) s → IsAt requests (position_or_len is_its requests) s
  at_position [] s inside is = absurd (omega (arith, inside))
  at_position (x ∷ requests) s inside is = by_test (same_id x.id id) refl inside is (at_position requests s)
    where
      by_test : (b : Bool) → same_id x.id id ≡ b → cond (not b) (1 + position_or_len is_its requests) 0 < suc (length requests) → s ≡ get_or (x ∷ requests) (cond (not b) (1 + position_or_len is_its requests) 0) s
          → (position_or_len is_its requests < length requests → s ≡ get_or requests (position_or_len is_its requests) s → IsAt requests (position_or_len is_its requests) s)
          → IsAt (x ∷ requests) (cond (not b) (1 + position_or_len is_its requests) 0) s
      by_test true e h k ih = subst (λ y. IsAt (x ∷ requests) 0 y) (sym k) (at_here x requests e)
      by_test false e h k ih =
          let more : 1 + position_or_len is_its requests ≡ suc (position_or_len is_its requests) = omega arith in
          let is' : s ≡ get_or requests (position_or_len is_its requests) s = rw more at k in
          rw more (at_there x requests (position_or_len is_its requests) s e (ih (omega (arith, h)) is'))

  pub request_found : (requests : List Request) (i : ℕ) (s : Request) → position is_its requests ≡ Some i → s ≡ get_or requests i s → IsAt requests i s
  request_found requests i s e is = by_test (nat_lt (position_or_len is_its requests) (length requests)) refl e
    where
      by_test : (b : Bool) → nat_lt (position_or_len is_its requests) (length requests) ≡ b → cond b (Some (position_or_len is_its requests)) None ≡ Some i → IsAt requests i s
      by_test false h k = cc
      by_test true h k =
          let same : position_or_len is_its requests ≡ i = same_Some (position_or_len is_its requests) i k in
          let inside : position_or_len is_its requests < length requests = grind (arith, nat_tests, h) in
          subst (λ j. IsAt requests j s) same (at_position requests s inside (subst (λ j. s ≡ get_or requests j s) (sym same) is))

  -- the same read of a copy of the queue
  pub request_read : (requests seen : List Request) (i : ℕ) (s : Request) → seen ≡ requests → position is_its seen ≡ Some i → s ≡ get_or requests i s → IsAt requests i s
  request_read requests seen i s same e is = request_found requests i s (ap (position is_its) (sym same) ∙ e) is

  pub request_absent : (requests : List Request) (b : Bool) → position is_its requests ≡ None → restood id b requests ≡ requests
  request_absent requests b e = by_test (nat_lt (position_or_len is_its requests) (length requests)) refl e
    where
      past : (xs : List Request) → length xs ≤ position_or_len is_its xs → restood id b xs ≡ xs
      past [] h = refl
      past (x ∷ xs) h = by_its (same_id x.id id) refl h (past xs)
        where
          by_its : (c : Bool) → same_id x.id id ≡ c → suc (length xs) ≤ cond (not c) (1 + position_or_len is_its xs) 0 → (length xs ≤ position_or_len is_its xs → restood id b xs ≡ xs) → restood id b (x ∷ xs) ≡ x ∷ xs
          by_its true k g ih = absurd (omega (arith, g))
          by_its false k g ih = rw k (ap (λ ys. x ∷ ys) (ih (omega (arith, g))))

      by_test : (c : Bool) → nat_lt (position_or_len is_its requests) (length requests) ≡ c → cond c (Some (position_or_len is_its requests)) None ≡ None → restood id b requests ≡ requests
      by_test true h k = cc
      by_test false h k = past requests (grind (arith, nat_tests, h))

pub restood_modes : (id : ClaimId) (b : Bool) (requests : List Request) → request_modes (restood id b requests) ≡ request_modes requests
restood_modes id b [] = refl
restood_modes id b (s ∷ requests) = by_test (same_id s.id id) (restood_modes id b requests)
  where
    by_test : (c : Bool) → request_modes (restood id b requests) ≡ request_modes requests → request_modes (cond c (record { id = s.id; mode = s.mode; is_held = b } ∷ requests) (s ∷ restood id b requests)) ≡ s.mode ∷ request_modes requests
    by_test true ih = refl
    by_test false ih = ap (λ ms. s.mode ∷ ms) ih

-- both groups, after a request's standing has changed
pub counted_restood : (requests new : List Request) (id : ClaimId) (i : ℕ) (s : Request) (b : Bool) (all held held' : Counts) → AreCounted requests all held → IsAt id requests i s → (s.is_held ≡ b → ⊥)
    → (b ≡ true → held' ≡ with_one held s.mode) → (b ≡ false → held ≡ with_one held' s.mode) → new ≡ restood id b requests → AreCounted new all held'
counted_restood requests new id i s b all held held' counted at differs up down is = (
  counted.0 ∙ sym (ap (λ xs. group_of (request_modes xs)) is ∙ ap group_of (restood_modes id b requests)),
  by_flag b refl (s.is_held) refl ∙ sym (ap (λ xs. group_of (request_modes (held_requests xs))) is),
)
  where
    by_flag : (c : Bool) → b ≡ c → (h : Bool) → s.is_held ≡ h → held' ≡ group_of (request_modes (held_requests (restood id b requests)))
    by_flag true e true k = absurd (differs (k ∙ sym e))
    by_flag true e false k = up e ∙ (ap (λ g. with_one g s.mode) counted.1 ∙ (sym (at.up k) ∙ ap (λ c. group_of (request_modes (held_requests (restood id c requests)))) (sym e)))
    by_flag false e true k = with_one_same held' (group_of (request_modes (held_requests (restood id b requests)))) s.mode
        (sym (down e) ∙ (counted.1 ∙ (at.down k ∙ ap (λ c. with_one (group_of (request_modes (held_requests (restood id c requests)))) s.mode) (sym e))))
    by_flag false e false k = absurd (differs (k ∙ sym e))

abbrev pub seen : List Request → ℕ → QueueSeen
seen requests room = record { requests = requests; room = room }

pub queue_same : (a b : List Request) (m n : ℕ) → a ≡ b → m ≡ n → seen a m ≡ seen b n
queue_same a b m n e f = ap (λ xs. seen xs m) e ∙ ap (λ k. seen b k) f

-- what the view of a queue shows of it: a claim's request, and room in both groups for one more member
module _ (requests : List Request) (room : ℕ) (queue : QueueSeen) (shown : seen requests room ≡ queue) where
  pub has_shown : (id : ClaimId) (m : Mode) (b : Bool) → HasRequest id m b queue.requests → HasRequest id m b requests
  has_shown id m b has = subst (λ (v : QueueSeen). HasRequest id m b v.requests) (sym shown) has

  module _ (all held : Counts) (counted : AreCounted requests all held) (few : length queue.requests < most_claims) where
    few_stand : length requests < most_claims
    few_stand = subst (λ (v : QueueSeen). length v.requests < most_claims) (sym shown) few

    pub room_in_all : size all < most_claims
    room_in_all = omega (arith, few_stand, size_all requests all held counted)

    pub room_in_held : size held < most_claims
    room_in_held = omega (arith, few_stand, size_held requests all held counted)

pub own_some : (b : Bool) (m : Mode) → then_some b m ≡ cond b (Some m) None
own_some true m = refl
own_some false m = refl

pub other_flag : (a b : Bool) → (a ≡ b → ⊥) → b ≡ true → a ≡ false
other_flag true b differs h = absurd (differs (sym h))
other_flag false b differs h = refl

pub other_flag_up : (a b : Bool) → (a ≡ b → ⊥) → b ≡ false → a ≡ true
other_flag_up true b differs h = refl
other_flag_up false b differs h = absurd (differs (sym h))
