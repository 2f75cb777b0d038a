-- Queues in a list: one changed, one more, and those at the places of some locks changed one after another.
use Rattle.std.specs.Prelude.{◌≡◌, ◌≢◌, ◌⊎◌, ℕ, zero, suc, ◌+◌, ◌<◌, ◌≤◌, Bool, true, false, ◌==◌, nat_eq, nat_lt, List, [], ◌∷◌, ◌++◌, length, slice_get, drop, Option, None, Some, is_some, All, refl}
use Rattle.std.proofs.Common.{sym, ap, subst, ◌∙◌, arith, get_or, set, inl, inr, eqb, append-nil}
use Rattle.std.specs.List.{IsDistinct, AllByRecursion}
use Rattle.std.proofs.lemmas.Bool.Decides.{eqb_tells, nat_tests}
use Rattle.std.proofs.lemmas.List.{drop_all}
use Rattle.std.proofs.lemmas.List.Elements.{All-head, All-tail}
use Rattle.vault_state.specs.declared.ids.ClaimId.{ClaimId}
use Rattle.lock_modes.specs.declared.mode.Mode.{Mode}
use Rattle.lock_table.specs.declared.locks.Lock.{Lock}
use Rattle.lock_queue.specs.declared.queue.Request.{Request}
use Rattle.lock_table.specs.Locks.{mode_at, AreApart}
use Rattle.lock_queue.specs.Queue.{QueueSeen, by_lock}
use Rattle.lock_table.specs.Queues.{requests_of, room_of, requests_at, room_at, HaveRoom, request_of}
use Rattle.lock_table.proofs.Positions.{drop_is}
use Rattle.lock_table.proofs.JoinedAt.{places}

at_set_same : {T : Type 0} (xs : List T) (q : ℕ) (c : T) → q < length xs → slice_get (set xs q c) q ≡ Some c
at_set_same [] q c h = absurd (omega (arith, h))
at_set_same (x ∷ xs) zero c h = refl
at_set_same (x ∷ xs) (suc q) c h = at_set_same xs q c (omega (arith, h))

at_set_other : {T : Type 0} (xs : List T) (q p : ℕ) (c : T) → p ≢ q → slice_get (set xs q c) p ≡ slice_get xs p
at_set_other [] q p c differ = refl
at_set_other (x ∷ xs) zero zero c differ = absurd (differ refl)
at_set_other (x ∷ xs) zero (suc p) c differ = refl
at_set_other (x ∷ xs) (suc q) zero c differ = refl
at_set_other (x ∷ xs) (suc q) (suc p) c differ = at_set_other xs q p c (λ e. differ (ap suc e))

pub read_at : {T : Type 0} (xs : List T) (q : ℕ) (c : T) → q < length xs → c ≡ get_or xs q c → slice_get xs q ≡ Some c
read_at [] q c h e = absurd (omega (arith, h))
read_at (x ∷ xs) zero c h e = ap Some (sym e)
read_at (x ∷ xs) (suc q) c h e = read_at xs q c (omega (arith, h)) e

pub there_at : (queues : List QueueSeen) (q : ℕ) → 0 < room_at queues q → q < length queues
there_at [] q h = absurd (omega (arith, h))
there_at (x ∷ xs) zero h = omega arith
there_at (x ∷ xs) (suc q) h = let rest = there_at xs q h in omega (arith, rest)

-- a place with room has a queue, at its number
pub roomy_there : (queues : List QueueSeen) (q p few : ℕ) → q ≡ p → few < room_at queues p → q < length queues
roomy_there queues q p few same h = subst (λ k. k < length queues) (sym same) (there_at queues p (omega (arith, h)))

-- one queue is replaced by another, with no less room
pub record IsChanged (queues new : List QueueSeen) (q : ℕ) (requests : List Request) : Type 0 where
  pub here : requests_at new q ≡ requests
  pub elsewhere : (p : ℕ) → p ≢ q → requests_at new p ≡ requests_at queues p
  pub room : (p : ℕ) → room_at queues p ≤ room_at new p
  pub room_elsewhere : (p : ℕ) → p ≢ q → room_at new p ≡ room_at queues p
  pub room_here : ℕ
  pub room_is : room_at new q ≡ room_here

pub changed : (queues new : List QueueSeen) (q : ℕ) (c c' : QueueSeen) → q < length queues → new ≡ set queues q c' → c ≡ get_or queues q c → c.room ≤ c'.room → IsChanged queues new q c'.requests
changed queues new q c c' inside e is more = record {
  here = ap (λ xs. requests_at xs q) e ∙ ap requests_of (at_set_same queues q c' inside);
  elsewhere = λ p differ. ap (λ xs. requests_at xs p) e ∙ ap requests_of (at_set_other queues q p c' differ);
  room = λ p. by_place p (eqb_tells p q);
  room_elsewhere = λ p differ. ap (λ xs. room_at xs p) e ∙ ap room_of (at_set_other queues q p c' differ);
  room_here = c'.room;
  room_is = ap (λ xs. room_at xs q) e ∙ ap room_of (at_set_same queues q c' inside);
}
  where
    by_place : (p : ℕ) → ((eqb p q ≡ true) × (p ≡ q)) ⊎ ((eqb p q ≡ false) × (p ≢ q)) → room_at queues p ≤ room_at new p
    by_place p (inl same) =
        let old : room_at queues p ≡ c.room = ap (room_at queues) same.1 ∙ ap room_of (read_at queues q c inside is) in
        let now : room_at new p ≡ c'.room = ap (room_at new) same.1 ∙ (ap (λ xs. room_at xs q) e ∙ ap room_of (at_set_same queues q c' inside)) in
        omega (arith, old, now, more)
    by_place p (inr other) =
        let same : room_at new p ≡ room_at queues p = ap (λ xs. room_at xs p) e ∙ ap room_of (at_set_other queues q p c' other.1) in
        omega (arith, same)

pub requests_set : (queues : List QueueSeen) (q : ℕ) (c' : QueueSeen) → q < length queues → requests_at (set queues q c') q ≡ c'.requests
requests_set queues q c' inside = ap requests_of (at_set_same queues q c' inside)

pub room_set : (queues : List QueueSeen) (q : ℕ) (c' : QueueSeen) → q < length queues → room_at (set queues q c') q ≡ c'.room
room_set queues q c' inside = ap room_of (at_set_same queues q c' inside)

pub requests_past : (queues : List QueueSeen) (p : ℕ) → length queues ≤ p → requests_at queues p ≡ []
requests_past [] p h = refl
requests_past (x ∷ xs) zero h = absurd (omega (arith, h))
requests_past (x ∷ xs) (suc p) h = requests_past xs p (omega (arith, h))

-- a place behind the queues, where nothing changes
pub past_there : (queues : List QueueSeen) (q p : ℕ) → q ≡ p → length queues ≤ q → requests_at queues p ≡ []
past_there queues q p same past = ap (requests_at queues) (sym same) ∙ requests_past queues q past

pub no_less : (a b : ℕ) → b ≡ a → a ≤ b
no_less a b e = omega (arith, e)

-- a queue of which only the room changes
pub same_requests : (queues new : List QueueSeen) (q : ℕ) (requests : List Request) → IsChanged queues new q requests → requests ≡ requests_at queues q → (p : ℕ) → requests_at new p ≡ requests_at queues p
same_requests queues new q requests change same p = by_place (eqb_tells p q)
  where
    by_place : ((eqb p q ≡ true) × (p ≡ q)) ⊎ ((eqb p q ≡ false) × (p ≢ q)) → requests_at new p ≡ requests_at queues p
    by_place (inl e) = subst (λ k. requests_at new k ≡ requests_at queues k) (sym e.1) (change.here ∙ same)
    by_place (inr other) = change.elsewhere p other.1

pub requests_read : (queues : List QueueSeen) (q : ℕ) (c : QueueSeen) → q < length queues → c ≡ get_or queues q c → requests_at queues q ≡ c.requests
requests_read queues q c inside is = ap requests_of (read_at queues q c inside is)

pub room_read : (queues : List QueueSeen) (q : ℕ) (c : QueueSeen) → q < length queues → c ≡ get_or queues q c → room_at queues q ≡ c.room
room_read queues q c inside is = ap room_of (read_at queues q c inside is)

-- a queue without requests put last
pub requests_grown : (queues : List QueueSeen) (c : QueueSeen) (p : ℕ) → c.requests ≡ [] → requests_at (queues ++ c ∷ []) p ≡ requests_at queues p
requests_grown [] c zero e = e
requests_grown [] c (suc p) e = refl
requests_grown (x ∷ xs) c zero e = refl
requests_grown (x ∷ xs) c (suc p) e = requests_grown xs c p e

pub room_grown : (queues : List QueueSeen) (c : QueueSeen) (p : ℕ) → room_at queues p ≤ room_at (queues ++ c ∷ []) p
room_grown [] c zero = omega arith
room_grown [] c (suc p) = omega arith
room_grown (x ∷ xs) c zero = omega arith
room_grown (x ∷ xs) c (suc p) = room_grown xs c p

-- the queue at a place, read by the place's number, and then another one there
module _ (queues : List QueueSeen) (q p : ℕ) (old : QueueSeen) (same : q ≡ p) (inside : q < length queues) (is : old ≡ get_or queues q old) where
  pub queue_is : slice_get queues p ≡ Some old
  queue_is = ap (slice_get queues) (sym same) ∙ read_at queues q old inside is

  pub queue_turned : (f : List Request → List Request) (new : QueueSeen) → new.requests ≡ f old.requests → old.room ≤ new.room → IsChanged queues (set queues q new) p (f (requests_at queues p))
  queue_turned f new requests more = subst (λ xs. IsChanged queues (set queues q new) p xs) (requests ∙ ap (λ o. f (requests_of o)) (sym queue_is))
      (subst (λ k. IsChanged queues (set queues q new) k new.requests) same (changed queues (set queues q new) q old new inside refl is more))

  pub queue_requests_turned : (f : List Request → List Request) (new : QueueSeen) → new ≡ record old { requests = f old.requests } → IsChanged queues (set queues q new) p (f (requests_at queues p))
  queue_requests_turned f new e = queue_turned f new (ap (λ (x : QueueSeen). x.requests) e) (no_less old.room new.room (ap (λ (x : QueueSeen). x.room) e))

-- the requests at a place whose queue was looked up
pub requests_seen : (queues : List QueueSeen) (q p : ℕ) (c : QueueSeen) → q ≡ p → true ≡ nat_lt q (length queues) → c ≡ get_or queues q c → requests_at queues p ≡ c.requests
requests_seen queues q p c same inside is = ap (requests_at queues) (sym same) ∙ requests_read queues q c (grind (arith, nat_tests, inside)) is

pub requests_unseen : (queues : List QueueSeen) (q p : ℕ) → q ≡ p → false ≡ nat_lt q (length queues) → requests_at queues p ≡ []
requests_unseen queues q p same past = past_there queues q p same (grind (arith, nat_tests, past))

-- a place that no lock of a list has
pub none_there : (p : ℕ) (ls : List Lock) → AllByRecursion (λ y. nat_eq p y ≡ false) (places ls) → mode_at ls p ≡ None
none_there p [] all = refl
none_there p (l ∷ ls) all = rw (turned (eqb_tells l.place p)) (none_there p ls all.1)
  where
    turned : ((eqb l.place p ≡ true) × (l.place ≡ p)) ⊎ ((eqb l.place p ≡ false) × (l.place ≢ p)) → (l.place == p) ≡ false
    turned (inl same) = absurd (apart (subst (λ x. nat_eq p x ≡ false) same.1 all.0))
      where
        apart : nat_eq p p ≡ false → ⊥
        apart e = by_test (eqb_tells p p)
          where
            by_test : ((eqb p p ≡ true) × (p ≡ p)) ⊎ ((eqb p p ≡ false) × (p ≢ p)) → ⊥
            by_test (inl same) = cc
            by_test (inr other) = other.1 refl
    turned (inr other) = other.0

-- what holds of each lock's place holds of a place where there is a mode
pub mode_listed : (P : ℕ → Type 0) (ls : List Lock) (p : ℕ) → All (λ (l : Lock). P l.place) ls → is_some (mode_at ls p) ≡ true → P p
mode_listed P [] p all e = cc
mode_listed P (l ∷ ls) p all e = by_test (eqb_tells l.place p) (mode_listed P ls p (All-tail (λ (x : Lock). P x.place) l ls all))
  where
    by_test : ((eqb l.place p ≡ true) × (l.place ≡ p)) ⊎ ((eqb l.place p ≡ false) × (l.place ≢ p)) → (is_some (mode_at ls p) ≡ true → P p) → P p
    by_test (inl same) rest = subst P same.1 (All-head (λ (x : Lock). P x.place) l ls all)
    by_test (inr other) rest = rest (rw other.0 at e)

-- the requests at the places of locks are changed, one place after another
module _ (change : Mode → List Request → List Request) (start : List QueueSeen) (locks : List Lock) where
  pub record IsTurning (queues : List QueueSeen) (rest : List Lock) : Type 0 where
    pub left : (p : ℕ) (m : Mode) → mode_at rest p ≡ Some m → (requests_at queues p ≡ requests_at start p) × (mode_at locks p ≡ Some m)
    pub turned : (p : ℕ) → mode_at rest p ≡ None → requests_at queues p ≡ by_lock change (mode_at locks p) (requests_at start p)
    pub room : (p : ℕ) → room_at start p ≤ room_at queues p
    pub apart : AreApart rest

  pub turn_start : AreApart locks → IsTurning start locks
  turn_start apart = record {
    left = λ p m h. (refl, h);
    turned = λ p h. rw h refl;
    room = λ p. omega arith;
    apart = apart;
  }

  module _ (queues : List QueueSeen) (l : Lock) (ls : List Lock) (turning : IsTurning queues (l ∷ ls)) where
    turn_mode : mode_at (l ∷ ls) l.place ≡ Some l.mode
    turn_mode = by_test (eqb_tells l.place l.place)
      where
        by_test : ((eqb l.place l.place ≡ true) × (l.place ≡ l.place)) ⊎ ((eqb l.place l.place ≡ false) × (l.place ≢ l.place)) → mode_at (l ∷ ls) l.place ≡ Some l.mode
        by_test (inl same) = rw same.0 refl
        by_test (inr other) = absurd (other.1 refl)

    turn_head : (requests_at queues l.place ≡ requests_at start l.place) × (mode_at locks l.place ≡ Some l.mode)
    turn_head = turning.left l.place l.mode turn_mode

    turn_step : (new : List QueueSeen) → requests_at new l.place ≡ change l.mode (requests_at queues l.place) → ((p : ℕ) → p ≢ l.place → requests_at new p ≡ requests_at queues p) → ((p : ℕ) → room_at queues p ≤ room_at new p) → IsTurning new ls
    unfolding IsDistinct
    turn_step new here elsewhere more = record {
      left = λ p m h. left_by p m h (eqb_tells l.place p);
      turned = λ p h. turned_by p h (eqb_tells l.place p);
      room = λ p. let before = turning.room p in let after = more p in omega (arith, before, after);
      apart = turning.apart.1;
    }
      where
        left_by : (p : ℕ) (m : Mode) → mode_at ls p ≡ Some m → ((eqb l.place p ≡ true) × (l.place ≡ p)) ⊎ ((eqb l.place p ≡ false) × (l.place ≢ p)) → (requests_at new p ≡ requests_at start p) × (mode_at locks p ≡ Some m)
        left_by p m h (inl same) =
            let none : mode_at ls p ≡ None = subst (λ q. mode_at ls q ≡ None) same.1 (none_there l.place ls turning.apart.0) in
            cc
        left_by p m h (inr other) =
            let before = turning.left p m (rw other.0 h) in
            (elsewhere p (λ e. other.1 (sym e)) ∙ before.0, before.1)

        turned_by : (p : ℕ) → mode_at ls p ≡ None → ((eqb l.place p ≡ true) × (l.place ≡ p)) ⊎ ((eqb l.place p ≡ false) × (l.place ≢ p)) → requests_at new p ≡ by_lock change (mode_at locks p) (requests_at start p)
        turned_by p h (inl same) = subst (λ q. requests_at new q ≡ by_lock change (mode_at locks q) (requests_at start q)) same.1
            (here ∙ (ap (change l.mode) turn_head.0 ∙ ap (λ o. by_lock change o (requests_at start l.place)) (sym turn_head.1)))
        turned_by p h (inr other) = elsewhere p (λ e. other.1 (sym e)) ∙ turning.turned p (rw other.0 h)

  -- the same with the locks that are left read from a position on
  module _ (queues : List QueueSeen) (i : ℕ) (turning : IsTurning queues (drop i locks)) where
    module _ (l : Lock) (inside : i < length locks) (is : l ≡ get_or locks i l) where
      at_lock : IsTurning queues (l ∷ drop (i + 1) locks)
      at_lock = subst (IsTurning queues) (drop_is locks i l inside is) turning

      pub turn_requests : requests_at queues l.place ≡ requests_at start l.place
      turn_requests = (turn_head queues l (drop (i + 1) locks) at_lock).0

      pub turn_mode_at : mode_at locks l.place ≡ Some l.mode
      turn_mode_at = (turn_head queues l (drop (i + 1) locks) at_lock).1

      pub turn_next : (new : List QueueSeen) → requests_at new l.place ≡ change l.mode (requests_at queues l.place) → ((p : ℕ) → p ≢ l.place → requests_at new p ≡ requests_at queues p) → ((p : ℕ) → room_at queues p ≤ room_at new p) → IsTurning new (drop (i + 1) locks)
      turn_next = turn_step queues l (drop (i + 1) locks) at_lock

      -- where each of the locks had room at first, there is room still; and no place had more requests
      pub turn_room : HaveRoom start locks → length (requests_at queues l.place) < room_at queues l.place
      turn_room there =
          let room = mode_listed (λ q. length (requests_at start q) < room_at start q) locks l.place there (ap is_some turn_mode_at) in
          let more = turning.room l.place in
          let same = ap length turn_requests in
          omega (arith, room, more, same)

      pub turn_few : (most : ℕ) → ((p : ℕ) → length (requests_at start p) < most) → length (requests_at queues l.place) < most
      turn_few most few = let here = few l.place in let same = ap length turn_requests in omega (arith, here, same)

    pub turn_done : length locks ≤ i → (p : ℕ) → requests_at queues p ≡ by_lock change (mode_at locks p) (requests_at start p)
    turn_done end p = turning.turned p (ap (λ (ls : List Lock). mode_at ls p) (drop_all i locks end))

pub last_lock : (held : Bool) (id : ClaimId) (o : Option Mode) (requests : List Request) → by_lock (λ m xs. xs ++ record { id = id; mode = m; is_held = held } ∷ []) o requests ≡ requests ++ request_of held id o
last_lock held id None requests = sym (append-nil requests)
last_lock held id (Some m) requests = refl

pub first_lock : (id : ClaimId) (o : Option Mode) (requests : List Request) → by_lock (λ m xs. record { id = id; mode = m; is_held = true } ∷ xs) o requests ≡ request_of true id o ++ requests
first_lock id None requests = refl
first_lock id (Some m) requests = refl
