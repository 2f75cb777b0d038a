-- The claims that wait for one that moves to the front: those that are waiting, and in the way of its locks.
use Rattle.std.specs.Prelude.{◌≡◌, ℕ, suc, ◌+◌, Bool, true, false, not, ◌&&◌, ◌||◌, List, [], ◌∷◌, ◌++◌, map, find, set, position, Option, None, Some, is_some, is_none, All, refl}
use Rattle.std.proofs.Common.{sym, ap, subst, ◌∙◌, cond, arith}
use Rattle.std.specs.List.{IsDistinct, position_or_len, remove}
use Rattle.std.specs.Option.{option_map}
use Rattle.std.proofs.lemmas.List.Elements.{All-nil, All-cons, All-head, All-tail, All-filter}
use Rattle.std.proofs.lemmas.Option.{same_Some}
use Rattle.vault_state.specs.declared.ids.ClaimId.{ClaimId}
use Rattle.vault_state.specs.Claims.{same_id}
use Rattle.vault_state.proofs.Stays.{same_id_itself, same_id_turned}
use Rattle.lock_modes.specs.declared.mode.Mode.{Mode}
use Rattle.lock_modes.specs.Modes.{compatible, incompatible}
use Rattle.lock_table.specs.declared.locks.Lock.{Lock}
use Rattle.lock_queue.specs.declared.queue.Request.{Request}
use Rattle.lock_table.specs.declared.entry.Entry.{Entry}
use Rattle.lock_table.specs.declared.again.Again.{Again}
use Rattle.lock_table.specs.declared.again.Again.TheVariants.{Behind, Everyone}
use Rattle.lock_table.specs.Locks.{mode_at, AreApart, conflict}
use Rattle.lock_table.specs.Tables.{first_in_way, entry_of, entries_without, is_held_in, held_in_way, put_first}
use Rattle.lock_queue.specs.Queue.{QueueSeen, first_of, is_in_way}
use Rattle.lock_table.specs.Queues.{AreStale, requests_at, requests_by, request_of, blocker_at, is_taken, is_queued_at, is_queued_in, is_queued_against, waits_where, waits_behind}
use Rattle.lock_table.proofs.Removals.{ids, is_its, own_index, index_read, none_its}
use Rattle.lock_queue.proofs.Groups.{NoRequest}
use Rattle.lock_table.proofs.Others.{none_requested, rest_apart}
use Rattle.lock_table.proofs.Queuing.{located, not_located}
use Rattle.lock_table.proofs.Requests.{requests_same}
use Rattle.lock_table.proofs.Stale.{all_of, all_map, all_both, map_same, listed, now_waits}
use Rattle.lock_table.proofs.Leaving.{is_id, before_other, still_waits, all_stay}
use Rattle.lock_table.proofs.Blockers.{conflict_none, none_passes, taken_out}

-- another blocker beside a claim's entry
set_own : (old : Entry → Option ClaimId) (id : ClaimId) (b : Option ClaimId) (xs : List Entry) → IsDistinct same_id (ids xs) → is_some (entry_of xs id) ≡ true
    → set (map old xs) (position_or_len (is_its id) xs) b ≡ map (now_waits old id b) xs
unfolding IsDistinct
set_own old id b [] distinct there = cc
set_own old id b (x ∷ xs) distinct there = by_test (same_id x.id id) refl there (set_own old id b xs distinct.1)
  where
    by_test : (c : Bool) → same_id x.id id ≡ c → is_some (cond c (Some x) (entry_of xs id)) ≡ true
        → (is_some (entry_of xs id) ≡ true → set (map old xs) (position_or_len (is_its id) xs) b ≡ map (now_waits old id b) xs)
        → set (map old (x ∷ xs)) (cond (not c) (1 + position_or_len (is_its id) xs) 0) b ≡ map (now_waits old id b) (x ∷ xs)
    by_test true h k ih = rw h (ap (λ ys. b ∷ ys) (map_same old (now_waits old id b) xs
        (all_map (λ (y : Entry). same_id y.id id ≡ false) (λ (y : Entry). old y ≡ now_waits old id b y) (λ y g. rw g refl) xs (listed (λ y. same_id y id ≡ false) xs (rest_apart x xs id h distinct.0)))))
    by_test false h k ih = let more : 1 + position_or_len (is_its id) xs ≡ suc (position_or_len (is_its id) xs) = omega arith in rw (more, h) (ap (λ ys. old x ∷ ys) (ih k))

-- where nobody passes, nothing changes
pub waits_nobody : (test : Entry → Bool) (table : List Entry) (blockers : List (Option ClaimId)) (id : ClaimId) → ((e : Entry) → test e ≡ false)
    → (old : Entry → Option ClaimId) → blockers ≡ map old table → blockers ≡ map (waits_where test id old) table
waits_nobody test table blockers id none old were = were ∙ map_same old (waits_where test id old) table (all_of (λ (e : Entry). old e ≡ waits_where test id old e) (λ e. rw (none e) refl) table)

-- a request that is waiting and in the way makes its claim wait

pub waits_found : (m : Mode) (request : Request) (table : List Entry) (blockers new : List (Option ClaimId)) (id : ClaimId) (i : ℕ) → IsDistinct same_id (ids table) → (not request.is_held && not (compatible m request.mode)) ≡ true
    → position (is_its request.id) table ≡ Some i → new ≡ set blockers i (Some id) → (old : Entry → Option ClaimId) → blockers ≡ map old table → new ≡ map (waits_where (is_queued_at m request) id old) table
waits_found m request table blockers new id i distinct queued at is old were =
    let here = located table request.id i at in
    let there : is_some (entry_of table request.id) ≡ true = ap is_some here.found in
    let same : position_or_len (is_its request.id) table ≡ i = same_Some (position_or_len (is_its request.id) table) i (sym (own_index request.id table there) ∙ at) in
    is ∙ (ap (λ (bs : List (Option ClaimId)). set bs i (Some id)) were ∙ (subst (λ k. set (map old table) k (Some id) ≡ map (now_waits old request.id (Some id)) table) same (set_own old request.id (Some id) table distinct there)
    ∙ map_same (now_waits old request.id (Some id)) (waits_where (is_queued_at m request) id old) table (all_of (λ (e : Entry). now_waits old request.id (Some id) e ≡ waits_where (is_queued_at m request) id old e) (λ e. rw queued refl) table)))

pub waits_absent : (m : Mode) (request : Request) (table : List Entry) (blockers : List (Option ClaimId)) (id : ClaimId) → (not request.is_held && not (compatible m request.mode)) ≡ true → position (is_its request.id) table ≡ None
    → (old : Entry → Option ClaimId) → blockers ≡ map old table → blockers ≡ map (waits_where (is_queued_at m request) id old) table
waits_absent m request table blockers id queued at old were =
    were ∙ map_same old (waits_where (is_queued_at m request) id old) table
    (all_map (λ (e : Entry). same_id e.id request.id ≡ false) (λ (e : Entry). old e ≡ waits_where (is_queued_at m request) id old e) (λ e h. rw (queued, h) refl) table
    (none_its request.id table (ap is_some (not_located table request.id at))))

-- those that passed so far wait for one claim; with those still to pass, the blockers are as they must be
pub record IsWaiting (id : ClaimId) (table : List Entry) (target : Entry → Option ClaimId) (rest : Entry → Bool) (blockers : List (Option ClaimId)) : Type 0 where
  pub now : Entry → Option ClaimId
  pub were : blockers ≡ map now table
  pub whole : (e : Entry) → waits_where rest id now e ≡ target e

module _ (id : ClaimId) (table : List Entry) where
  pub wait_start : (old : Entry → Option ClaimId) (test : Entry → Bool) (blockers : List (Option ClaimId)) → blockers ≡ map old table → IsWaiting id table (waits_where test id old) test blockers
  wait_start old test blockers were = record { now = old; were = were; whole = λ e. refl }

  pub wait_done : (target : Entry → Option ClaimId) (rest : Entry → Bool) (blockers : List (Option ClaimId)) → ((e : Entry) → rest e ≡ false) → IsWaiting id table target rest blockers → blockers ≡ map target table
  wait_done target rest blockers none so = so.were ∙ map_same so.now target table (all_of (λ (e : Entry). so.now e ≡ target e) (λ e. sym (rw (none e) refl) ∙ so.whole e) table)

  module _ (target : Entry → Option ClaimId) (here rest : Entry → Bool) (blockers : List (Option ClaimId)) (so : IsWaiting id table target (λ e. here e || rest e) blockers) where
    pub wait_step : (new : List (Option ClaimId)) → ((old : Entry → Option ClaimId) → blockers ≡ map old table → new ≡ map (waits_where here id old) table) → IsWaiting id table target rest new
    wait_step new waits = record { now = waits_where here id so.now; were = waits so.now so.were; whole = λ e. by_tests (here e) (rest e) (so.now e) ∙ so.whole e }
      where
        by_tests : (a b : Bool) (o : Option ClaimId) → cond b (Some id) (cond a (Some id) o) ≡ cond (a || b) (Some id) o
        by_tests true true o = refl
        by_tests true false o = refl
        by_tests false b o = refl

-- a queue in which no request is in the way has none that is queued and in the way
pub none_against : (m : Mode) (requests : List Request) → first_of (is_in_way m) requests ≡ None → (e : Entry) → is_queued_in m requests e ≡ false
none_against m [] none e = refl
none_against m (s ∷ requests) none e = by_test (compatible m s.mode) refl none (λ h. none_against m requests h e)
  where
    nothing : (b c : Bool) → ((b && false) && c) ≡ false
    nothing true c = refl
    nothing false c = refl

    by_test : (b : Bool) → compatible m s.mode ≡ b → option_map (λ (x : Request). x.id) (cond (not b) (Some s) (find (is_in_way m) requests)) ≡ None → (first_of (is_in_way m) requests ≡ None → is_queued_in m requests e ≡ false) → is_queued_in m (s ∷ requests) e ≡ false
    by_test true h k ih = rw (h, nothing (not s.is_held) (same_id e.id s.id)) (ih k)
    by_test false h k ih = cc

-- a claim's requests, and those of the others
none_queued : (m : Mode) (e : Entry) (requests : List Request) → NoRequest e.id requests → is_queued_in m requests e ≡ false
none_queued m e [] all = refl
none_queued m e (s ∷ requests) all = rw (same_id_turned s.id e.id all.0) (by_test (not s.is_held && not (compatible m s.mode)) (none_queued m e requests all.1))
  where
    by_test : (b : Bool) → is_queued_in m requests e ≡ false → ((b && false) || is_queued_in m requests e) ≡ false
    by_test true ih = ih
    by_test false ih = ih

and_none : (b : Bool) → false ≡ (b && false)
and_none true = refl
and_none false = refl

own_queued : (held : Bool) (m : Mode) (e : Entry) (o : Option Mode) (rest : List Request) → is_queued_in m rest e ≡ false → is_queued_in m (request_of held e.id o ++ rest) e ≡ (not held && incompatible (Some m) o)
own_queued held m e None rest none = none ∙ and_none (not held)
own_queued held m e (Some n) rest none = rw (same_id_itself e.id, none) (by_test (not held && not (compatible m n)))
  where
    by_test : (b : Bool) → ((b && true) || false) ≡ b
    by_test true = refl
    by_test false = refl

other_queued : (held : Bool) (m : Mode) (x e : Entry) (o : Option Mode) (rest : List Request) → same_id x.id e.id ≡ false → is_queued_in m (request_of held x.id o ++ rest) e ≡ is_queued_in m rest e
other_queued held m x e None rest other = refl
other_queued held m x e (Some n) rest other = rw (same_id_turned x.id e.id other) (by_test (not held && not (compatible m n)))
  where
    by_test : (b : Bool) → ((b && false) || is_queued_in m rest e) ≡ is_queued_in m rest e
    by_test true = refl
    by_test false = refl

-- at a place, the claims with such a request are those that are waiting and have a mode in the way there
queued_at : (held : Entry → Bool) (m : Mode) (p : ℕ) (table : List Entry) → IsDistinct same_id (ids table)
    → All (λ (e : Entry). is_queued_in m (requests_by held table p) e ≡ (not (held e) && incompatible (Some m) (mode_at e.locks p))) table
unfolding IsDistinct
queued_at held m p [] distinct = All-nil (λ (e : Entry). is_queued_in m (requests_by held [] p) e ≡ (not (held e) && incompatible (Some m) (mode_at e.locks p)))
queued_at held m p (x ∷ xs) distinct =
    All-cons (λ (e : Entry). is_queued_in m (requests_by held (x ∷ xs) p) e ≡ (not (held e) && incompatible (Some m) (mode_at e.locks p))) x xs
    (own_queued (held x) m x (mode_at x.locks p) (requests_by held xs p) (none_queued m x (requests_by held xs p) (none_requested x.id held xs p (rest_apart x xs x.id (same_id_itself x.id) distinct.0))))
    (all_both (λ (e : Entry). same_id x.id e.id ≡ false) (λ (e : Entry). is_queued_in m (requests_by held xs p) e ≡ (not (held e) && incompatible (Some m) (mode_at e.locks p)))
    (λ (e : Entry). is_queued_in m (requests_by held (x ∷ xs) p) e ≡ (not (held e) && incompatible (Some m) (mode_at e.locks p)))
    (λ e other so. other_queued (held x) m x e (mode_at x.locks p) (requests_by held xs p) other ∙ so) xs (listed (λ k. same_id x.id k ≡ false) xs distinct.0) (queued_at held m p xs distinct.1))

-- so those queued against some locks conflict with them
pub queued_law : (queues : List QueueSeen) (held : Entry → Bool) (table : List Entry) → IsDistinct same_id (ids table) → ((p : ℕ) → requests_at queues p ≡ requests_by held table p) → (locks : List Lock)
    → All (λ (e : Entry). is_queued_against queues locks e ≡ (not (held e) && conflict locks e.locks)) table
queued_law queues held table distinct requests [] = all_of (λ (e : Entry). is_queued_against queues [] e ≡ (not (held e) && conflict [] e.locks)) (λ e. and_none (not (held e))) table
queued_law queues held table distinct requests (l ∷ ls) =
    all_both (λ (e : Entry). is_queued_in l.mode (requests_by held table l.place) e ≡ (not (held e) && incompatible (Some l.mode) (mode_at e.locks l.place)))
    (λ (e : Entry). is_queued_against queues ls e ≡ (not (held e) && conflict ls e.locks)) (λ (e : Entry). is_queued_against queues (l ∷ ls) e ≡ (not (held e) && conflict (l ∷ ls) e.locks))
    (λ e here rest. ap (λ b. b || is_queued_against queues ls e) (ap (λ (ss : List Request). is_queued_in l.mode ss e) (requests l.place) ∙ here)
    ∙ (ap (λ b. (not (held e) && incompatible (Some l.mode) (mode_at e.locks l.place)) || b) rest ∙ by_test (not (held e)) (incompatible (Some l.mode) (mode_at e.locks l.place)) (conflict ls e.locks)))
    table (queued_at held l.mode l.place table distinct) (queued_law queues held table distinct requests ls)
  where
    by_test : (h a b : Bool) → ((h && a) || (h && b)) ≡ (h && (a || b))
    by_test true a b = refl
    by_test false a b = refl

-- a claim's entry (its index is read from a copy of the line) removed, and put first with other locks
pub moved : (table copy : List Entry) (id : ClaimId) (locks : List Lock) (i : ℕ) → IsDistinct same_id (ids table) → copy ≡ table → position (is_its id) copy ≡ Some i
    → (new : List Entry) (e : Entry) → e ≡ record { id = id; locks = locks } → new ≡ e ∷ remove table i → new ≡ put_first table id locks
moved table copy id locks i distinct same at new e made is =
    is ∙ (ap (λ (k : Entry). k ∷ remove table i) made ∙ ap (λ (xs : List Entry). record { id = id; locks = locks } ∷ xs) (taken_out table id i distinct (index_read id table copy (Some i) same at)))

-- the blockers beside the entries when a claim has moved to the front, held
module _ (table : List Entry) (id : ClaimId) (locks : List Lock) where
  abbrev first : Entry
  first = record { id = id; locks = locks }

  abbrev pub was_first : Entry → Option ClaimId
  was_first e = cond (same_id e.id id) None (blocker_at table e)

  pub were_first : (blockers : List (Option ClaimId)) → blockers ≡ None ∷ map (blocker_at table) (entries_without table id) → blockers ≡ map was_first (put_first table id locks)
  were_first blockers were = were ∙ rw (same_id_itself id) (ap (λ xs. None ∷ xs) (map_same (blocker_at table) was_first (entries_without table id) (all_stay (is_id id) (λ (e : Entry). blocker_at table e ≡ was_first e) (λ e h. rw h refl) table)))

  pub requests_first : (queues : List QueueSeen) → ((p : ℕ) → requests_at queues p ≡ request_of true id (mode_at locks p) ++ requests_by (is_held_in table) (entries_without table id) p)
      → (p : ℕ) → requests_at queues p ≡ requests_by (λ (e : Entry). is_none (was_first e)) (put_first table id locks) p
  requests_first queues requests p = requests p ∙ rw (same_id_itself id)
      (ap (λ xs. request_of true id (mode_at locks p) ++ xs) (requests_same (is_held_in table) (λ (e : Entry). is_none (was_first e)) (entries_without table id) p (all_stay (is_id id) (λ (e : Entry). is_held_in table e ≡ is_none (was_first e)) (λ e h. rw h refl) table)))

  module _ (again : Again) (queues : List QueueSeen) (distinct : IsDistinct same_id (ids (put_first table id locks)))
      (requests : (p : ℕ) → requests_at queues p ≡ request_of true id (mode_at locks p) ++ requests_by (is_held_in table) (entries_without table id) p)
      (enough : All (λ (e : Entry). is_taken again (waits_behind table id locks e) ≡ false → waits_behind table id locks e ≡ blocker_at (put_first table id locks) e) (entries_without table id)) where
    abbrev now : Entry → Option ClaimId
    now = waits_where (is_queued_against queues locks) id was_first

    same_wait : (o : Option ClaimId) (c b : Bool) → b ≡ (not (is_none o) && c) → cond b (Some id) o ≡ cond (is_some o && c) (Some id) o
    same_wait None c b h = rw h refl
    same_wait (Some k) c b h = rw h refl

    still_held : (o : Option ClaimId) (c b : Bool) → b ≡ (not (is_none o) && c) → is_none o ≡ is_none (cond b (Some id) o)
    still_held None c b h = rw h refl
    still_held (Some k) c true h = refl
    still_held (Some k) c false h = refl

    held_as : All (λ (e : Entry). is_queued_against queues locks e ≡ (not (is_none (was_first e)) && conflict locks e.locks)) (put_first table id locks)
    held_as = queued_law queues (λ (e : Entry). is_none (was_first e)) (put_first table id locks) distinct (requests_first queues requests) locks

    first_right : is_taken again (now first) ≡ false → now first ≡ blocker_at (put_first table id locks) first
    first_right taken =
        let none : is_queued_against queues locks first ≡ false = All-head (λ (e : Entry). is_queued_against queues locks e ≡ (not (is_none (was_first e)) && conflict locks e.locks)) first (entries_without table id) held_as ∙ rw (same_id_itself id) refl in
        rw (none, same_id_itself id) refl

    rest_right : (e : Entry) → same_id e.id id ≡ false → is_queued_against queues locks e ≡ (not (is_none (was_first e)) && conflict locks e.locks)
        → (is_taken again (waits_behind table id locks e) ≡ false → waits_behind table id locks e ≡ blocker_at (put_first table id locks) e) → is_taken again (now e) ≡ false → now e ≡ blocker_at (put_first table id locks) e
    rest_right e other queued right taken =
        let so : is_queued_against queues locks e ≡ (not (is_none (blocker_at table e)) && conflict locks e.locks) = rw other at queued in
        let is : now e ≡ waits_behind table id locks e = rw other (same_wait (blocker_at table e) (conflict locks e.locks) (is_queued_against queues locks e) so) in
        is ∙ right (ap (is_taken again) (sym is) ∙ taken)

    -- when a claim moves to the front, granted, and the waiting claims in its way wait for it
    pub stale_first : (blockers : List (Option ClaimId)) → blockers ≡ map now (put_first table id locks) → AreStale again (put_first table id locks) blockers queues
    stale_first blockers were = record {
      old = now;
      were = were;
      requests = λ p. requests_first queues requests p ∙ requests_same (λ (e : Entry). is_none (was_first e)) (λ (e : Entry). is_none (now e)) (put_first table id locks) p
          (all_map (λ (e : Entry). is_queued_against queues locks e ≡ (not (is_none (was_first e)) && conflict locks e.locks)) (λ (e : Entry). is_none (was_first e) ≡ is_none (now e)) (λ e h. still_held (was_first e) (conflict locks e.locks) (is_queued_against queues locks e) h) (put_first table id locks) held_as);
      right = All-cons (λ (e : Entry). is_taken again (now e) ≡ false → now e ≡ blocker_at (put_first table id locks) e) first (entries_without table id) first_right
          (all_both (λ (e : Entry). (same_id e.id id ≡ false) × (is_queued_against queues locks e ≡ (not (is_none (was_first e)) && conflict locks e.locks)))
          (λ (e : Entry). is_taken again (waits_behind table id locks e) ≡ false → waits_behind table id locks e ≡ blocker_at (put_first table id locks) e) (λ (e : Entry). is_taken again (now e) ≡ false → now e ≡ blocker_at (put_first table id locks) e)
          (λ e so right. rest_right e so.0 so.1 right) (entries_without table id)
          (all_both (λ (e : Entry). same_id e.id id ≡ false) (λ (e : Entry). is_queued_against queues locks e ≡ (not (is_none (was_first e)) && conflict locks e.locks))
          (λ (e : Entry). (same_id e.id id ≡ false) × (is_queued_against queues locks e ≡ (not (is_none (was_first e)) && conflict locks e.locks))) (λ e other queued. (other, queued)) (entries_without table id)
          (all_stay (is_id id) (λ (e : Entry). same_id e.id id ≡ false) (λ e h. h) table)
          (All-tail (λ (e : Entry). is_queued_against queues locks e ≡ (not (is_none (was_first e)) && conflict locks e.locks)) first (entries_without table id) held_as)) enough);
    }

-- a change that weighs everyone has nothing to keep
pub everyone : (table : List Entry) (id : ClaimId) (locks : List Lock)
    → All (λ (e : Entry). is_taken Everyone (waits_behind table id locks e) ≡ false → waits_behind table id locks e ≡ blocker_at (put_first table id locks) e) (entries_without table id)
everyone table id locks = all_of (λ (e : Entry). is_taken Everyone (waits_behind table id locks e) ≡ false → waits_behind table id locks e ≡ blocker_at (put_first table id locks) e) (λ e h. cc) (entries_without table id)

-- an extension changes nothing for claims that didn't wait for its claim, and don't now
module _ (table : List Entry) (id : ClaimId) (locks : List Lock) (free : held_in_way table id locks ≡ None) (apart : All (λ (e : Entry). AreApart e.locks) table) where
  -- a claim that isn't in the way of the new locks waits for the same as before
  waits_on : (e : Entry) → same_id e.id id ≡ false → AreApart e.locks → conflict locks e.locks ≡ false → is_taken (Behind id) (blocker_at table e) ≡ false → blocker_at table e ≡ blocker_at (put_first table id locks) e
  waits_on e other own mine kept =
      let back : conflict e.locks locks ≡ false = conflict_none locks e.locks own mine in
      still_waits (is_id id) table e other kept ∙ sym (ap (λ (xs : List Entry). first_in_way xs e.locks) (before_other (record { id = id; locks = locks }) (entries_without table id) e.id (same_id_turned e.id id other)) ∙ rw back refl)

  abbrev Stays : Entry → Type 0
  Stays e = is_taken (Behind id) (waits_behind table id locks e) ≡ false → waits_behind table id locks e ≡ blocker_at (put_first table id locks) e

  one_stays : (e : Entry) → AreApart e.locks → (not (same_id e.id id) && conflict locks e.locks && is_held_in table e) ≡ false → same_id e.id id ≡ false → Stays e
  one_stays e own passes other = by_tests (blocker_at table e) refl (conflict locks e.locks) refl
    where
      by_tests : (o : Option ClaimId) → blocker_at table e ≡ o → (c : Bool) → conflict locks e.locks ≡ c
          → is_taken (Behind id) (cond (is_some o && c) (Some id) o) ≡ false → cond (is_some o && c) (Some id) o ≡ blocker_at (put_first table id locks) e
      by_tests None is true clash kept = let held : (not false && true && true) ≡ false = rw (other, clash, is) at passes in cc
      by_tests None is false none kept = sym is ∙ waits_on e other own none (ap (is_taken (Behind id)) is ∙ kept)
      by_tests (Some k) is true clash kept = let same = same_id_itself id in cc
      by_tests (Some k) is false none kept = sym is ∙ waits_on e other own none (ap (is_taken (Behind id)) is ∙ kept)

  pub nearby_alone : All Stays (entries_without table id)
  nearby_alone =
      all_both (λ (e : Entry). same_id e.id id ≡ false) (λ (e : Entry). same_id e.id id ≡ false → Stays e) Stays (λ e other stays. stays other) (entries_without table id) (all_stay (is_id id) (λ (e : Entry). same_id e.id id ≡ false) (λ e h. h) table)
      (All-filter (λ (e : Entry). not (same_id e.id id)) (λ (e : Entry). same_id e.id id ≡ false → Stays e) table
      (all_both (λ (e : Entry). AreApart e.locks) (λ (e : Entry). (not (same_id e.id id) && conflict locks e.locks && is_held_in table e) ≡ false) (λ (e : Entry). same_id e.id id ≡ false → Stays e)
      one_stays table apart (none_passes (λ (e : Entry). not (same_id e.id id) && conflict locks e.locks && is_held_in table e) table free)))
