-- What a table keeps of its queues, through each change, and what it reads from them.
use Rattle.std.specs.Prelude.{◌≡◌, ℕ, zero, suc, ◌<◌, ◌≤◌, Bool, true, false, not, ◌&&◌, ◌||◌, nat_lt, List, [], ◌∷◌, ◌++◌, length, map, filter, find, take, position, slice_get, Option, None, Some, is_some, is_none, All, Result, Ok, Err, is_ok, OnErr, refl}
use Rattle.std.proofs.Common.{sym, ap, subst, ◌∙◌, cond, arith, get_or, length-append}
use Rattle.std.specs.List.{list_any, position_or_len, IsDistinct, AllByRecursion}
use Rattle.std.specs.Option.{option_map, option_and_then}
use Rattle.std.proofs.lemmas.Bool.Decides.{nat_tests}
use Rattle.std.proofs.lemmas.List.Elements.{All-nil, All-cons, All-head, All-tail, All-filter}
use Rattle.std.proofs.lemmas.List.Folds.{find_at}
use Rattle.std.proofs.lemmas.Option.{same_Some}
use Rattle.vault_state.specs.declared.ids.ClaimId.{ClaimId}
use Rattle.vault_state.specs.Claims.{same_id, standing_by}
use Rattle.vault_state.proofs.Stays.{same_id_is}
use Rattle.vault_state.specs.Limits.{most_claims}
use Rattle.lock_modes.specs.declared.mode.Mode.{Mode}
use Rattle.lock_modes.specs.Modes.{incompatible}
use Rattle.lock_table.specs.declared.locks.Lock.{Lock}
use Rattle.lock_table.specs.declared.entry.Entry.{Entry}
use Rattle.lock_table.specs.Locks.{mode_at, AreApart, conflict}
use Rattle.lock_table.specs.Tables.{IsTable, first_in_way, entry_of, entries_before, entries_without, standing_in, is_held_in, held_in_way, put_first}
use Rattle.lock_queue.specs.Queue.{QueueSeen, request_modes, held_requests, first_of, is_held_in_way}
use Rattle.lock_table.specs.Queues.{AreQueues, requests_at, room_at, HaveRoom, request_of, requests_by, requests_from, modes_by, modes_in, position_of, request_in_way, held_request_in_way, blocker_at, blockers_of}
use Rattle.lock_table.proofs.Putting.{mode_listed}
use Rattle.lock_table.proofs.Positions.{first_from, queue_first, any_first, earliest_same, first_same, id_found, first_taken, if_lower}
use Rattle.lock_table.proofs.Weighing.{FindFirst, all_push, length_from, requests_from-push, queue_law, way_law}
use Rattle.lock_queue.proofs.Counts.{length_modes}
use Rattle.lock_table.proofs.Leaving.{is_id}
use Rattle.lock_table.proofs.TablesKept.{table_extended}
use Rattle.lock_table.proofs.Removals.{ids, is_its, own_index, others_stay, turned}

-- an item pushed, where memory was there
pub pushed : {X Y E : Type 0} (r : Result Y E) (y : Y) (new old : List X) (x : X) → r ≡ Ok y → new ≡ cond (is_ok r) (old ++ x ∷ []) old → new ≡ old ++ x ∷ []
pushed r y new old x e h = rw e at h

-- the queues of a table, weighed one after another
pub from_queues : (table : List Entry) (queues : List QueueSeen) → IsTable table → AreQueues table queues → (p : ℕ) → requests_at queues p ≡ requests_from [] table p
from_queues table queues kept are_queues p = are_queues.requests p ∙ sym (queue_law table p kept.distinct)

pub queues_none : (queues : List QueueSeen) → queues ≡ [] → AreQueues [] queues
queues_none queues e = rw e (record { requests = λ p. refl; room = λ p. omega arith; apart = All-nil (λ (e : Entry). AreApart e.locks) })

-- queues that have these requests now, and room for them
pub queues_requested : (table : List Entry) (queues : List QueueSeen) → IsTable table → ((p : ℕ) → requests_at queues p ≡ requests_from [] table p) → ((p : ℕ) → length (requests_at queues p) ≤ room_at queues p)
    → All (λ (e : Entry). AreApart e.locks) table → AreQueues table queues
queues_requested table queues kept requests room apart = record { requests = λ p. requests p ∙ queue_law table p kept.distinct; room = room; apart = apart }

-- the same requests, with no less room
pub queues_kept : (table : List Entry) (queues new : List QueueSeen) → AreQueues table queues → ((p : ℕ) → requests_at new p ≡ requests_at queues p) → ((p : ℕ) → room_at queues p ≤ room_at new p) → AreQueues table new
queues_kept table queues new are_queues same more = record {
  requests = λ p. same p ∙ are_queues.requests p;
  room = λ p. let requests = ap length (same p) in let before = are_queues.room p in let after = more p in omega (arith, requests, before, after);
  apart = are_queues.apart;
}

-- fewer claims than the most have a request at a place
pub few_requested : (table : List Entry) (queues : List QueueSeen) → IsTable table → AreQueues table queues → length table < most_claims → (p : ℕ) → length (requests_at queues p) < most_claims
few_requested table queues kept are_queues room p =
    let same = ap length (from_queues table queues kept are_queues p) in
    let bound = length_from [] table p in
    omega (arith, same, bound, room)

-- a claim put last keeps to the room
pub put_room_kept : (queues new : List QueueSeen) (locks : List Lock) (held : Bool) (id : ClaimId) → HaveRoom queues locks → ((p : ℕ) → length (requests_at queues p) ≤ room_at queues p)
    → ((p : ℕ) → requests_at new p ≡ requests_at queues p ++ request_of held id (mode_at locks p)) → ((p : ℕ) → room_at queues p ≤ room_at new p) → (p : ℕ) → length (requests_at new p) ≤ room_at new p
put_room_kept queues new locks held id there room put more p = by_mode (mode_at locks p) refl
  where
    by_mode : (o : Option Mode) → mode_at locks p ≡ o → length (requests_at new p) ≤ room_at new p
    by_mode None e =
        let same = ap length (put p ∙ ap (λ o. requests_at queues p ++ request_of held id o) e) in
        let parts = length-append (requests_at queues p) (request_of held id None) in
        let before = room p in
        let after = more p in
        omega (arith, same, parts, before, after)
    by_mode (Some m) e =
        let same = ap length (put p ∙ ap (λ o. requests_at queues p ++ request_of held id o) e) in
        let parts = length-append (requests_at queues p) (request_of held id (Some m)) in
        let before = mode_listed (λ q. length (requests_at queues q) < room_at queues q) locks p there (ap is_some e) in
        let after = more p in
        omega (arith, same, parts, before, after)

pub queues_asked : (table : List Entry) (queues reserved new : List QueueSeen) (e : Entry) (held : Bool) → IsTable table → IsTable (table ++ e ∷ []) → AreQueues table queues
    → ((p : ℕ) → requests_at reserved p ≡ requests_at queues p) → ((p : ℕ) → room_at queues p ≤ room_at reserved p) → HaveRoom reserved e.locks → AreApart e.locks → held ≡ is_none (first_in_way table e.locks)
    → ((p : ℕ) → requests_at new p ≡ requests_at reserved p ++ request_of held e.id (mode_at e.locks p)) → ((p : ℕ) → room_at reserved p ≤ room_at new p) → AreQueues (table ++ e ∷ []) new
queues_asked table queues reserved new e held kept longer are_queues same more there apart h put after =
    let now = queues_kept table queues reserved are_queues same more in
    queues_requested (table ++ e ∷ []) new longer
    (λ p. put p ∙ (ap (λ xs. xs ++ request_of held e.id (mode_at e.locks p)) (from_queues table reserved kept now p)
    ∙ (ap (λ b. requests_from [] table p ++ request_of b e.id (mode_at e.locks p)) h ∙ sym (requests_from-push table e p))))
    (put_room_kept reserved new e.locks held e.id there now.room put after)
    (all_push (λ (x : Entry). AreApart x.locks) table e are_queues.apart apart)

pub modes_fewer : (test : Entry → Bool) (es : List Entry) (p : ℕ) → length (modes_in (filter test es) p) ≤ length (modes_in es p)
modes_fewer test [] p = omega arith
modes_fewer test (e ∷ es) p = by_test (test e) (mode_at e.locks p) refl (modes_fewer test es p)
  where
    by_test : (b : Bool) (o : Option Mode) → mode_at e.locks p ≡ o → length (modes_in (filter test es) p) ≤ length (modes_in es p) → length (modes_in (cond b (e ∷ filter test es) (filter test es)) p) ≤ length (modes_by o (modes_in es p))
    by_test true None h ih = rw h ih
    by_test true (Some m) h ih = rw h (omega (arith, ih))
    by_test false None h ih = ih
    by_test false (Some m) h ih = omega (arith, ih)

pub apart_without : (table : List Entry) (id : ClaimId) → All (λ (e : Entry). AreApart e.locks) table → All (λ (e : Entry). AreApart e.locks) (entries_without table id)
apart_without table id all = All-filter (λ (e : Entry). not (same_id e.id id)) (λ (e : Entry). AreApart e.locks) table all

pub apart_first : (table : List Entry) (id : ClaimId) (locks : List Lock) → All (λ (e : Entry). AreApart e.locks) table → AreApart locks → All (λ (e : Entry). AreApart e.locks) (put_first table id locks)
apart_first table id locks all apart = All-cons (λ (e : Entry). AreApart e.locks) (record { id = id; locks = locks }) (entries_without table id) apart (apart_without table id all)

-- the groups at a place
pub queue_modes : (held : Entry → Bool) (es : List Entry) (p : ℕ) → request_modes (requests_by held es p) ≡ modes_in es p
queue_modes held [] p = refl
queue_modes held (e ∷ es) p = by_mode (mode_at e.locks p) (queue_modes held es p)
  where
    by_mode : (o : Option Mode) → request_modes (requests_by held es p) ≡ modes_in es p → request_modes (request_of (held e) e.id o ++ requests_by held es p) ≡ modes_by o (modes_in es p)
    by_mode None ih = ih
    by_mode (Some m) ih = ap (λ ms. m ∷ ms) ih

held_modes : (held : Entry → Bool) (es : List Entry) (p : ℕ) → request_modes (held_requests (requests_by held es p)) ≡ modes_in (filter held es) p
held_modes held [] p = refl
held_modes held (e ∷ es) p = by_test (held e) (mode_at e.locks p) refl (held_modes held es p)
  where
    by_test : (b : Bool) (o : Option Mode) → mode_at e.locks p ≡ o → request_modes (held_requests (requests_by held es p)) ≡ modes_in (filter held es) p
        → request_modes (held_requests (request_of b e.id o ++ requests_by held es p)) ≡ modes_in (cond b (e ∷ filter held es) (filter held es)) p
    by_test true None h ih = rw h ih
    by_test true (Some m) h ih = rw h (ap (λ ms. m ∷ ms) ih)
    by_test false None h ih = ih
    by_test false (Some m) h ih = ih

pub all_modes : (table : List Entry) (queues : List QueueSeen) → AreQueues table queues → (p : ℕ) → request_modes (requests_at queues p) ≡ modes_in table p
all_modes table queues are_queues p = ap request_modes (are_queues.requests p) ∙ queue_modes (is_held_in table) table p

pub held_ones : (table : List Entry) (queues : List QueueSeen) → AreQueues table queues → (p : ℕ) → request_modes (held_requests (requests_at queues p)) ≡ modes_in (filter (is_held_in table) table) p
held_ones table queues are_queues p = ap (λ xs. request_modes (held_requests xs)) (are_queues.requests p) ∙ held_modes (is_held_in table) table p

-- the id of the first in the way, by its position
pub way_id : (queues : List QueueSeen) (table : List Entry) (locks : List Lock) → IsDistinct same_id (ids table) → FindFirst queues table
    → option_and_then (λ i. option_map (λ (e : Entry). e.id) (slice_get table i)) (request_in_way table queues locks) ≡ first_in_way table locks
way_id queues table locks distinct found =
    ap (option_and_then (λ i. option_map (λ (e : Entry). e.id) (slice_get table i))) (way_law queues table locks distinct found) ∙ id_found (λ (e : Entry). conflict locks e.locks) table

-- the same for those before a position
taken_at : (i : ℕ) (xs : List Entry) (j : ℕ) → j < i → slice_get (take i xs) j ≡ slice_get xs j
taken_at zero xs j h = absurd (omega (arith, h))
taken_at (suc i) [] j h = refl
taken_at (suc i) (x ∷ xs) zero h = refl
taken_at (suc i) (x ∷ xs) (suc j) h = taken_at i xs j (omega (arith, h))

way_before : (table : List Entry) (test : Entry → Bool) (i : ℕ) (o : Option ℕ) → first_from test 0 table ≡ o
    → option_map (λ (e : Entry). e.id) (find test (take i table)) ≡ option_and_then (λ j. option_map (λ (e : Entry). e.id) (slice_get (take i table) j)) (if_lower i o)
way_before table test i o h = sym (id_found test (take i table)) ∙ ap (option_and_then (λ j. option_map (λ (e : Entry). e.id) (slice_get (take i table) j))) (first_taken test i table ∙ ap (if_lower i) h)

pub way_none : (queues : List QueueSeen) (table : List Entry) (locks : List Lock) (i : ℕ) → IsDistinct same_id (ids table) → FindFirst queues table → request_in_way table queues locks ≡ None → first_in_way (take i table) locks ≡ None
way_none queues table locks i distinct found e = way_before table (λ (x : Entry). conflict locks x.locks) i None (sym (way_law queues table locks distinct found) ∙ e)

pub way_lower : (queues : List QueueSeen) (table : List Entry) (locks : List Lock) (i j : ℕ) → IsDistinct same_id (ids table) → FindFirst queues table → request_in_way table queues locks ≡ Some j → j < i
    → first_in_way (take i table) locks ≡ option_map (λ (e : Entry). e.id) (slice_get table j)
way_lower queues table locks i j distinct found e h =
    way_before table (λ (x : Entry). conflict locks x.locks) i (Some j) (sym (way_law queues table locks distinct found) ∙ e) ∙ rw (test) (ap (option_map (λ (e : Entry). e.id)) (taken_at i table j h))
  where
    test : nat_lt j i ≡ true
    test = grind (arith, nat_tests)

pub way_higher : (queues : List QueueSeen) (table : List Entry) (locks : List Lock) (i j : ℕ) → IsDistinct same_id (ids table) → FindFirst queues table → request_in_way table queues locks ≡ Some j → i ≤ j
    → first_in_way (take i table) locks ≡ None
way_higher queues table locks i j distinct found e h = way_before table (λ (x : Entry). conflict locks x.locks) i (Some j) (sym (way_law queues table locks distinct found) ∙ e) ∙ rw test refl
  where
    test : nat_lt j i ≡ false
    test = grind (arith, nat_tests)

-- where a claim stands
pub record IsLocated (table : List Entry) (id : ClaimId) (i : ℕ) : Type 0 where
  pub inside : i < length table
  pub entry : Entry
  pub there : slice_get table i ≡ Some entry
  pub found : entry_of table id ≡ Some entry
  pub before : entries_before table id ≡ take i table

pub located : (table : List Entry) (id : ClaimId) (i : ℕ) → position (is_its id) table ≡ Some i → IsLocated table id i
located table id i e = by_test (nat_lt (position_or_len (is_its id) table) (length table)) refl e
  where
    by_test : (b : Bool) → nat_lt (position_or_len (is_its id) table) (length table) ≡ b → cond b (Some (position_or_len (is_its id) table)) None ≡ Some i → IsLocated table id i
    by_test false h k = cc
    by_test true h k =
        let same : position_or_len (is_its id) table ≡ i = same_Some (position_or_len (is_its id) table) i k in
        let inside : position_or_len (is_its id) table < length table = grind (arith, nat_tests, h) in
        by_entry (slice_get table i) refl same (omega (arith, inside, same))
      where
        by_entry : (o : Option Entry) → slice_get table i ≡ o → position_or_len (is_its id) table ≡ i → i < length table → IsLocated table id i
        by_entry None g same within = absurd (past table i within g)
          where
            past : (xs : List Entry) (k : ℕ) → k < length xs → slice_get xs k ≡ None → ⊥
            past [] k h g = absurd (omega (arith, h))
            past (x ∷ xs) zero h g = cc
            past (x ∷ xs) (suc k) h g = past xs k (omega (arith, h)) g
        by_entry (Some x) g same within = record {
          inside = within;
          entry = x;
          there = g;
          found = find_at (is_its id) table ∙ (ap (slice_get table) same ∙ g);
          before = ap (λ k. take k table) same;
        }

pub not_located : (table : List Entry) (id : ClaimId) → position (is_its id) table ≡ None → entry_of table id ≡ None
not_located table id e = by_entry (entry_of table id) refl
  where
    by_entry : (o : Option Entry) → entry_of table id ≡ o → o ≡ None
    by_entry None h = refl
    by_entry (Some x) h = let found = own_index id table (ap is_some h) in cc

-- the first held entry of another claim, by its position
and_false : (a h : Bool) → ((a && false) && h) ≡ false
and_false true h = refl
and_false false h = refl

any_between : (f : Lock → Bool) (a h : Bool) (ls : List Lock) → list_any (λ l. (a && f l) && h) ls ≡ ((a && list_any f ls) && h)
any_between f true h [] = refl
any_between f false h [] = refl
any_between f true true (l ∷ ls) = by_test (f l) (any_between f true true ls)
  where
    by_test : (b : Bool) → list_any (λ l. (true && f l) && true) ls ≡ ((true && list_any f ls) && true) → (((true && b) && true) || list_any (λ l. (true && f l) && true) ls) ≡ ((true && (b || list_any f ls)) && true)
    by_test true ih = refl
    by_test false ih = ih
any_between f true false (l ∷ ls) = by_test (f l) (any_between f true false ls)
  where
    by_test : (b : Bool) → list_any (λ l. (true && f l) && false) ls ≡ ((true && list_any f ls) && false) → (((true && b) && false) || list_any (λ l. (true && f l) && false) ls) ≡ ((true && (b || list_any f ls)) && false)
    by_test true ih = ih ∙ never (list_any f ls)
      where
        never : (b : Bool) → ((true && b) && false) ≡ false
        never true = refl
        never false = refl
    by_test false ih = ih
any_between f false h (l ∷ ls) = any_between f false h ls

pub held_way_id : (queues : List QueueSeen) (table : List Entry) (id : ClaimId) (locks : List Lock) → IsTable table → AreQueues table queues
    → option_and_then (λ i. option_map (λ (e : Entry). e.id) (slice_get table i)) (held_request_in_way table queues id locks) ≡ held_in_way table id locks
held_way_id queues table id locks kept are_queues =
    ap (option_and_then (λ i. option_map (λ (e : Entry). e.id) (slice_get table i))) (held_law ∙ first_same _ (λ (e : Entry). not (same_id e.id id) && conflict locks e.locks && is_held_in table e)
    (λ e. any_between (λ (l : Lock). incompatible (Some l.mode) (mode_at e.locks l.place)) (not (same_id e.id id)) (is_held_in table e) locks) 0 table)
    ∙ id_found (λ (e : Entry). not (same_id e.id id) && conflict locks e.locks && is_held_in table e) table
  where
    passes : Lock → Entry → Bool
    passes l e = not (same_id e.id id) && incompatible (Some l.mode) (mode_at e.locks l.place) && is_held_in table e

    at_lock : (l : Lock) → position_of table (first_of (is_held_in_way id l.mode) (requests_at queues l.place)) ≡ first_from (passes l) 0 table
    at_lock l = ap (λ xs. position_of table (first_of (is_held_in_way id l.mode) xs)) (are_queues.requests l.place)
        ∙ queue_first (is_held_in_way id l.mode) (passes l) (is_held_in table) l.place
        (λ e h. rw h (and_false (not (same_id e.id id)) (is_held_in table e)))
        (λ e m h. rw h refl) table kept.distinct

    held_law : held_request_in_way table queues id locks ≡ first_from (λ (e : Entry). list_any (λ l. passes l e) locks) 0 table
    held_law = earliest_same (λ (l : Lock). position_of table (first_of (is_held_in_way id l.mode) (requests_at queues l.place))) (λ (l : Lock). first_from (passes l) 0 table) at_lock locks ∙ any_first passes locks 0 table

pub none_is : {T : Type 0} (o : Option T) → is_none o ≡ true → None ≡ o
none_is None e = refl
none_is (Some x) e = cc

-- the blocker kept for a claim is what it waits for
pub mapped_at : (f : Entry → Option ClaimId) (xs : List Entry) (i : ℕ) (e : Entry) → slice_get xs i ≡ Some e → slice_get (map f xs) i ≡ Some (f e)
mapped_at f [] i e h = cc
mapped_at f (x ∷ xs) zero e h = ap (λ y. Some (f y)) (same_Some x e h)
mapped_at f (x ∷ xs) (suc i) e h = mapped_at f xs i e h

pub own_id : (xs : List Entry) (k : ClaimId) (x : Entry) → entry_of xs k ≡ Some x → x.id ≡ k
own_id [] k x f = cc
own_id (y ∷ xs) k x f = by_test (same_id y.id k) refl f (own_id xs k x)
  where
    by_test : (b : Bool) → same_id y.id k ≡ b → cond b (Some y) (entry_of xs k) ≡ Some x → (entry_of xs k ≡ Some x → x.id ≡ k) → x.id ≡ k
    by_test true s g rest = subst (λ (z : Entry). z.id ≡ k) (same_Some y x g) (same_id_is y.id k s)
    by_test false s g rest = rest g

pub get_there : (xs : List (Option ClaimId)) (k : ℕ) (x d : Option ClaimId) → slice_get xs k ≡ Some x → get_or xs k d ≡ x
get_there [] k x d h = cc
get_there (y ∷ xs) zero x d h = same_Some y x h
get_there (y ∷ xs) (suc k) x d h = get_there xs k x d h

-- the blocker kept for a claim, if the claim is there
abbrev pub Waits : List Entry → ClaimId → Option (Option ClaimId)
Waits table id = option_map (λ (e : Entry). first_in_way (entries_before table id) e.locks) (entry_of table id)

pub waits_absent : (table : List Entry) (id : ClaimId) → position (is_its id) table ≡ None → None ≡ Waits table id
waits_absent table id e = sym (ap (option_map (λ (x : Entry). first_in_way (entries_before table id) x.locks)) (not_located table id e))

pub waits_beside : (table : List Entry) (blockers : List (Option ClaimId)) (id : ClaimId) (i : ℕ) (b : Option ClaimId) → blockers ≡ blockers_of table → position (is_its id) table ≡ Some i → b ≡ get_or blockers i b → Some b ≡ Waits table id
waits_beside table blockers id i b beside e is =
    let here = located table id i e in
    let own = own_id table id here.entry here.found in
    let there : slice_get blockers i ≡ Some (blocker_at table here.entry) = ap (λ xs. slice_get xs i) beside ∙ mapped_at (blocker_at table) table i here.entry here.there in
    ap Some (is ∙ (get_there blockers i (blocker_at table here.entry) b there ∙ ap (λ k. first_in_way (entries_before table k) here.entry.locks) own))
    ∙ sym (ap (option_map (λ (x : Entry). first_in_way (entries_before table id) x.locks)) here.found)

-- the blocker kept at a claim's position says how the claim stands
pub standing_beside : (table : List Entry) (id : ClaimId) (i : ℕ) → position (is_its id) table ≡ Some i → option_map standing_by (slice_get (blockers_of table) i) ≡ standing_in table id
standing_beside table id i e =
    let here = located table id i e in
    let own = own_id table id here.entry here.found in
    ap (option_map standing_by) (mapped_at (blocker_at table) table i here.entry here.there)
    ∙ (ap (λ k. Some (standing_by (first_in_way (entries_before table k) here.entry.locks))) own
    ∙ sym (ap (option_map (λ (x : Entry). standing_by (first_in_way (entries_before table id) x.locks))) here.found))

pub standing_absent : (table : List Entry) (id : ClaimId) → position (is_its id) table ≡ None → None ≡ standing_in table id
standing_absent table id e = sym (ap (option_map (λ (x : Entry). standing_by (first_in_way (entries_before table id) x.locks))) (not_located table id e))

pub on_error : {T E P : Type 0} (r : Result T E) → P → OnErr r P
on_error (Ok x) p = tt
on_error (Err e) p = p

-- how many requests a place has
pub requests_count : (held : Entry → Bool) (es : List Entry) (p : ℕ) → length (requests_by held es p) ≡ length (modes_in es p)
requests_count held es p = sym (length_modes (requests_by held es p)) ∙ ap length (queue_modes held es p)

pub modes_bound : (es : List Entry) (p : ℕ) → length (modes_in es p) ≤ length es
modes_bound [] p = omega arith
modes_bound (e ∷ es) p = by_mode (mode_at e.locks p) (modes_bound es p)
  where
    by_mode : (o : Option Mode) → length (modes_in es p) ≤ length es → length (modes_by o (modes_in es p)) ≤ suc (length es)
    by_mode None ih = omega (arith, ih)
    by_mode (Some m) ih = omega (arith, ih)

pub requests_bound : (held : Entry → Bool) (es : List Entry) (p : ℕ) → length (requests_by held es p) ≤ length es
requests_bound held es p = let same = requests_count held es p in let bound = modes_bound es p in omega (arith, same, bound)

pub requests_fewer : (f g : Entry → Bool) (gone : ClaimId → Bool) (table : List Entry) (p : ℕ) → length (requests_by f (filter (λ (e : Entry). not (gone e.id)) table) p) ≤ length (requests_by g table p)
requests_fewer f g gone table p =
    let one = requests_count f (filter (λ (e : Entry). not (gone e.id)) table) p in
    let all = requests_count g table p in
    let fewer = modes_fewer (λ (e : Entry). not (gone e.id)) table p in
    omega (arith, one, all, fewer)

filter_fewer : (test : Entry → Bool) (es : List Entry) → length (filter test es) ≤ length es
filter_fewer test [] = omega arith
filter_fewer test (e ∷ es) = by_test (test e) (filter_fewer test es)
  where
    by_test : (b : Bool) → length (filter test es) ≤ length es → length (cond b (e ∷ filter test es) (filter test es)) ≤ suc (length es)
    by_test true ih = omega (arith, ih)
    by_test false ih = omega (arith, ih)

pub one_less : (table : List Entry) (id : ClaimId) → is_some (entry_of table id) ≡ true → length (entries_without table id) < length table
one_less [] id h = cc
one_less (e ∷ es) id h = by_test (same_id e.id id) h (one_less es id)
  where
    by_test : (b : Bool) → is_some (cond b (Some e) (entry_of es id)) ≡ true → (is_some (entry_of es id) ≡ true → length (entries_without es id) < length es)
        → length (cond (not b) (e ∷ entries_without es id) (entries_without es id)) < suc (length es)
    by_test true g ih = let fewer = filter_fewer (λ (x : Entry). not (same_id x.id id)) es in omega (arith, fewer)
    by_test false g ih = let less = ih g in omega (arith, less)

-- room stays when requests are removed
pub room_left : (queues new : List QueueSeen) (locks : List Lock) → ((p : ℕ) → length (requests_at new p) ≤ length (requests_at queues p)) → ((p : ℕ) → room_at queues p ≤ room_at new p) → HaveRoom queues locks → HaveRoom new locks
room_left queues new [] less more room = All-nil (λ (x : Lock). length (requests_at new x.place) < room_at new x.place)
room_left queues new (l ∷ ls) less more room =
    let here = All-head (λ (x : Lock). length (requests_at queues x.place) < room_at queues x.place) l ls room in
    let requests = less l.place in
    let rooms = more l.place in
    All-cons (λ (x : Lock). length (requests_at new x.place) < room_at new x.place) l ls (omega (arith, here, requests, rooms))
    (room_left queues new ls less more (All-tail (λ (x : Lock). length (requests_at queues x.place) < room_at queues x.place) l ls room))

-- so it does when a claim leaves
pub room_without : (table : List Entry) (queues new : List QueueSeen) (id : ClaimId) (locks : List Lock) → ((p : ℕ) → requests_at queues p ≡ requests_by (is_held_in table) table p) → ((p : ℕ) → requests_at new p ≡ requests_by (is_held_in table) (entries_without table id) p)
    → ((p : ℕ) → room_at queues p ≤ room_at new p) → HaveRoom queues locks → HaveRoom new locks
room_without table queues new id locks before after more room = room_left queues new locks less more room
  where
    less : (p : ℕ) → length (requests_at new p) ≤ length (requests_at queues p)
    less p =
        let one = ap length (after p) in
        let all = ap length (before p) in
        let fewer = requests_fewer (is_held_in table) (is_held_in table) (is_id id) table p in
        omega (arith, one, all, fewer)

-- a claim put first keeps to the room
pub first_room : (queues new : List QueueSeen) (locks : List Lock) (id : ClaimId) → HaveRoom queues locks → ((p : ℕ) → length (requests_at queues p) ≤ room_at queues p)
    → ((p : ℕ) → requests_at new p ≡ request_of true id (mode_at locks p) ++ requests_at queues p) → ((p : ℕ) → room_at queues p ≤ room_at new p) → (p : ℕ) → length (requests_at new p) ≤ room_at new p
first_room queues new locks id there room put more p = by_mode (mode_at locks p) refl
  where
    by_mode : (o : Option Mode) → mode_at locks p ≡ o → length (requests_at new p) ≤ room_at new p
    by_mode None e =
        let same = ap length (put p ∙ ap (λ o. request_of true id o ++ requests_at queues p) e) in
        let before = room p in
        let after = more p in
        omega (arith, same, before, after)
    by_mode (Some m) e =
        let same = ap length (put p ∙ ap (λ o. request_of true id o ++ requests_at queues p) e) in
        let before = mode_listed (λ q. length (requests_at queues q) < room_at queues q) locks p there (ap is_some e) in
        let after = more p in
        omega (arith, same, before, after)

-- the same, read from copies of the line
pub held_way_read : (queues : List QueueSeen) (table : List Entry) (id : ClaimId) (locks : List Lock) → IsTable table → AreQueues table queues → (one other : List Entry) (seen : List QueueSeen) → one ≡ table → other ≡ table → seen ≡ queues
    → option_and_then (λ i. option_map (λ (e : Entry). e.id) (slice_get one i)) (held_request_in_way other seen id locks) ≡ held_in_way table id locks
held_way_read queues table id locks kept are_queues one other seen a b c =
    ap (λ (xs : List Entry). option_and_then (λ i. option_map (λ (e : Entry). e.id) (slice_get xs i)) (held_request_in_way other seen id locks)) a
    ∙ (ap (λ (xs : List Entry). option_and_then (λ i. option_map (λ (e : Entry). e.id) (slice_get table i)) (held_request_in_way xs seen id locks)) b
    ∙ (ap (λ (xs : List QueueSeen). option_and_then (λ i. option_map (λ (e : Entry). e.id) (slice_get table i)) (held_request_in_way table xs id locks)) c
    ∙ held_way_id queues table id locks kept are_queues))

-- as many requests as claims that have a mode there, with the first
pub put_count : (queues : List QueueSeen) (table : List Entry) (id : ClaimId) (locks : List Lock) (p : ℕ) → requests_at queues p ≡ request_of true id (mode_at locks p) ++ requests_by (is_held_in table) (entries_without table id) p
    → length (requests_at queues p) ≡ length (modes_in (put_first table id locks) p)
put_count queues table id locks p put = ap length put ∙ by_mode (mode_at locks p)
  where
    by_mode : (o : Option Mode) → length (request_of true id o ++ requests_by (is_held_in table) (entries_without table id) p) ≡ length (modes_by o (modes_in (entries_without table id) p))
    by_mode None = requests_count (is_held_in table) (entries_without table id) p
    by_mode (Some m) = ap suc (requests_count (is_held_in table) (entries_without table id) p)

same_length : (table : List Entry) (id : ClaimId) (locks : List Lock) → IsDistinct same_id (ids table) → is_some (entry_of table id) ≡ true → length (put_first table id locks) ≡ length table
unfolding IsDistinct
same_length [] id locks distinct h = cc
same_length (e ∷ es) id locks distinct h = by_test (same_id e.id id) refl h (same_length es id locks distinct.1)
  where
    by_test : (b : Bool) → same_id e.id id ≡ b → is_some (cond b (Some e) (entry_of es id)) ≡ true → (is_some (entry_of es id) ≡ true → suc (length (entries_without es id)) ≡ length es)
        → suc (length (cond (not b) (e ∷ entries_without es id) (entries_without es id))) ≡ suc (length es)
    by_test true g k ih = ap (λ (xs : List Entry). suc (length xs)) (others_stay id es (turned id (ids es) (subst (λ y. AllByRecursion (λ z. same_id y z ≡ false) (ids es)) (same_id_is e.id id g) distinct.0)))
    by_test false g k ih = ap suc (ih k)

pub first_kept : (table : List Entry) (id : ClaimId) (locks : List Lock) → IsTable table → is_some (entry_of table id) ≡ true → IsTable (put_first table id locks)
first_kept table id locks kept there = table_extended table id locks kept (same_length table id locks kept.distinct there)
