-- The queues of a line: claims put last one after another, and what the queues say of the line.
use Rattle.std.specs.Prelude.{◌≡◌, ℕ, zero, suc, ◌+◌, ◌<◌, ◌≤◌, Bool, true, false, not, ◌&&◌, List, [], ◌∷◌, ◌++◌, length, find, take, map, Option, None, Some, is_none, All, refl}
use Rattle.std.proofs.Common.{sym, ap, subst, ◌∙◌, cond, arith, get_or, append-nil, length-append}
use Rattle.std.specs.List.{IsDistinct, AllByRecursion, list_all, prefix_len}
use Rattle.std.specs.Option.{option_map}
use Rattle.std.proofs.lemmas.List.{append_assoc, take_more}
use Rattle.std.proofs.lemmas.List.Elements.{All-nil, All-cons, All-head, All-tail}
use Rattle.vault_state.specs.declared.ids.ClaimId.{ClaimId}
use Rattle.vault_state.specs.Claims.{same_id}
use Rattle.vault_state.proofs.Stays.{same_id_itself}
use Rattle.lock_modes.specs.declared.mode.Mode.{Mode}
use Rattle.lock_modes.specs.Modes.{compatible, incompatible}
use Rattle.lock_modes.specs.Groups.{members, group_of}
use Rattle.lock_modes.proofs.Tables.{compatible_symmetric}
use Rattle.lock_modes.proofs.GroupModes.{list_all-group_of}
use Rattle.lock_table.specs.declared.locks.Lock.{Lock}
use Rattle.lock_table.specs.declared.entry.Entry.{Entry}
use Rattle.lock_queue.specs.declared.queue.Request.{Request}
use Rattle.lock_table.specs.Locks.{mode_at, conflict}
use Rattle.lock_table.specs.Tables.{first_in_way, entries_before, is_held_in}
use Rattle.lock_queue.specs.Queue.{QueueSeen, request_modes, first_of, is_in_way}
use Rattle.lock_table.specs.Queues.{requests_at, room_at, HaveRoom, request_of, requests_by, queue_of, requests_from, position_of, earlier, earliest, request_in_way, blocker_at, blockers_of}
use Rattle.lock_table.proofs.Positions.{first_from, any_first, earliest_same, none_first, place_found, queue_found}
use Rattle.lock_table.proofs.Removals.{ids}

pub all_push : {T : Type 0} (P : T → Type 0) (xs : List T) (x : T) → All P xs → P x → All P (xs ++ x ∷ [])
all_push P [] x all here = All-cons P x [] here (All-nil P)
all_push P (y ∷ xs) x all here = All-cons P y (xs ++ x ∷ []) (All-head P y xs all) (all_push P xs x (All-tail P y xs all) here)

-- room that was made stays
pub still_room : (queues new : List QueueSeen) (locks : List Lock) → ((p : ℕ) → requests_at new p ≡ requests_at queues p) → ((p : ℕ) → room_at queues p ≤ room_at new p) → HaveRoom queues locks → HaveRoom new locks
still_room queues new [] same more room = All-nil (λ (x : Lock). length (requests_at new x.place) < room_at new x.place)
still_room queues new (l ∷ ls) same more room =
    let here = All-head (λ (x : Lock). length (requests_at queues x.place) < room_at queues x.place) l ls room in
    let requests = ap length (same l.place) in
    let rooms = more l.place in
    All-cons (λ (x : Lock). length (requests_at new x.place) < room_at new x.place) l ls (omega (arith, here, requests, rooms))
    (still_room queues new ls same more (All-tail (λ (x : Lock). length (requests_at queues x.place) < room_at queues x.place) l ls room))

pub requests_from-append : (before xs ys : List Entry) (p : ℕ) → requests_from before (xs ++ ys) p ≡ requests_from before xs p ++ requests_from (before ++ xs) ys p
requests_from-append before [] ys p = ap (λ b. requests_from b ys p) (sym (append-nil before))
requests_from-append before (x ∷ xs) ys p =
    let request = request_of (is_none (first_in_way before x.locks)) x.id (mode_at x.locks p) in
    ap (λ r. request ++ r) (requests_from-append (before ++ x ∷ []) xs ys p ∙ ap (λ b. requests_from (before ++ x ∷ []) xs p ++ requests_from b ys p) (append_assoc before (x ∷ []) xs))
    ∙ sym (append_assoc request (requests_from (before ++ x ∷ []) xs p) (requests_from (before ++ x ∷ xs) ys p))

-- one more entry
pub requests_from-push : (table : List Entry) (e : Entry) (p : ℕ) → requests_from [] (table ++ e ∷ []) p ≡ requests_from [] table p ++ request_of (is_none (first_in_way table e.locks)) e.id (mode_at e.locks p)
requests_from-push table e p = requests_from-append [] table (e ∷ []) p ∙ ap (λ r. requests_from [] table p ++ r) (append-nil (request_of (is_none (first_in_way table e.locks)) e.id (mode_at e.locks p)))

request_length : (held : Bool) (id : ClaimId) (o : Option Mode) → length (request_of held id o) ≤ 1
request_length held id None = omega arith
request_length held id (Some m) = omega arith

pub length_from : (before es : List Entry) (p : ℕ) → length (requests_from before es p) ≤ length es
length_from before [] p = omega arith
length_from before (e ∷ es) p =
    let request = request_of (is_none (first_in_way before e.locks)) e.id (mode_at e.locks p) in
    let both = length-append request (requests_from (before ++ e ∷ []) es p) in
    let one = request_length (is_none (first_in_way before e.locks)) e.id (mode_at e.locks p) in
    let rest = length_from (before ++ e ∷ []) es p in
    omega (arith, both, one, rest)

module _ (table : List Entry) (queues : List QueueSeen) (n : ℕ) (e : Entry) (inside : n < length table) (is : e ≡ get_or table n e) (requests : (p : ℕ) → requests_at queues p ≡ requests_from [] (take n table) p) where
  next : take (n + 1) table ≡ take n table ++ e ∷ []
  next = take_more table n e inside ∙ ap (λ x. take n table ++ x ∷ []) (sym is)

  taken : length (take n table) ≡ n
  taken = length_taken n table inside
    where
      length_taken : (k : ℕ) (xs : List Entry) → k < length xs → length (take k xs) ≡ k
      length_taken zero xs h = refl
      length_taken (suc k) [] h = absurd (omega (arith, h))
      length_taken (suc k) (x ∷ xs) h = ap suc (length_taken k xs (omega (arith, h)))

  pub request_few : (most : ℕ) → length table ≤ most → (p : ℕ) → length (requests_at queues p) < most
  request_few most few p =
      let here = ap length (requests p) in
      let bound = length_from [] (take n table) p in
      omega (arith, here, bound, taken, inside, few)

  pub request_step : (new : List QueueSeen) (held : Bool) → held ≡ is_none (first_in_way (take n table) e.locks) → ((p : ℕ) → requests_at new p ≡ requests_at queues p ++ request_of held e.id (mode_at e.locks p))
      → (p : ℕ) → requests_at new p ≡ requests_from [] (take (n + 1) table) p
  request_step new held h put p =
      put p ∙ (ap (λ xs. xs ++ request_of held e.id (mode_at e.locks p)) (requests p)
      ∙ (ap (λ b. requests_from [] (take n table) p ++ request_of b e.id (mode_at e.locks p)) h
      ∙ (sym (requests_from-push (take n table) e p) ∙ ap (λ xs. requests_from [] xs p) (sym next))))

-- the first request in the way of a mode is that of the first entry
from_first : (m : Mode) (p : ℕ) (before es : List Entry) → first_of (is_in_way m) (requests_from before es p) ≡ option_map (λ (e : Entry). e.id) (find (λ (e : Entry). incompatible (Some m) (mode_at e.locks p)) es)
from_first m p before [] = refl
from_first m p before (e ∷ es) = by_mode (mode_at e.locks p) (from_first m p (before ++ e ∷ []) es)
  where
    by_mode : (o : Option Mode) → first_of (is_in_way m) (requests_from (before ++ e ∷ []) es p) ≡ option_map (λ (e : Entry). e.id) (find (λ (e : Entry). incompatible (Some m) (mode_at e.locks p)) es)
        → first_of (is_in_way m) (request_of (is_none (first_in_way before e.locks)) e.id o ++ requests_from (before ++ e ∷ []) es p)
        ≡ option_map (λ (e : Entry). e.id) (cond (incompatible (Some m) o) (Some e) (find (λ (e : Entry). incompatible (Some m) (mode_at e.locks p)) es))
    by_mode None ih = ih
    by_mode (Some k) ih = by_test (compatible m k) ih
      where
        by_test : (b : Bool) → first_of (is_in_way m) (requests_from (before ++ e ∷ []) es p) ≡ option_map (λ (e : Entry). e.id) (find (λ (e : Entry). incompatible (Some m) (mode_at e.locks p)) es)
            → option_map (λ (s : Request). s.id) (cond (not b) (Some (record { id = e.id; mode = k; is_held = is_none (first_in_way before e.locks) })) (find (is_in_way m) (requests_from (before ++ e ∷ []) es p)))
            ≡ option_map (λ (e : Entry). e.id) (cond (not b) (Some e) (find (λ (e : Entry). incompatible (Some m) (mode_at e.locks p)) es))
        by_test true ih = ih
        by_test false ih = refl

-- in the queues, the first request in the way of a mode is that of the first entry
abbrev pub FindFirst : List QueueSeen → List Entry → Type 0
FindFirst queues table = (m : Mode) (p : ℕ) → first_of (is_in_way m) (requests_at queues p) ≡ option_map (λ (e : Entry). e.id) (find (λ (e : Entry). incompatible (Some m) (mode_at e.locks p)) table)

pub found_from : (queues : List QueueSeen) (table : List Entry) → ((p : ℕ) → requests_at queues p ≡ requests_from [] table p) → FindFirst queues table
found_from queues table requests m p = ap (first_of (is_in_way m)) (requests p) ∙ from_first m p [] table

pub found_by : (queues : List QueueSeen) (table : List Entry) (held : Entry → Bool) → ((p : ℕ) → requests_at queues p ≡ requests_by held table p) → FindFirst queues table
found_by queues table held requests m p = ap (first_of (is_in_way m)) (requests p)
    ∙ queue_found (is_in_way m) (λ (e : Entry). incompatible (Some m) (mode_at e.locks p)) held p (λ e h. rw h refl) (λ e k h. rw h refl) table

-- where the queues are those of a line, the earliest request in the way is that of the first entry in the way
pub way_law : (queues : List QueueSeen) (table : List Entry) (locks : List Lock) → IsDistinct same_id (ids table) → FindFirst queues table → request_in_way table queues locks ≡ first_from (λ (e : Entry). conflict locks e.locks) 0 table
way_law queues table locks distinct found =
    earliest_same (λ (l : Lock). position_of table (first_of (is_in_way l.mode) (requests_at queues l.place))) (λ (l : Lock). first_from (λ (e : Entry). incompatible (Some l.mode) (mode_at e.locks l.place)) 0 table)
    (λ l. ap (position_of table) (found l.mode l.place) ∙ place_found (λ (e : Entry). incompatible (Some l.mode) (mode_at e.locks l.place)) table distinct) locks
    ∙ any_first (λ (l : Lock) (e : Entry). incompatible (Some l.mode) (mode_at e.locks l.place)) locks 0 table

none_mapped : {S T : Type 0} (f : S → T) (o : Option S) → is_none (option_map f o) ≡ is_none o
none_mapped f None = refl
none_mapped f (Some x) = refl

admits_all : (m : Mode) (requests : List Request) → list_all (λ member. compatible member m) (request_modes requests) ≡ is_none (find (is_in_way m) requests)
admits_all m [] = refl
admits_all m (s ∷ requests) = ap (λ b. b && list_all (λ member. compatible member m) (request_modes requests)) (compatible_symmetric s.mode m) ∙ by_test (compatible m s.mode) (admits_all m requests)
  where
    by_test : (b : Bool) → list_all (λ member. compatible member m) (request_modes requests) ≡ is_none (find (is_in_way m) requests) → (b && list_all (λ member. compatible member m) (request_modes requests)) ≡ is_none (cond (not b) (Some s) (find (is_in_way m) requests))
    by_test true ih = ih
    by_test false ih = refl

-- a group of requests admits a mode where no request is in its way
group_admits : (m : Mode) (requests : List Request) → list_all (λ member. compatible member m) (members (group_of (request_modes requests))) ≡ is_none (first_of (is_in_way m) requests)
group_admits m requests = list_all-group_of (λ member. compatible member m) (request_modes requests) ∙ (admits_all m requests ∙ sym (none_mapped (λ (s : Request). s.id) (find (is_in_way m) requests)))

none_earlier : (a b : Option ℕ) → is_none (earlier a b) ≡ (is_none a && is_none b)
none_earlier None b = refl
none_earlier (Some m) None = refl
none_earlier (Some m) (Some n) = refl

none_all : (f : Lock → Option ℕ) (ls : List Lock) → list_all (λ l. is_none (f l)) ls ≡ is_none (earliest f ls)
none_all f [] = refl
none_all f (l ∷ ls) = ap (λ b. is_none (f l) && b) (none_all f ls) ∙ sym (none_earlier (f l) (earliest f ls))

all_same : (f g : Lock → Bool) → ((l : Lock) → f l ≡ g l) → (ls : List Lock) → list_all f ls ≡ list_all g ls
all_same f g same [] = refl
all_same f g same (l ∷ ls) = ap (λ b. b && list_all f ls) (same l) ∙ ap (λ b. g l && b) (all_same f g same ls)

-- the groups admit locks exactly where no entry is in their way
pub admit_law : (queues : List QueueSeen) (table : List Entry) (locks : List Lock) → FindFirst queues table
    → list_all (λ (l : Lock). list_all (λ member. compatible member l.mode) (members (group_of (request_modes (requests_at queues l.place))))) locks ≡ is_none (first_in_way table locks)
admit_law queues table locks found =
    all_same _ (λ l. is_none (first_from (λ (e : Entry). incompatible (Some l.mode) (mode_at e.locks l.place)) 0 table)) at_lock locks
    ∙ (none_all (λ l. first_from (λ (e : Entry). incompatible (Some l.mode) (mode_at e.locks l.place)) 0 table) locks
    ∙ (ap is_none (any_first (λ (l : Lock) (e : Entry). incompatible (Some l.mode) (mode_at e.locks l.place)) locks 0 table)
    ∙ (none_first (λ (e : Entry). conflict locks e.locks) table ∙ sym (none_mapped (λ (e : Entry). e.id) (find (λ (e : Entry). conflict locks e.locks) table)))))
  where
    at_lock : (l : Lock) → list_all (λ member. compatible member l.mode) (members (group_of (request_modes (requests_at queues l.place)))) ≡ is_none (first_from (λ (e : Entry). incompatible (Some l.mode) (mode_at e.locks l.place)) 0 table)
    at_lock l = group_admits l.mode (requests_at queues l.place) ∙ (ap is_none (found l.mode l.place)
        ∙ (none_mapped (λ (e : Entry). e.id) (find (λ (e : Entry). incompatible (Some l.mode) (mode_at e.locks l.place)) table)
        ∙ sym (none_first (λ (e : Entry). incompatible (Some l.mode) (mode_at e.locks l.place)) table)))

-- in a line of distinct claims, those before an entry are the entries in front of it
pub in_front : (before es : List Entry) (e : Entry) → IsDistinct same_id (ids (before ++ e ∷ es)) → entries_before (before ++ e ∷ es) e.id ≡ before
unfolding IsDistinct
in_front [] es e distinct = rw (same_id_itself e.id) refl
in_front (b ∷ before) es e distinct = rw (apart before distinct.0) (more (in_front before es e distinct.1))
  where
    apart : (xs : List Entry) → AllByRecursion (λ k. same_id b.id k ≡ false) (ids (xs ++ e ∷ es)) → same_id b.id e.id ≡ false
    apart [] all = all.0
    apart (x ∷ xs) all = apart xs all.1

    more : entries_before (before ++ e ∷ es) e.id ≡ before → take (1 + prefix_len (λ (x : Entry). not (same_id x.id e.id)) (before ++ e ∷ es)) (b ∷ before ++ e ∷ es) ≡ b ∷ before
    more ih = let one : 1 + prefix_len (λ (x : Entry). not (same_id x.id e.id)) (before ++ e ∷ es) ≡ suc (prefix_len (λ (x : Entry). not (same_id x.id e.id)) (before ++ e ∷ es)) = omega arith in rw one (ap (λ xs. b ∷ xs) ih)

queue_from : (before es : List Entry) (p : ℕ) → IsDistinct same_id (ids (before ++ es)) → requests_from before es p ≡ requests_by (is_held_in (before ++ es)) es p
queue_from before [] p distinct = refl
queue_from before (e ∷ es) p distinct =
    ap (λ r. request_of (is_none (first_in_way before e.locks)) e.id (mode_at e.locks p) ++ r) (rest (queue_from (before ++ e ∷ []) es p (subst (λ xs. IsDistinct same_id (ids xs)) (sym regroup) distinct)))
    ∙ ap (λ b. request_of (is_none (first_in_way b e.locks)) e.id (mode_at e.locks p) ++ requests_by (is_held_in (before ++ e ∷ es)) es p) (sym (in_front before es e distinct))
  where
    regroup : (before ++ e ∷ []) ++ es ≡ before ++ e ∷ es
    regroup = append_assoc before (e ∷ []) es

    rest : requests_from (before ++ e ∷ []) es p ≡ requests_by (is_held_in ((before ++ e ∷ []) ++ es)) es p → requests_from (before ++ e ∷ []) es p ≡ requests_by (is_held_in (before ++ e ∷ es)) es p
    rest ih = ih ∙ ap (λ xs. requests_by (is_held_in xs) es p) regroup

-- put last one after another, the claims of a line have their queues
pub queue_law : (table : List Entry) (p : ℕ) → IsDistinct same_id (ids table) → requests_from [] table p ≡ queue_of table p
queue_law table p distinct = queue_from [] table p distinct

-- what each waits for, entry after entry
abbrev blockers_from : List Entry → List Entry → List (Option ClaimId)
blockers_from before [] = []
blockers_from before (e ∷ es) = first_in_way before e.locks ∷ blockers_from (before ++ e ∷ []) es

blockers_are : (before es : List Entry) → IsDistinct same_id (ids (before ++ es)) → blockers_from before es ≡ map (blocker_at (before ++ es)) es
blockers_are before [] distinct = refl
blockers_are before (e ∷ es) distinct =
    ap (λ r. first_in_way before e.locks ∷ r) (rest (blockers_are (before ++ e ∷ []) es (subst (λ xs. IsDistinct same_id (ids xs)) (sym regroup) distinct)))
    ∙ ap (λ b. first_in_way b e.locks ∷ map (blocker_at (before ++ e ∷ es)) es) (sym (in_front before es e distinct))
  where
    regroup : (before ++ e ∷ []) ++ es ≡ before ++ e ∷ es
    regroup = append_assoc before (e ∷ []) es

    rest : blockers_from (before ++ e ∷ []) es ≡ map (blocker_at ((before ++ e ∷ []) ++ es)) es → blockers_from (before ++ e ∷ []) es ≡ map (blocker_at (before ++ e ∷ es)) es
    rest ih = ih ∙ ap (λ xs. map (blocker_at xs) es) regroup

blockers_append : (before xs : List Entry) (e : Entry) → blockers_from before (xs ++ e ∷ []) ≡ blockers_from before xs ++ first_in_way (before ++ xs) e.locks ∷ []
blockers_append before [] e = ap (λ b. first_in_way b e.locks ∷ []) (sym (append-nil before))
blockers_append before (x ∷ xs) e = ap (λ r. first_in_way before x.locks ∷ r)
    (blockers_append (before ++ x ∷ []) xs e ∙ ap (λ b. blockers_from (before ++ x ∷ []) xs ++ first_in_way b e.locks ∷ []) (append_assoc before (x ∷ []) xs))

-- one more claim
pub blockers_asked : (table : List Entry) (e : Entry) → IsDistinct same_id (ids table) → IsDistinct same_id (ids (table ++ e ∷ [])) → blockers_of (table ++ e ∷ []) ≡ blockers_of table ++ first_in_way table e.locks ∷ []
blockers_asked table e distinct longer =
    sym (blockers_are [] (table ++ e ∷ []) longer) ∙ (blockers_append [] table e ∙ ap (λ r. r ++ first_in_way table e.locks ∷ []) (blockers_are [] table distinct))
