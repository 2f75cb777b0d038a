-- For each place the queue of the claims that have a mode there, in line order: Gray, Lorie, Putzolu, Traiger (1976).
use Rattle.std.specs.Prelude.{◌≡◌, ℕ, ◌<◌, ◌≤◌, Bool, true, false, ◌&&◌, not, nat_lt, if◌then◌else◌, List, [], ◌∷◌, ◌++◌, length, map, take, drop, filter, position, slice_get, Option, None, Some, is_some, All}
use Rattle.std.specs.List.{list_any}
use Rattle.std.specs.Option.{option_map, option_and_then, is_none}
use Rattle.vault_state.specs.declared.ids.ClaimId.{ClaimId}
use Rattle.vault_state.specs.Claims.{same_id, is_short}
use Rattle.lock_modes.specs.declared.mode.Mode.{Mode}
use Rattle.lock_modes.specs.Modes.{compatible}
use Rattle.lock_modes.specs.Groups.{Counts, group_of}
use Rattle.lock_table.specs.declared.locks.Lock.{Lock}
use Rattle.lock_table.specs.declared.entry.Entry.{Entry}
use Rattle.lock_queue.specs.declared.queue.Request.{Request}
use Rattle.lock_table.specs.declared.again.Again.{Again}
use Rattle.lock_table.specs.declared.again.Again.TheVariants.{Behind, BehindShort, Everyone}
use Rattle.lock_table.specs.Locks.{mode_at, AreApart, conflict}
use Rattle.lock_table.specs.Tables.{first_in_way, entries_before, is_held_in}
use Rattle.lock_queue.specs.Queue.{QueueSeen, first_of, is_in_way, is_held_in_way}

-- the queue at a place, and the room there; a place behind the last queue has neither
abbrev pub requests_of : Option QueueSeen → List Request
requests_of None = []
requests_of (Some c) = c.requests

abbrev pub room_of : Option QueueSeen → ℕ
room_of None = 0
room_of (Some c) = c.room

abbrev pub requests_at : List QueueSeen → ℕ → List Request
requests_at queues p = requests_of (slice_get queues p)

abbrev pub room_at : List QueueSeen → ℕ → ℕ
room_at queues p = room_of (slice_get queues p)

-- each of these locks has room for one more request at its place
abbrev pub HaveRoom : List QueueSeen → List Lock → Type 0
HaveRoom queues locks = All (λ (l : Lock). length (requests_at queues l.place) < room_at queues l.place) locks

-- the request of a claim at a place, if it has a mode there
abbrev pub request_of : Bool → ClaimId → Option Mode → List Request
request_of held id None = []
request_of held id (Some m) = record { id = id; mode = m; is_held = held } ∷ []

-- the requests of some entries at a place; a test says which are granted
abbrev pub requests_by : (Entry → Bool) → List Entry → ℕ → List Request
requests_by held [] p = []
requests_by held (e ∷ es) p = request_of (held e) e.id (mode_at e.locks p) ++ requests_by held es p

-- the queue at a place: a request for each entry that has a mode there
abbrev pub queue_of : List Entry → ℕ → List Request
queue_of table p = requests_by (is_held_in table) table p

-- the same, entry after entry, each weighed against those before it
abbrev pub requests_from : List Entry → List Entry → ℕ → List Request
requests_from before [] p = []
requests_from before (e ∷ es) p =
    request_of (is_none (first_in_way before e.locks)) e.id (mode_at e.locks p) ++ requests_from (before ++ e ∷ []) es p

-- the queues have the requests of these entries, each granted or not
pub record HaveRequests (table : List Entry) (queues : List QueueSeen) : Type 0 where
  pub held : Entry → Bool
  pub requests : (p : ℕ) → requests_at queues p ≡ requests_by held table p

-- a test with another answer for one claim; and whether a test agrees with the blocker kept for an entry
abbrev pub held_by : (Entry → Bool) → ClaimId → Bool → Entry → Bool
held_by held id now e = if same_id e.id id then now else held e

abbrev pub IsHeldAs : (Entry → Bool) → Entry → List (Option ClaimId) → ℕ → Type 0
IsHeldAs held e blockers i = option_map is_none (slice_get blockers i) ≡ Some (held e)

-- the blocker of an entry (what it waits for), and those of all entries
abbrev pub blocker_at : List Entry → Entry → Option ClaimId
blocker_at table e = first_in_way (entries_before table e.id) e.locks

abbrev pub blockers_of : List Entry → List (Option ClaimId)
blockers_of table = map (blocker_at table) table

-- the invariant of a table's queues: each place has the queue of the entries, with memory for it; and no entry has two locks at a place
pub record AreQueues (table : List Entry) (queues : List QueueSeen) : Type 0 where
  -- invariant 4 of src/lib.rt without the groups, which each queue keeps; and invariant 1 for each entry
  pub requests : (p : ℕ) → requests_at queues p ≡ queue_of table p
  pub room : (p : ℕ) → length (requests_at queues p) ≤ room_at queues p
  pub apart : All (λ (e : Entry). AreApart e.locks) table

-- a claim waits for one of those that are gone
abbrev pub waits_for : (ClaimId → Bool) → Option ClaimId → Bool
waits_for gone None = false
waits_for gone (Some other) = gone other

-- which claims are weighed again, by what they waited for
abbrev pub is_taken : Again → Option ClaimId → Bool
is_taken (Behind id) o = waits_for (λ other. same_id other id) o
is_taken BehindShort o = waits_for is_short o
is_taken Everyone o = true

-- what an entry waits for, when all that pass a test now wait for one claim
abbrev pub waits_where : (Entry → Bool) → ClaimId → (Entry → Option ClaimId) → Entry → Option ClaimId
waits_where test id old e = if test e then Some id else old e

-- a request is the entry's, waiting, and in the way of a mode; some of these requests is; some request at the place of one of these locks is
abbrev pub is_queued_at : Mode → Request → Entry → Bool
is_queued_at m s e = (not s.is_held && not (compatible m s.mode)) && same_id e.id s.id

abbrev pub is_queued_in : Mode → List Request → Entry → Bool
is_queued_in m requests e = list_any (λ (s : Request). is_queued_at m s e) requests

abbrev pub is_queued_against : List QueueSeen → List Lock → Entry → Bool
is_queued_against queues locks e = list_any (λ (l : Lock). is_queued_in l.mode (requests_at queues l.place) e) locks

-- what an entry waits for, when these locks now come before it: their claim, if the entry was waiting and they are in its way
abbrev pub waits_behind : List Entry → ClaimId → List Lock → Entry → Option ClaimId
waits_behind table id locks e = if is_some (blocker_at table e) && conflict locks e.locks then Some id else blocker_at table e

-- the kept blockers are the entries' old ones, the requests' standings agree with them, and those that aren't weighed again are right
pub record AreStale (again : Again) (table : List Entry) (blockers : List (Option ClaimId)) (queues : List QueueSeen) : Type 0 where
  pub old : Entry → Option ClaimId
  pub were : blockers ≡ map old table
  pub requests : (p : ℕ) → requests_at queues p ≡ requests_by (λ (e : Entry). is_none (old e)) table p
  pub right : All (λ (e : Entry). is_taken again (old e) ≡ false → old e ≡ blocker_at table e) table

-- the blockers of the claims so far are right, and so are those of the later claims that aren't weighed again
pub record IsWeighing (again : Again) (table : List Entry) (blockers : List (Option ClaimId)) (queues : List QueueSeen) (i : ℕ) : Type 0 where
  pub old : Entry → Option ClaimId
  pub were : blockers ≡ map old table
  pub requests : (p : ℕ) → requests_at queues p ≡ requests_by (λ (e : Entry). is_none (old e)) table p
  pub done : All (λ (e : Entry). old e ≡ blocker_at table e) (take i table)
  pub left : All (λ (e : Entry). is_taken again (old e) ≡ false → old e ≡ blocker_at table e) (drop i table)

-- the modes that entries have at a place
abbrev pub modes_by : Option Mode → List Mode → List Mode
modes_by None ms = ms
modes_by (Some m) ms = m ∷ ms

abbrev pub modes_in : List Entry → ℕ → List Mode
modes_in [] p = []
modes_in (e ∷ es) p = modes_by (mode_at e.locks p) (modes_in es p)

-- the group of the modes that all claims have at a place
abbrev pub group_in : List Entry → ℕ → Counts
group_in table p = group_of (modes_in table p)

-- the group of the modes that the granted claims have at a place
abbrev pub held_group_in : List Entry → ℕ → Counts
held_group_in table p = group_of (modes_in (filter (is_held_in table) table) p)

-- the earlier of two positions
abbrev pub earlier : Option ℕ → Option ℕ → Option ℕ
earlier None o = o
earlier (Some m) None = Some m
earlier (Some m) (Some n) = Some (if nat_lt n m then n else m)

-- the position in the line of a claim, if there is an id
abbrev pub position_of : List Entry → Option ClaimId → Option ℕ
position_of table o = option_and_then (λ id. position (λ (e : Entry). same_id e.id id) table) o

-- the earliest position that any of some locks gives
abbrev pub earliest : (Lock → Option ℕ) → List Lock → Option ℕ
earliest f [] = None
earliest f (l ∷ ls) = earlier (f l) (earliest f ls)

-- the position of the first claim in the way of these locks, in any queue
abbrev pub request_in_way : List Entry → List QueueSeen → List Lock → Option ℕ
request_in_way table queues locks = earliest (λ (l : Lock). position_of table (first_of (is_in_way l.mode) (requests_at queues l.place))) locks

-- the same for the first granted claim other than this one
abbrev pub held_request_in_way : List Entry → List QueueSeen → ClaimId → List Lock → Option ℕ
held_request_in_way table queues id locks =
    earliest (λ (l : Lock). position_of table (first_of (is_held_in_way id l.mode) (requests_at queues l.place))) locks
