-- The queue of one place, with the groups of all its requests and of the granted (held) ones: Gray, Lorie, Putzolu, Traiger (1976).
use Rattle.std.specs.Bool.{⊤}
use Rattle.std.specs.Prelude.{◌≡◌, ℕ, ◌<◌, Bool, true, false, ◌&&◌, not, if◌then◌else◌, List, [], ◌∷◌, map, filter, find, Option, None, Some}
use Rattle.std.specs.Option.{option_map}
use Rattle.vault_state.specs.declared.ids.ClaimId.{ClaimId}
use Rattle.vault_state.specs.Claims.{same_id, is_short}
use Rattle.lock_modes.specs.declared.mode.Mode.{Mode}
use Rattle.lock_modes.specs.declared.mode.Mode.TheVariants.{S}
use Rattle.lock_modes.specs.Modes.{at_least, compatible}
use Rattle.lock_modes.specs.Groups.{Counts, group_of, with_one, count_of}
use Rattle.lock_queue.specs.declared.queue.Request.{Request}

-- the queue of a place, and the number of requests it has memory for
pub record QueueSeen : Type 0 where
  pub requests : List Request
  pub room : ℕ

-- the modes of requests, and the requests of granted claims
abbrev pub request_modes : List Request → List Mode
request_modes requests = map (λ (s : Request). s.mode) requests

abbrev pub held_requests : List Request → List Request
held_requests requests = filter (λ (s : Request). s.is_held) requests

-- both groups count exactly these requests
abbrev pub AreCounted : List Request → Counts → Counts → Type 0
AreCounted requests all held = (all ≡ group_of (request_modes requests)) × (held ≡ group_of (request_modes (held_requests requests)))

-- the requests of other claims (`other_held` below: the granted ones of them)
abbrev pub requests_without : ClaimId → List Request → List Request
requests_without id requests = filter (λ (s : Request). not (same_id s.id id)) requests

-- the requests of long claims
abbrev pub long_requests : List Request → List Request
long_requests requests = filter (λ (s : Request). not (is_short s.id)) requests

abbrev pub other_held : ClaimId → List Request → List Request
other_held id requests = requests_without id (held_requests requests)

-- the requests, where the claim's own request is granted now, or not
abbrev pub restood : ClaimId → Bool → List Request → List Request
restood id held [] = []
restood id held (s ∷ requests) = if same_id s.id id then record s { is_held = held } ∷ requests else s ∷ restood id held requests

-- a group with a claim's own mode, where it has one
abbrev pub with_own : Option Mode → Counts → Counts
with_own None g = g
with_own (Some m) g = with_one g m

-- a group has a member of this mode, if a mode is given
abbrev pub HasOwn : Option Mode → Counts → Type 0
HasOwn None g = ⊤
HasOwn (Some m) g = 0 < count_of g m

-- a claim has exactly one granted request, of this mode; or none, if no mode is given
abbrev pub IsOwn : ClaimId → Option Mode → List Request → Type 0
IsOwn id own requests = group_of (request_modes (held_requests requests)) ≡ with_own own (group_of (request_modes (other_held id requests)))

-- a claim has a request of this mode, granted or not, and no other request
pub record HasRequest (id : ClaimId) (m : Mode) (held : Bool) (requests : List Request) : Type 0 where
  pub all : group_of (request_modes requests) ≡ with_one (group_of (request_modes (requests_without id requests))) m
  pub held_ones : group_of (request_modes (held_requests requests))
      ≡ with_own (if held then Some m else None) (group_of (request_modes (held_requests (requests_without id requests))))

-- a list of requests after the change by a lock's mode, if there is a lock
abbrev pub by_lock : (Mode → List Request → List Request) → Option Mode → List Request → List Request
by_lock change None requests = requests
by_lock change (Some m) requests = change m requests

-- the claim of the first request that passes
abbrev pub first_of : (Request → Bool) → List Request → Option ClaimId
first_of test requests = option_map (λ (s : Request). s.id) (find test requests)

-- a request's mode is in the way of a mode: the two are incompatible
abbrev pub is_in_way : Mode → Request → Bool
is_in_way m s = not (compatible m s.mode)

-- a request of another claim is granted, and in the way
abbrev pub is_held_in_way : ClaimId → Mode → Request → Bool
is_held_in_way id m s = not (same_id s.id id) && not (compatible m s.mode) && s.is_held

-- a granted request covers its place
abbrev pub is_cover : Request → Bool
is_cover s = at_least s.mode S && s.is_held
