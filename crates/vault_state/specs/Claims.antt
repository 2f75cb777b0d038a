-- Claims, the sets of places that they cover, and the queue of claims (in names: the line). This project's own; intents and queues
-- by arrival follow Gray, Lorie, Putzolu and Traiger (1976).
use Rattle.std.specs.Prelude.{ℕ, zero, suc, Bool, true, false, not, ◌||◌, ◌&&◌, ◌==◌, if◌then◌else◌, List, [], ◌∷◌, length, map, filter, take_while, Option, None, Some, find}
use Rattle.std.specs.List.{list_any}
use Rattle.std.specs.Option.{option_map, option_map_or, is_none}
use Rattle.vault_state.specs.declared.place.Place.{Place}
use Rattle.vault_state.specs.declared.ids.Intent.{Intent}
use Rattle.vault_state.specs.declared.ids.Intent.TheVariants.{Look, Change}
use Rattle.vault_state.specs.declared.ids.ClaimId.{ClaimId}
use Rattle.vault_state.specs.declared.ids.ClaimId.TheVariants.{Long, Short}
use Rattle.vault_state.specs.declared.claims.Item.{Item}
use Rattle.vault_state.specs.declared.claims.Claim.{Claim}
use Rattle.vault_state.specs.declared.claims.Owner.{Owner}
use Rattle.vault_state.specs.declared.claims.Owner.TheVariants as owners
use Rattle.vault_state.specs.declared.claims.Standing.{Standing}
use Rattle.vault_state.specs.declared.claims.Standing.TheVariants.{Held, Queued}
use Rattle.vault_state.specs.Tree.{is_under}

-- a new check-out of a designer, and a new hold of a session; neither has a note
abbrev pub new_check_out : ℕ → List ℕ → List Item → Claim
new_check_out number designer items = record { id = Long number; owner = owners.Designer designer; items = items; note = [] }

abbrev pub new_hold : ℕ → ℕ → List Item → Claim
new_hold number session items = record { id = Short number; owner = owners.Session session; items = items; note = [] }

-- whether an item is for change
abbrev pub is_change : Intent → Bool
is_change Look = false
is_change Change = true

-- whether two ids are the same
abbrev pub same_id : ClaimId → ClaimId → Bool
same_id (Long m) (Long n) = m == n
same_id (Short m) (Short n) = m == n
same_id (Long m) (Short n) = false
same_id (Short m) (Long n) = false

-- A set of places is a test of their numbers.
-- the look set of some items: every place at or under one of them
abbrev pub look_set : List Place → List Item → ℕ → Bool
look_set tree items p = list_any (λ item. is_under tree p item.place) items

-- their change set: every place at or under one for change
abbrev pub change_set : List Place → List Item → ℕ → Bool
change_set tree items p = list_any (λ item. is_change item.intent && is_under tree p item.place) items

-- whether some number below n is in both sets
abbrev pub meet_below : ℕ → (ℕ → Bool) → (ℕ → Bool) → Bool
meet_below zero a b = false
meet_below (suc n) a b = (a n && b n) || meet_below n a b

-- whether a place of the tree is in both sets
abbrev pub meet : List Place → (ℕ → Bool) → (ℕ → Bool) → Bool
meet tree a b = meet_below (suc (length tree)) a b

-- two claims overlap when the change set of one meets the look set of the other
unfoldable pub overlap : List Place → List Item → List Item → Bool
overlap tree c d = meet tree (change_set tree c) (look_set tree d) || meet tree (change_set tree d) (look_set tree c)

-- the first of these claims that the items overlap
abbrev pub blocker : List Place → List Claim → List Item → Option ClaimId
blocker tree before items = option_map (λ d. d.id) (find (λ d. overlap tree items d.items) before)

-- a claim is granted (held) if it overlaps none before it; else it waits (queued) behind the first that it overlaps
abbrev pub standing_by : Option ClaimId → Standing
standing_by None = Held
standing_by (Some id) = Queued id

-- the standing of a claim for these items, behind these claims
abbrev pub standing_behind : List Place → List Claim → List Item → Standing
standing_behind tree before items = standing_by (blocker tree before items)

-- the claim of this id in the queue
abbrev pub claim_of : List Claim → ClaimId → Option Claim
claim_of line id = find (λ c. same_id c.id id) line

-- the claims in the queue before the one of this id
abbrev pub before : List Claim → ClaimId → List Claim
before line id = take_while (λ c. not (same_id c.id id)) line

-- the standing of the claim of this id, if it is in the queue
abbrev pub standing_of : List Place → List Claim → ClaimId → Option Standing
standing_of tree line id = option_map (λ c. standing_behind tree (before line id) c.items) (claim_of line id)

-- the queue without the claim of this id
abbrev pub without : List Claim → ClaimId → List Claim
without line id = filter (λ c. not (same_id c.id id)) line

-- whether a claim in the queue is granted
abbrev pub is_held : List Place → List Claim → Claim → Bool
is_held tree line c = is_none (blocker tree (before line c.id) c.items)

-- the first granted claim in the queue whose look set has the place
abbrev pub covering : List Place → List Claim → ℕ → Option ClaimId
covering tree line p = option_map (λ c. c.id) (find (λ c. is_held tree line c && look_set tree c.items p) line)

-- the claims in the queue, granted or waiting, whose look set has a place that is p or under it
abbrev pub claims_at : List Place → List Claim → ℕ → List ClaimId
claims_at tree line p = map (λ c. c.id) (filter (λ c. meet tree (look_set tree c.items) (λ q. is_under tree q p)) line)

-- the first granted claim in the queue, other than this one, that the items overlap
abbrev pub in_way_of : List Place → List Claim → ClaimId → List Item → Option ClaimId
in_way_of tree line id items = blocker tree (filter (λ (c : Claim). not (same_id c.id id) && is_held tree line c) line) items

-- the queue with these items for a claim, which moves to the front
abbrev pub put_first : List Claim → ClaimId → List Item → List Claim
put_first line id items = option_map_or (λ (c : Claim). record c { items = items } ∷ without line id) (claim_of line id) line

-- the queue with the claim of this id changed, in its place
abbrev pub changed : List Claim → ClaimId → (Claim → Claim) → List Claim
changed line id change = map (λ (c : Claim). if same_id c.id id then change c else c) line

-- a claim with a designer as its owner, and a claim with another note; the rest of it stays
abbrev pub given_to : List ℕ → Claim → Claim
given_to designer c = record c { owner = owners.Designer designer }

abbrev pub noted_as : List ℕ → Claim → Claim
noted_as note c = record c { note = note }

-- whether a claim is owned by this session
abbrev pub is_session : ℕ → Owner → Bool
is_session session (owners.Designer name) = false
is_session session (owners.Session number) = number == session

-- whether a claim is a short one
abbrev pub is_short : ClaimId → Bool
is_short (Long n) = false
is_short (Short n) = true

-- the queue without the claims of a session
abbrev pub without_session : ℕ → List Claim → List Claim
without_session session line = filter (λ (c : Claim). not (is_session session c.owner)) line

-- the queue without the short claims
abbrev pub without_short : List Claim → List Claim
without_short line = filter (λ (c : Claim). not (is_short c.id)) line
