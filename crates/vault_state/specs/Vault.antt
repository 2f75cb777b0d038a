-- The vault as commands see it. This project's own.
use Rattle.std.specs.Prelude.{◌<◌, ◌≤◌, length, All, nat_eq, ℕ, ◌+◌, ◌==◌, if◌then◌else◌, List, [], map, Option, find, true, ◌≡◌, ◌≢◌, Some, is_some}
use Rattle.vault_state.specs.declared.place.Place.{Place}
use Rattle.vault_state.specs.declared.claims.Claim.{Claim}
use Rattle.vault_state.specs.declared.claims.Item.{Item}
use Rattle.vault_state.specs.declared.ids.ClaimId.{ClaimId}
use Rattle.vault_state.specs.declared.ids.ClaimId.TheVariants.{Long, Short}
use Rattle.vault_state.specs.declared.session.Session.{Session}
use Rattle.std.specs.List.{IsDistinct}
use Rattle.vault_state.specs.Note.{IsNote}
use Rattle.vault_state.specs.Tree.{IsTree, is_part}
use Rattle.vault_state.specs.Shelf.{weight, versions_of, IsShelf}
use Rattle.vault_state.specs.Drafts.{SavedDraft, saved_weight, drafts_of, IsOrdered}
use Rattle.vault_state.specs.Claims.{same_id, without_short, claim_of, change_set, standing_of}
use Rattle.vault_state.specs.Limits.{most_items, most_claims, most_sessions, last_number, most_drafts, most_weight, longest_content}
use Rattle.vault_state.specs.declared.claims.Standing.TheVariants.{Held}
use Rattle.vault_state.specs.declared.claims.Owner.{Owner}
use Rattle.vault_state.specs.declared.claims.Owner.TheVariants as owners

-- the tree, the shelf, the queue of claims, the drafts, the open sessions by rising number, the last number given to a session,
-- to a long claim and to a short one, and how many commands were given at the door, which is session 0
pub record Vault : Type 0 where
  pub tree : List Place
  pub shelf : List (List (List ℕ))
  pub line : List Claim
  pub drafts : List SavedDraft
  pub sessions : List Session
  pub last_session : ℕ
  pub last_long : ℕ
  pub last_short : ℕ
  pub door_count : ℕ

-- a new vault: the library alone, no claim, no session, and no number given
abbrev pub new_vault : Vault
new_vault =
    record { tree = []; shelf = []; line = []; drafts = []; sessions = []; last_session = 0; last_long = 0; last_short = 0; door_count = 0 }

-- the open session of this number
abbrev pub session_of : List Session → ℕ → Option Session
session_of sessions number = find (λ s. s.number == number) sessions

-- a session, with one more command counted if it has this number
abbrev pub one_more : ℕ → Session → Session
one_more number s = if s.number == number then record s { count = s.count + 1 } else s

-- the sessions, with one more command counted for the one of this number
abbrev pub counted_in : ℕ → List Session → List Session
counted_in number sessions = map (one_more number) sessions

-- a vault with one more command counted: at the door, or of an open session
abbrev pub counted : ℕ → Vault → Vault
counted number v = if number == 0 then record v { door_count = v.door_count + 1 } else record v { sessions = counted_in number v.sessions }

-- what all versions and drafts weigh
abbrev pub weight_of : Vault → ℕ
weight_of v = weight v.shelf + saved_weight v.drafts

-- each command count is below a bound
pub record CountsBelow (bound : ℕ) (v : Vault) : Type 0 where
  pub door : v.door_count < bound
  pub each : All (λ (s : Session). s.count < bound) v.sessions

-- items name places that are there
abbrev pub AreThere : List Place → List Item → Type 0
AreThere tree items = All (λ (item : Item). item.place ≤ length tree) items

-- the number of a claim is from 1 to the last number given to its kind
abbrev pub IsGiven : ℕ → ℕ → ClaimId → Type 0
IsGiven last_long last_short (Long n) = (0 < n) × (n ≤ last_long)
IsGiven last_long last_short (Short n) = (0 < n) × (n ≤ last_short)

-- a designer owns a long claim, an open session a short one
abbrev pub Owns : List Session → Owner → ClaimId → Type 0
Owns sessions (owners.Designer name) (Long n) = Unit {0}
Owns sessions (owners.Session number) (Short n) = is_some (session_of sessions number) ≡ true
Owns sessions (owners.Designer name) (Short n) = ⊥
Owns sessions (owners.Session number) (Long n) = ⊥

-- a check-out has a note, which may be empty; a hold has none
abbrev pub IsNoteOf : ClaimId → List ℕ → Type 0
IsNoteOf (Long n) note = IsNote note
IsNoteOf (Short n) note = note ≡ []

-- the invariant of each claim of a vault
pub record IsClaim (tree : List Place) (sessions : List Session) (last_long last_short : ℕ) (c : Claim) : Type 0 where
  pub given : IsGiven last_long last_short c.id
  pub owned : Owns sessions c.owner c.id
  pub some : 0 < length c.items
  pub few : length c.items ≤ most_items
  pub there : AreThere tree c.items
  pub noted : IsNoteOf c.id c.note

-- the invariant of the open sessions
pub record AreSessions (last_session : ℕ) (sessions : List Session) : Type 0 where
  pub few : length sessions ≤ most_sessions
  pub numbers : All (λ (s : Session). (0 < s.number) × (s.number ≤ last_session)) sessions
  pub distinct : IsDistinct nat_eq (map (λ (s : Session). s.number) sessions)

-- the invariant of each draft: its check-out is granted and changes its place, which is a part; its content is short
pub record IsDraft (tree : List Place) (line : List Claim) (x : SavedDraft) : Type 0 where
  pub held : standing_of tree line (Long x.claim) ≡ Some Held
  pub changed : (c : Claim) → claim_of line (Long x.claim) ≡ Some c → change_set tree c.items x.draft.place ≡ true
  pub there : x.draft.place ≤ length tree
  pub part : is_part tree x.draft.place ≡ true
  pub short : length x.draft.content ≤ longest_content

-- the invariant of all drafts together
pub record AreDrafts (tree : List Place) (line : List Claim) (drafts : List SavedDraft) : Type 0 where
  pub each : All (IsDraft tree line) drafts
  pub few : (number : ℕ) → length (drafts_of drafts number) ≤ most_drafts
  pub ordered : IsOrdered drafts

-- the invariant of the versions: they are of parts
pub record AreVersions (tree : List Place) (shelf : List (List (List ℕ))) : Type 0 where
  pub shelf_is : IsShelf shelf
  pub parts : (place : ℕ) → versions_of shelf place ≢ [] → (place ≤ length tree) × (is_part tree place ≡ true)

-- each of the last numbers given is within the limit
pub record AreLastNumbers (last_session last_long last_short : ℕ) : Type 0 where
  pub session : last_session ≤ last_number
  pub long : last_long ≤ last_number
  pub short : last_short ≤ last_number

-- The invariant of a vault: it is well formed.
pub record IsVault (v : Vault) : Type 0 where
  pub tree : IsTree v.tree
  pub few_claims : length v.line ≤ most_claims
  pub claims : All (IsClaim v.tree v.sessions v.last_long v.last_short) v.line
  pub apart : IsDistinct same_id (map (λ (c : Claim). c.id) v.line)
  pub sessions : AreSessions v.last_session v.sessions
  pub numbers : AreLastNumbers v.last_session v.last_long v.last_short
  pub versions : AreVersions v.tree v.shelf
  pub drafts : AreDrafts v.tree v.line v.drafts
  pub light : weight_of v ≤ most_weight

-- The durable vault: without sessions and short claims, and with nothing counted. This is what a restart leaves.
abbrev pub durable : Vault → Vault
durable v = record v { line = without_short v.line; sessions = []; last_session = 0; last_short = 0; door_count = 0 }
