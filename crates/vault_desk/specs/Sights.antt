-- What was seen of a served vault, and what that shows. This project's own.
use Rattle.std.specs.Prelude.{◌≡◌, ◌==◌, ◌+◌, ◌⊎◌, ℕ, true, List, [], ◌∷◌, ◌++◌, length, MatchBool, Option, Some, None, slice_get}
use Rattle.vault_model.specs.declared.commands.Command.TheVariants.{Leave}
use Rattle.logbook.specs.Pages.{Cell, Step, View as Known, Book, Named}
use Rattle.group_commit.specs.Entries.{Entry}
use Rattle.vault_state.specs.Vault.{Vault, IsVault, CountsBelow}
use Rattle.group_commit.specs.History.{Given}
use Rattle.group_commit.specs.World.{Act, world_of, history}
use Rattle.group_commit.specs.Runs.{Event, run, IsRun}
use Rattle.group_commit.specs.View.{View, view_of}
use Rattle.group_commit.specs.Seen.{snapshot_length}
use Rattle.group_commit.specs.Ticket.{TicketSeen, Told, ticket_of, entry_in}
use Rattle.group_commit.specs.Positions.{HasEntry, HasTold}
use Rattle.vault_desk.specs.Acts.{GoesOn, events_of}

-- the first word is the length of the past; a book has two words, of which this one leaves the second at 0
pub record IsKept (cells : List Cell) (log : List View) : Type 0 where
  pub words : cells ≡ (length log, true) ∷ (0, true) ∷ []

-- that word
abbrev pub head_of : Book → Named
head_of b = record { tracked = true; key = 0; book = b }

-- the moment was added to all that had been seen; or the past was longer
abbrev pub Adds : Step View → Known View ℕ → ℕ → Known View ℕ → Type 0
Adds s v found w = MatchBool (found == s.old) (w.0 ≡ v.0 ++ s.ask ∷ []) (length w.0 ≡ found)

-- all that was seen: at first nothing
abbrev pub seen_by : Option (List View) → List View
seen_by None = []
seen_by (Some seen) = seen

-- A vault came from one view to another by acts alone, and through each of these on the way.
abbrev pub WentThrough : View → View → List View → Type 0
WentThrough old new [] = Unit {0}
WentThrough old new (v ∷ vs) = GoesOn old v × GoesOn v new × WentThrough old new vs

-- this view is among those that were seen
pub record Saw (seen : List View) (v : View) : Type 0 where
  pub place : ℕ
  pub is_seen : slice_get seen place ≡ Some v

-- the entry that a ticket names stands in this view, at its position
pub record IsStaged (v : View) (claim : TicketSeen) : Type 0 where
  pub entry : Entry
  pub stands : HasEntry v claim.position entry
  pub names : claim ≡ ticket_of claim.life claim.position entry

-- it stood in a view that was seen
pub record WasStaged (seen : List View) (claim : TicketSeen) : Type 0 where
  pub place : ℕ
  pub view : View
  pub is_seen : slice_get seen place ≡ Some view
  pub staged : IsStaged view claim

-- the entry of a receipt, with its session, its number, its command and its reply, stood in a view that was seen, as acknowledged
pub record WasTold (seen : List View) (told : Told) : Type 0 where
  pub place : ℕ
  pub view : View
  pub is_seen : slice_get seen place ≡ Some view
  pub has : HasTold view told

-- the entry of a leave of this session stood in a view that was seen
pub record WasLeft (seen : List View) (session : ℕ) : Type 0 where
  pub claim : TicketSeen
  pub is_leave : claim.command ≡ Leave
  pub of_session : claim.session ≡ session
  pub staged : WasStaged seen claim

-- a view that was seen is of a broken vault
pub record WasBroken (seen : List View) : Type 0 where
  pub place : ℕ
  pub view : View
  pub is_seen : slice_get seen place ≡ Some view
  pub broken : view.broken ≡ true

-- no session is open (its number is 0), or its last leave was seen in the history, or the vault broke before
abbrev pub HasItsLeave : List View → ℕ → Type 0
HasItsLeave seen session = (session ≡ 0) ⊎ WasLeft seen session ⊎ WasBroken seen

-- A vault came from one view to another by acts alone, and on the way the entry of a leave of this session got its place in the history.
pub record Leaves (old new : View) (session : ℕ) : Type 0 where
  pub claim : TicketSeen
  pub is_leave : claim.command ≡ Leave
  pub of_session : claim.session ≡ session
  pub between : View
  pub before : GoesOn old between
  pub staged : IsStaged between claim
  pub after : GoesOn between new

-- no session was left open, or it has a leave in that history, or the vault is broken
abbrev pub LeavesNoneOpen : View → View → ℕ → Type 0
LeavesNoneOpen old new session = (session ≡ 0) ⊎ Leaves old new session ⊎ (new.broken ≡ true)

-- A vault came from one view to another by acts alone, and on the way it acknowledged the entry of this receipt: its session, number,
-- command and reply stand in the history that led to the other one, at its position.
pub record Acknowledged (old new : View) (told : Told) : Type 0 where
  pub between : View
  pub before : GoesOn old between
  pub has : HasTold between told
  pub after : GoesOn between new

-- a receipt whose entry was seen as acknowledged is of each vault that went through what was seen
abbrev pub SeenIsAcknowledged : Type 0
SeenIsAcknowledged = (old new : View) (seen : List View) (told : Told) → WentThrough old new seen → WasTold seen told → Acknowledged old new told

-- After any run that reached the first view there are acts that lead to the other, and in the history of this whole run the receipt's entry
-- stands in the present life, at its position.
abbrev pub AcknowledgedStands : Type 0
AcknowledgedStands =
    (first : Vault) (events : List Event) (old new : View) (told : Told) → Acknowledged old new told → IsVault first → CountsBelow 1 first
    → IsRun snapshot_length (world_of first) events → view_of (run snapshot_length (world_of first) events) ≡ old
    → (acts : List Act) × IsRun snapshot_length (world_of first) (events ++ events_of acts)
    × (view_of (run snapshot_length (world_of first) (events ++ events_of acts)) ≡ new)
    × (slice_get (history (run snapshot_length (world_of first) (events ++ events_of acts)))
    (length (run snapshot_length (world_of first) events).earlier + told.position) ≡ Some (Given (entry_in told)))
