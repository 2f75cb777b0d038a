-- What is recovered after any past of a vault. This project's own.
use Rattle.std.specs.Prelude.{◌≡◌, ◌⊎◌, ℕ, zero, suc, ◌+◌, ◌≤◌, IsTrue, Bool, List, [], ◌∷◌, ◌++◌, length, take, None, Some, slice_get}
use Rattle.std.proofs.Common.{inl, inr}
use Rattle.vault_state.specs.declared.ids.ClaimId.TheVariants.{Short}
use Rattle.vault_state.specs.Claims.{claim_of, without_short}
use Rattle.vault_state.specs.Vault.{Vault, durable}
use Rattle.vault_device.specs.Disk.{Disk}
use Rattle.vault_store.specs.declared.opening.OpenError.{OpenError}
use Rattle.vault_format.specs.Files.{StandFor}
use Rattle.vault_store.specs.Opening.{IsNotOpened, IsFound}
use Rattle.vault_store.specs.Phases.{is_opening, may_open}
use Rattle.group_commit.specs.declared.mark.Mark.TheVariants.{Told}
use Rattle.group_commit.specs.Entries.{Kept}
use Rattle.group_commit.specs.History.{Member, Given, replay, IsLegal}
use Rattle.group_commit.specs.World.{World, world_of, history, Pump, GateLeft}
use Rattle.group_commit.specs.Runs.{Event, Within, Crash, run, IsRun}
use Rattle.group_commit.specs.View.{view_of, opened_view}
use Rattle.group_commit.specs.Ticket.{Told as Receipt, entry_in}
use Rattle.group_commit.specs.Laws.{AreApart, IsGuarded}
use Rattle.group_commit.specs.Seen.{VaultSeen, snapshot_length}
use Rattle.group_commit.specs.Promises.{IsCrash}
use Rattle.group_commit.specs.Positions.{HasTold}
use Rattle.group_commit.specs.Pasts.{IsStopInside, IsStop, IsOpenedOn, IsNext, IsPast, beginning}

-- the world after events from this vault on
abbrev pub world_after : Vault → List Event → World
world_after first events = run snapshot_length (world_of first) events

-- the events of a crash (`IsStop`): the crash, and before it at most the pump under way, where the crash came inside one
abbrev pub AreOfStop : {D : Type 0} → {disk : D → Disk} → {seen : VaultSeen D} → {x y : List ℕ} → IsStop disk seen x y → List Event → Type 0
AreOfStop (inl between) events = (gate : GateLeft) × (events ≡ Crash gate ∷ [])
AreOfStop (inr inside) events = (gate : GateLeft) × ((events ≡ Crash gate ∷ []) ⊎ (events ≡ Within Pump ∷ Crash gate ∷ []))

-- the events of what came next: none where a call changed nothing, its one act, or those of the crash
abbrev pub AreOfNext : {D : Type 0} → {disk : D → Disk} → {old new : VaultSeen D} → IsNext disk old new → List Event → Type 0
AreOfNext (inl (inl same)) events = events ≡ []
AreOfNext (inl (inr made)) events = events ≡ Within made.0 ∷ []
AreOfNext (inr reopened) events = AreOfStop reopened.left events

-- events that happened before, and after them those of what came next
pub record GoOn {D : Type 0} {disk : D → Disk} {old new : VaultSeen D} (next : IsNext disk old new) (HappenedBefore : List Event → Type 0)
    (events : List Event) : Type 0 where
  pub before : List Event
  pub last : List Event
  pub whole : events ≡ before ++ last
  pub happened_before : HappenedBefore before
  pub of_next : AreOfNext next last

-- The events of a past, call by call: none before the first was seen, and then those of each that came next.
abbrev pub AreOfPast : {D : Type 0} → (disk : D → Disk) → (now : VaultSeen D) → (past : List (VaultSeen D)) → IsPast disk now past
    → List Event → Type 0
AreOfPast disk now [] is events = events ≡ []
AreOfPast disk now (old ∷ past) is events = GoOn is.1 (AreOfPast disk old past is.2) events

-- those of them that had happened when the nth vault of the past was seen, the latest one first
abbrev pub events_until : {D : Type 0} → (disk : D → Disk) → (now : VaultSeen D) → (past : List (VaultSeen D)) → (is : IsPast disk now past)
    → (events : List Event) → AreOfPast disk now past is events → ℕ → List Event
events_until disk now past is events are zero = events
events_until disk now [] is events are (suc n) = []
events_until disk now (old ∷ past) is events are (suc n) = events_until disk old past is.2 are.before are.happened_before n

-- One run of events is the whole past of a vault, over all its lives.
pub record IsOneRun {D : Type 0} (disk : D → Disk) (now : VaultSeen D) (past : List (VaultSeen D))
    (is : IsPast disk now past) : Type 0 where
  pub events : List Event
  pub is_run : IsRun snapshot_length (world_of (beginning now past)) events
  -- between two vaults that were seen one after the other, nothing happened but what led from the one to the other
  pub calls : AreOfPast disk now past is events
  -- each view that was seen, the latest first, is that of the world as it was then
  pub shown : (n : ℕ) (seen : VaultSeen D) → slice_get (now ∷ past) n ≡ Some seen
      → view_of (world_after (beginning now past) (events_until disk now past is events calls n)) ≡ seen.view

-- the single history of a past
abbrev pub history_of : {D : Type 0} → {disk : D → Disk} → {now : VaultSeen D} → {past : List (VaultSeen D)} → {is : IsPast disk now past}
    → IsOneRun disk now past is → List Member
history_of {D} {disk} {now} {past} {is} one = history (world_after (beginning now past) one.events)

-- where in it the life of the nth vault that was seen begins
abbrev pub life_begins : {D : Type 0} → {disk : D → Disk} → {now : VaultSeen D} → {past : List (VaultSeen D)} → {is : IsPast disk now past}
    → IsOneRun disk now past is → ℕ → ℕ
life_begins {D} {disk} {now} {past} {is} one n =
    length (world_after (beginning now past) (events_until disk now past is one.events one.calls n)).earlier

-- These files stand for a vault, opening finds nothing wrong with them, and recovery gives it: the durable vault after one prefix of the
-- single history, up to the durable entries or, where a gate may be open, up to the sealed ones.
pub record IsRecovered {D : Type 0} {disk : D → Disk} {now : VaultSeen D} {past : List (VaultSeen D)} {is : IsPast disk now past}
    (one : IsOneRun disk now past is) (open_gate : Bool) (x y : List ℕ) : Type 0 where
  pub vault : Vault
  pub stands : StandFor x y vault
  pub sound : (why : OpenError) → IsFound why → IsNotOpened x y why → ⊥
  pub recovery : (new : VaultSeen D) → IsOpenedOn x y new → new.view ≡ opened_view vault
  pub cut : ℕ
  pub choice :
      let w : World = world_after (beginning now past) one.events in
      (cut ≡ length w.earlier + now.view.settled) ⊎ (IsTrue open_gate × (cut ≡ length w.earlier + now.view.sealed))
  pub within : cut ≤ length (history_of one)
  pub prefix : vault ≡ durable (replay (beginning now past) (take cut (history_of one)))
  -- each entry acknowledged at any point of the past stands in that prefix, at its position, with its reply
  pub told : (n place : ℕ) (seen : VaultSeen D) (kept : Kept) (at : slice_get (now ∷ past) n ≡ Some seen)
      → slice_get seen.view.kept place ≡ Some kept → kept.mark ≡ Told
      → slice_get (take cut (history_of one)) (life_begins one n + (seen.view.retired + place)) ≡ Some (Given kept.entry)
  -- its long claims stand in their order, and short ones are gone
  pub claims : vault.line ≡ without_short (replay (beginning now past) (take cut (history_of one))).line
  pub no_short : (number : ℕ) → claim_of vault.line (Short number) ≡ None
  -- no two granted claims overlap, after the prefix and in the recovered vault
  pub guarded : IsGuarded (replay (beginning now past) (take cut (history_of one)))
  pub apart : AreApart vault

-- The headline, for one past of a vault: one run of events is this past, its history is legal from the vault with which it began, and
-- after a crash now, between two calls or inside a pump, recovery gives one prefix of that history.
pub record IsKeptThrough {D : Type 0} (disk : D → Disk) (now : VaultSeen D) (past : List (VaultSeen D))
    (is : IsPast disk now past) : Type 0 where
  pub one : IsOneRun disk now past is
  pub legal : IsLegal (beginning now past) (history_of one)
  pub between : (x y : List ℕ) → IsCrash disk now x y → IsRecovered one (is_opening now.view.phase) x y
  pub inside : (x y : List ℕ) → IsStopInside disk now x y → IsRecovered one (may_open now.view.phase) x y

-- it holds for each past
abbrev pub EachPastIsKept : {D : Type 0} → (D → Disk) → VaultSeen D → Type 0
EachPastIsKept {D} disk now = (past : List (VaultSeen D)) (is : IsPast disk now past) → IsKeptThrough disk now past is

-- where in the history of a past the entry of a receipt stands: in the life of the nth vault that was seen, at the receipt's position
abbrev pub position_of_entry : {D : Type 0} → {disk : D → Disk} → {now : VaultSeen D} → {past : List (VaultSeen D)} → {is : IsPast disk now past}
    → IsOneRun disk now past is → ℕ → Receipt → ℕ
position_of_entry {D} {disk} {now} {past} {is} one n told = life_begins one n + told.position

-- A receipt whose entry the nth vault showed as acknowledged is found again, over this past: after any crash now, that entry stands in
-- the prefix that recovery gives, at its position, with its session, its number, its command and its reply.
pub record IsFoundAgain {D : Type 0} (disk : D → Disk) (now : VaultSeen D) (past : List (VaultSeen D)) (is : IsPast disk now past)
    (n : ℕ) (told : Receipt) : Type 0 where
  pub kept : IsKeptThrough disk now past is
  pub between : (x y : List ℕ) (crash : IsCrash disk now x y)
      → slice_get (take (kept.between x y crash).cut (history_of kept.one)) (position_of_entry kept.one n told) ≡ Some (Given (entry_in told))
  pub inside : (x y : List ℕ) (stop : IsStopInside disk now x y)
      → slice_get (take (kept.inside x y stop).cut (history_of kept.one)) (position_of_entry kept.one n told) ≡ Some (Given (entry_in told))

-- so is each receipt whose entry was seen as acknowledged at any point of a past
abbrev pub ReceiptsAreFoundAgain : {D : Type 0} → (D → Disk) → VaultSeen D → Type 0
ReceiptsAreFoundAgain {D} disk now =
    (past : List (VaultSeen D)) (is : IsPast disk now past) (n : ℕ) (seen : VaultSeen D) (told : Receipt)
    → slice_get (now ∷ past) n ≡ Some seen → HasTold seen.view told → IsFoundAgain disk now past is n told
