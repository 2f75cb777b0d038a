-- The world: the history over all lives, and how far its present life is settled (durable), sealed, retired and told (acknowledged).
-- This project's own.
use Rattle.std.specs.Prelude.{◌≡◌, ◌≢◌, ℕ, ◌+◌, ◌<◌, Bool, true, false, if◌then◌else◌, List, [], ◌∷◌, ◌++◌, length, take, drop, Some}
use Rattle.vault_model.specs.Said.{Command}
use Rattle.vault_state.specs.Vault.{Vault, new_vault, durable}
use Rattle.group_commit.specs.declared.mark.Mark.TheVariants.{Open, Told, Forgotten}
use Rattle.vault_store.specs.declared.phase.Phase.{Phase}
use Rattle.vault_store.specs.declared.phase.Phase.TheVariants.{Idle, Start}
use Rattle.group_commit.specs.Entries.{Kept, opened, mark_at, with_mark}
use Rattle.group_commit.specs.History.{Member, Restart, replay, entry_of, members, effects}
use Rattle.vault_store.specs.Phases.{Row, row, NoCall, settled_by, after_fault, is_opening}
use Rattle.group_commit.specs.Phases.{waiting}

-- the vault with which the first life began, the members of earlier lives, the entries of the present life with their marks,
-- and, counted from its start, how many of them are durable (`settled`), sealed and retired; the phase; whether a device call failed
pub record World : Type 0 where
  pub first : Vault
  pub earlier : List Member
  pub life : List Kept
  pub settled : ℕ
  pub sealed : ℕ
  pub retired : ℕ
  pub phase : Phase
  pub broken : Bool

-- the world of a vault with which a first life begins
abbrev pub world_of : Vault → World
world_of vault =
    record { first = vault; earlier = []; life = []; settled = 0; sealed = 0; retired = 0; phase = Idle; broken = false }

-- the world of the new vault
abbrev pub new_world : World
new_world = world_of new_vault

-- the single history, over all lives
abbrev pub history : World → List Member
history w = w.earlier ++ members w.life

-- the history up to the first n entries of the present life
abbrev pub history_to : World → ℕ → List Member
history_to w n = w.earlier ++ members (take n w.life)

-- the vault after these
abbrev pub vault_at : World → ℕ → Vault
vault_at w n = replay w.first (history_to w n)

-- the vault after all
abbrev pub vault_of : World → Vault
vault_of w = replay w.first (history w)

-- what one call does: a command is staged, a pump, a pump with a fault, the start of a snapshot, a reply that is handed out, a
-- ticket that is forgotten, and an entry that is retired
pub data Act : Type 0 where
  Stage : (session : ℕ) (command : Command) → Act
  Pump : Act
  Fault : Act
  StartSnapshot : Act
  Tell : (position : ℕ) → Act
  Forget : (position : ℕ) → Act
  Retire : Act

-- the row of the table that a pump makes here, where a snapshot of a vault has this length
abbrev pub row_of : (Vault → ℕ) → World → Row
row_of snapshot w =
    let unsettled = drop w.settled w.life in
    row w.phase (waiting unsettled (effects (vault_at w w.settled) unsettled)) (snapshot (durable (vault_at w w.sealed)))

-- Where each act is allowed.
abbrev pub Allows : (Vault → ℕ) → World → Act → Type 0
Allows snapshot w (Stage session command) = w.broken ≡ false
Allows snapshot w Pump = w.broken ≡ false
Allows snapshot w Fault = (w.broken ≡ false) × ((row_of snapshot w).call ≢ NoCall)
Allows snapshot w StartSnapshot = (w.broken ≡ false) × (w.phase ≡ Idle)
Allows snapshot w (Tell position) = (position < w.settled) × (mark_at w.life position ≡ Some Open)
Allows snapshot w (Forget position) = mark_at w.life position ≡ Some Open
Allows snapshot w Retire = (w.retired < w.settled) × (mark_at w.life w.retired ≢ Some Open)

-- the world after a pump that made this row
abbrev pub pumped : Row → World → World
pumped r w = record w {
  settled = settled_by r.settles w.settled w.sealed (length w.life);
  sealed = if r.seals then length w.life else w.sealed;
  phase = r.next;
}

-- the world after a pump that failed at this row
abbrev pub failed : Row → World → World
failed r w = record w {
  sealed = after_fault r.call w.sealed (if r.seals then length w.life else w.sealed);
  phase = after_fault r.call w.phase r.next;
  broken = true;
}

-- The world after each act.
abbrev pub acted : (Vault → ℕ) → World → Act → World
acted snapshot w (Stage session command) = record w { life = w.life ++ opened (entry_of (vault_of w) session command) ∷ [] }
acted snapshot w Pump = pumped (row_of snapshot w) w
acted snapshot w Fault = failed (row_of snapshot w) w
acted snapshot w StartSnapshot = record w { sealed = length w.life; phase = Start }
acted snapshot w (Tell position) = record w { life = with_mark Told w.life position }
acted snapshot w (Forget position) = record w { life = with_mark Forgotten w.life position }
acted snapshot w Retire = record w { retired = w.retired + 1 }

-- where a gate is being opened, a crash leaves it closed or open
pub data GateLeft : Type 0 where
  StaysClosed : GateLeft
  IsOpen : GateLeft

-- how many entries of the present life a crash keeps: the durable ones, or the sealed ones where a gate was being opened and
-- is found open
abbrev pub kept_by : World → GateLeft → ℕ
kept_by w StaysClosed = w.settled
kept_by w IsOpen = if is_opening w.phase then w.sealed else w.settled

-- the world after a crash and a restart: a new life after the entries that are kept
abbrev pub crashed : World → GateLeft → World
crashed w gate = record {
  first = w.first;
  earlier = history_to w (kept_by w gate) ++ Restart ∷ [];
  life = [];
  settled = 0;
  sealed = 0;
  retired = 0;
  phase = Idle;
  broken = false;
}

-- what recovery gives: the durable vault after the entries that are kept
abbrev pub recovered : World → GateLeft → Vault
recovered w gate = durable (vault_at w (kept_by w gate))
