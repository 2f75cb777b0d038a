-- What is promised of the files of a vault. This project's own.
use Rattle.std.specs.Prelude.{◌≡◌, ℕ, true, false, List}
use Rattle.vault_state.specs.Vault.{Vault}
use Rattle.vault_device.specs.Disk.{Disk}
use Rattle.vault_format.specs.Files.{StandFor}
use Rattle.vault_store.specs.Laws.{AreHonest, IsOneGate}
use Rattle.vault_store.specs.Phases.{is_opening}
use Rattle.vault_store.specs.Seen.{first_of, second_of, gate_at, gated, IsLeft, IsLeftInside}
use Rattle.vault_store.specs.Step.{MayBeLeft}
use Rattle.group_commit.specs.World.{new_world, GateLeft, recovered}
use Rattle.group_commit.specs.Runs.{Event, run, IsRun}
use Rattle.group_commit.specs.View.{view_of, MayLeave}
use Rattle.group_commit.specs.Laws.{IsPrefix}
use Rattle.group_commit.specs.Seen.{VaultSeen, state_of}

-- a crash may leave these two files of a vault's honest devices
abbrev pub IsCrash : {D : Type 0} → (D → Disk) → VaultSeen D → List ℕ → List ℕ → Type 0
IsCrash disk seen x y = AreHonest disk seen.store × (disk (first_of seen.store)).IsImage x × (disk (second_of seen.store)).IsImage y

-- What a crash leaves is read as the vault after the settled (durable) entries. While a gate (commit mark) is being opened, it is read as
-- the one after the sealed entries exactly where that gate is 1. So it stands for one that the view allows.
pub record ImagesStand {D : Type 0} (disk : D → Disk) (seen : VaultSeen D) : Type 0 where
  pub left : (x y : List ℕ) → IsCrash disk seen x y → IsLeft seen.store (state_of seen.view) x y
  pub stands : (x y : List ℕ) → IsCrash disk seen x y → (left : Vault) × MayLeave seen.view left × StandFor x y left
  -- while a gate is being opened, and before a device call failed, a crash changes only that byte of its file
  pub gate : AreHonest disk seen.store → is_opening seen.view.phase ≡ true → seen.view.broken ≡ false
      → IsOneGate (disk (gated seen.view.phase seen.store.active seen.store.spare)) (gate_at seen.store seen.view.phase)

-- what a crash inside a call leaves is read as the vault after the entries durable before or, where a gate may be opened, after the
-- sealed ones
abbrev pub MomentsStand : {D : Type 0} → (D → Disk) → VaultSeen D → VaultSeen D → Type 0
MomentsStand disk old new =
    (x y : List ℕ) → AreHonest disk old.store
    → MayBeLeft (disk (first_of old.store)) (disk (second_of old.store)) (disk (first_of new.store)) (disk (second_of new.store)) x y
    → IsLeftInside old.store (state_of old.view) x y

-- For any run that reached this view: what a crash leaves stands for the durable vault after one prefix of the history, with all
-- acknowledged entries.
abbrev pub RecoveryGivesOnePrefix : {D : Type 0} → (D → Disk) → VaultSeen D → Type 0
RecoveryGivesOnePrefix disk seen =
    (snapshot : Vault → ℕ) (events : List Event) (x y : List ℕ) → IsRun snapshot new_world events
    → view_of (run snapshot new_world events) ≡ seen.view → IsCrash disk seen x y
    → (gate : GateLeft) × StandFor x y (recovered (run snapshot new_world events) gate) × IsPrefix (run snapshot new_world events) gate
