-- What contracts see of a vault, and what every vault keeps. This project's own.
use Rattle.std.specs.Prelude.{◌≡◌, ℕ, ◌+◌, ◌-◌, ◌<◌, ◌≤◌, true, false, if◌then◌else◌, List, [], length, take, drop, Some}
use Rattle.vault_model.specs.Said.{Effect}
use Rattle.vault_state.specs.Vault.{Vault, IsVault, CountsBelow, durable}
use Rattle.vault_format.specs.Snapshot.{snapshot_of}
use Rattle.vault_store.specs.Phases.{is_idle}
use Rattle.vault_store.specs.State.{StoreState}
use Rattle.vault_store.specs.Seen.{StoreSeen}
use Rattle.group_commit.specs.declared.mark.Mark.TheVariants.{Told}
use Rattle.group_commit.specs.Entries.{mark_at, told_in}
use Rattle.group_commit.specs.History.{IsLegal, members, effects}
use Rattle.group_commit.specs.Phases.{InOrder}
use Rattle.group_commit.specs.View.{View, length_of, view_at, book_of}
use Rattle.group_commit.specs.declared.window.TheConstants.{MAX_KEPT}

-- the view of the present life, the life's number, and the store beneath, which has both devices and the numbers of the active file
pub record VaultSeen (D : Type 0) : Type 0 where
  pub view : View
  pub life : ℕ
  pub store : StoreSeen D

-- how many bytes a snapshot of a vault has
abbrev pub snapshot_length : Vault → ℕ
snapshot_length w = length (snapshot_of w)

-- the greatest number of kept entries
abbrev pub most_kept : ℕ
most_kept = MAX_KEPT

-- up to where the entries are in frames: the sealed ones while a commit or a snapshot is under way, else the settled (durable) ones
abbrev pub framed : View → ℕ
framed v = if is_idle v.phase then v.settled else v.sealed

-- the effects of the entries from one position to a later one
abbrev pub effects_between : View → ℕ → ℕ → List Effect
effects_between v from to = effects (view_at v from) (take (to - from) (drop (from - v.retired) v.kept))

-- the effects of all entries from one position on
abbrev pub effects_from : View → ℕ → List Effect
effects_from v from = effects (view_at v from) (drop (from - v.retired) v.kept)

-- What the store has to keep for a view: the durable vault after the durable entries, the one after those in frames, and the one
-- after all, with the effects between them.
abbrev pub state_of : View → StoreState
state_of v = record {
  settled = durable (view_at v v.settled);
  sealed = durable (view_at v (framed v));
  noted = durable (book_of v);
  sealing = if is_idle v.phase then [] else effects_between v v.settled v.sealed;
  buffer = effects_from v (framed v);
  phase = v.phase;
  broken = v.broken;
}

-- What every view keeps: the kept history is legal from the base, acknowledged entries are durable, and counted, the numbers are in
-- order, few entries are kept, no session of the base gave more commands than were retired, and after a failed device call a commit
-- or a snapshot stays under way for good.
pub record IsSoundView (v : View) : Type 0 where
  -- invariant 2 of src/lib.rt
  pub well_formed : IsVault v.base
  pub legal : IsLegal v.base (members v.kept)
  -- invariant 3
  pub order : InOrder (length_of v) v.retired v.settled v.sealed v.phase
  -- invariant 4
  pub told : (place : ℕ) → mark_at v.kept place ≡ Some Told → v.retired + place < v.settled
  pub told_least : told_in v.kept ≤ v.told
  pub told_most : v.told ≤ v.retired + told_in v.kept
  -- invariant 5
  pub few : length v.kept ≤ most_kept
  -- by this no session's count reaches its greatest
  pub counts : CountsBelow (v.retired + 1) v.base
  -- invariant 7
  pub busy : v.broken ≡ true → is_idle v.phase ≡ false
