-- What contracts see of a vault in its present life. This project's own.
use Rattle.std.specs.Prelude.{◌≡◌, ◌≢◌, ℕ, ◌+◌, ◌-◌, ◌<◌, ◌≤◌, ◌⊎◌, IsTrue, Bool, true, false, if◌then◌else◌, List, [], ◌∷◌, ◌++◌, length, take, drop, Some}
use Rattle.vault_state.specs.Vault.{Vault, durable}
use Rattle.group_commit.specs.declared.mark.Mark.TheVariants.{Open, Told, Forgotten}
use Rattle.vault_store.specs.declared.phase.Phase.{Phase}
use Rattle.vault_store.specs.declared.phase.Phase.TheVariants.{Idle, Start}
use Rattle.group_commit.specs.Entries.{Kept, opened, mark_at, with_mark, told_in}
use Rattle.group_commit.specs.History.{replay, outcome_of, entry_of, members, effects}
use Rattle.vault_store.specs.Phases.{Row, row, NoCall, settled_by, after_fault, is_opening}
use Rattle.group_commit.specs.Phases.{waiting}
use Rattle.group_commit.specs.World.{World, Act, Stage, Pump, Fault, StartSnapshot, Tell, Forget, Retire, vault_at}

-- the vault after the retired entries, the entries after them with their marks, and, counted from the life's start, how many
-- entries are settled (durable), sealed, retired and told (acknowledged); the phase; whether a device call failed
pub record View : Type 0 where
  pub base : Vault
  pub kept : List Kept
  pub settled : ℕ
  pub sealed : ℕ
  pub retired : ℕ
  pub told : ℕ
  pub phase : Phase
  pub broken : Bool

-- the view of a world
abbrev pub view_of : World → View
view_of w = record {
  base = vault_at w w.retired;
  kept = drop w.retired w.life;
  settled = w.settled;
  sealed = w.sealed;
  retired = w.retired;
  told = told_in w.life;
  phase = w.phase;
  broken = w.broken;
}

-- the view of a vault that was opened: nothing is kept
abbrev pub opened_view : Vault → View
opened_view vault = record { base = vault; kept = []; settled = 0; sealed = 0; retired = 0; told = 0; phase = Idle; broken = false }

-- how many entries the present life has
abbrev pub length_of : View → ℕ
length_of v = v.retired + length v.kept

-- the vault after the first n entries of the life; the retired ones always count, since the base has them
abbrev pub view_at : View → ℕ → Vault
view_at v n = replay v.base (members (take (n - v.retired) v.kept))

-- the vault after all entries
abbrev pub book_of : View → Vault
book_of v = replay v.base (members v.kept)

-- the row of the table that a pump makes here, where a snapshot of a vault has this length
abbrev pub view_row : (Vault → ℕ) → View → Row
view_row snapshot v =
    let unsettled = drop (v.settled - v.retired) v.kept in
    row v.phase (waiting unsettled (effects (view_at v v.settled) unsettled)) (snapshot (durable (view_at v v.sealed)))

-- Where each act is allowed on a view.
abbrev pub ViewAllows : (Vault → ℕ) → View → Act → Type 0
ViewAllows snapshot v (Stage session command) = v.broken ≡ false
ViewAllows snapshot v Pump = v.broken ≡ false
ViewAllows snapshot v Fault = (v.broken ≡ false) × ((view_row snapshot v).call ≢ NoCall)
ViewAllows snapshot v StartSnapshot = (v.broken ≡ false) × (v.phase ≡ Idle)
ViewAllows snapshot v (Tell position) =
    (position < v.settled) × (v.retired ≤ position) × (mark_at v.kept (position - v.retired) ≡ Some Open)
ViewAllows snapshot v (Forget position) = (v.retired ≤ position) × (mark_at v.kept (position - v.retired) ≡ Some Open)
ViewAllows snapshot v Retire = (v.retired < v.settled) × (mark_at v.kept 0 ≢ Some Open)

-- the view after a pump that made this row
abbrev pub view_pumped : Row → View → View
view_pumped r v = record v {
  settled = settled_by r.settles v.settled v.sealed (length_of v);
  sealed = if r.seals then length_of v else v.sealed;
  phase = r.next;
}

-- the view after a pump that failed at this row
abbrev pub view_failed : Row → View → View
view_failed r v = record v {
  sealed = after_fault r.call v.sealed (if r.seals then length_of v else v.sealed);
  phase = after_fault r.call v.phase r.next;
  broken = true;
}

-- the vault after the first of these entries
abbrev pub after_first : Vault → List Kept → Vault
after_first base [] = base
after_first base (kept ∷ rest) = (outcome_of base kept.entry).vault

-- The view after each act.
abbrev pub view_acted : (Vault → ℕ) → View → Act → View
view_acted snapshot v (Stage session command) = record v { kept = v.kept ++ opened (entry_of (book_of v) session command) ∷ [] }
view_acted snapshot v Pump = view_pumped (view_row snapshot v) v
view_acted snapshot v Fault = view_failed (view_row snapshot v) v
view_acted snapshot v StartSnapshot = record v { sealed = length_of v; phase = Start }
view_acted snapshot v (Tell position) = record v { kept = with_mark Told v.kept (position - v.retired); told = v.told + 1 }
view_acted snapshot v (Forget position) = record v { kept = with_mark Forgotten v.kept (position - v.retired) }
view_acted snapshot v Retire = record v { base = after_first v.base v.kept; kept = drop 1 v.kept; retired = v.retired + 1 }

-- what a crash may leave of a vault with this view: the durable vault after the durable entries or, while a gate is being
-- opened, after those or the sealed ones
abbrev pub MayLeave : View → Vault → Type 0
MayLeave v left = (left ≡ durable (view_at v v.settled)) ⊎ (IsTrue (is_opening v.phase) × (left ≡ durable (view_at v v.sealed)))
