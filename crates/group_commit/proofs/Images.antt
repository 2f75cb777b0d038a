-- What a crash leaves of a vault's files.
use Rattle.std.proofs.Common.{◌≡◌, inl, inr, ℕ, Bool, true, false, cond, List, refl, sym, ap, subst}
use Rattle.std.specs.Prelude.{slice_index}
use Rattle.std.proofs.lemmas.Bool.{cases_eq}
use Rattle.vault_state.specs.Vault.{Vault, durable}
use Rattle.vault_device.specs.Disk.{Disk}
use Rattle.vault_format.specs.Files.{StandFor}
use Rattle.vault_store.specs.Phases.{is_opening}
use Rattle.vault_store.specs.Seen.{of_file, Keeps, settled_reading, sealed_reading, gate_at, gated, IsByGate, IsLeftWhile, IsLeft}
use Rattle.vault_store.specs.Laws.{CrashLeavesWhatIsKept, OneGateIsOpened}
use Rattle.vault_store.proofs.Busy.{opening_is_busy}
use Rattle.group_commit.specs.World.{new_world}
use Rattle.group_commit.specs.Runs.{run}
use Rattle.group_commit.specs.View.{View, view_at, MayLeave}
use Rattle.group_commit.specs.Seen.{VaultSeen, state_of}
use Rattle.group_commit.specs.Promises.{ImagesStand, RecoveryGivesOnePrefix}
use Rattle.group_commit.proofs.Sound.{after_run, first_stays}
use Rattle.group_commit.proofs.Recovery.{is_prefix, left_is_recovered}

-- these files stand for a vault that the view allows a crash to leave
abbrev pub Stands : View → List ℕ → List ℕ → Type 0
Stands v x y = (left : Vault) × MayLeave v left × StandFor x y left

sealed_stands : (v : View) → is_opening v.phase ≡ true → (state_of v).sealed ≡ durable (view_at v v.sealed)
sealed_stands v opening = ap (λ b. durable (view_at v (cond b v.settled v.sealed))) (opening_is_busy v.phase opening)

by_gate : {D : Type 0} (seen : VaultSeen D) (gate : ℕ) (file x y : List ℕ) → is_opening seen.view.phase ≡ true
    → IsByGate gate (settled_reading seen.store (state_of seen.view)) (sealed_reading seen.store (state_of seen.view)) file x y → Stands seen.view x y
by_gate seen gate file x y opening left = elim (cases_eq (slice_index file gate) 1) [
  | inl is ↦ ((state_of seen.view).sealed, inr (opening, sealed_stands seen.view opening), (sealed_reading seen.store (state_of seen.view), left.opened is, refl))
  | inr other ↦ ((state_of seen.view).settled, inl refl, (settled_reading seen.store (state_of seen.view), left.shut other, refl))
]

stands : {D : Type 0} (seen : VaultSeen D) (x y : List ℕ) → IsLeft seen.store (state_of seen.view) x y → Stands seen.view x y
stands seen x y = by_phase (is_opening seen.view.phase) refl
  where
    by_phase : (b : Bool) → is_opening seen.view.phase ≡ b → IsLeftWhile b (gate_at seen.store seen.view.phase) (settled_reading seen.store (state_of seen.view)) (sealed_reading seen.store (state_of seen.view)) (gated seen.view.phase (of_file seen.store.which x y) (of_file seen.store.which y x)) x y
        → Stands seen.view x y
    by_phase true e left = by_gate seen (gate_at seen.store seen.view.phase) (gated seen.view.phase (of_file seen.store.which x y) (of_file seen.store.which y x)) x y e left
    by_phase false e left = ((state_of seen.view).settled, inl refl, (settled_reading seen.store (state_of seen.view), left, refl))

pub images_stand : {D : Type 0} (disk : D → Disk) (seen : VaultSeen D) → CrashLeavesWhatIsKept disk → OneGateIsOpened disk → Keeps disk seen.store (state_of seen.view) → ImagesStand disk seen
images_stand disk seen law one keeps = record {
  left = λ x y crash. law seen.store (state_of seen.view) x y keeps crash.0 crash.1 crash.2;
  gate = λ honest opening whole. one seen.store (state_of seen.view) keeps honest opening whole;
  stands = λ x y crash. stands seen x y (law seen.store (state_of seen.view) x y keeps crash.0 crash.1 crash.2);
}

pub one_prefix : {D : Type 0} (disk : D → Disk) (seen : VaultSeen D) → ImagesStand disk seen → RecoveryGivesOnePrefix disk seen
one_prefix disk seen images snapshot events x y is_run same crash =
    let s = after_run snapshot events is_run in
    let w = run snapshot new_world events in
    let left = images.stands x y crash in
    let found = left_is_recovered w left.0 s (subst (λ (v : View). MayLeave v left.0) (sym same) left.1) in
    (found.0, subst (StandFor x y) found.1 left.2, is_prefix w found.0 (first_stays snapshot new_world events) s)
