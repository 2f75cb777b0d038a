-- What a pump under the lock does. This project's own.
use Rattle.std.specs.Prelude.{◌≡◌, true, false, Result, Ok, IfOk, OnOk, OnErr}
use Rattle.vault_device.specs.declared.device.Fault.{Fault as DeviceFault}
use Rattle.vault_store.specs.declared.phase.Phase.TheVariants.{Idle}
use Rattle.vault_store.specs.declared.phase.Advanced.{Advanced as Pumped}
use Rattle.vault_store.specs.declared.phase.Advanced.TheVariants as answers
use Rattle.group_commit.specs.World.{Pump, Fault}
use Rattle.group_commit.specs.View.{View, length_of, view_row, ViewAllows, view_acted}
use Rattle.group_commit.specs.Seen.{VaultSeen, snapshot_length}

-- a broken vault stays as it is; else the step in the phase table's row was made, or its device call failed and broke the vault
pub record IsPumped {D : Type 0} (old : VaultSeen D) (result : Result Pumped DeviceFault) (new : VaultSeen D) : Type 0 where
  pub broken : old.view.broken ≡ true → (result ≡ Ok answers.Broken) × (new ≡ old)
  pub answer : old.view.broken ≡ false → IfOk result (λ answer. answer ≡ (view_row snapshot_length old.view).answer)
  pub pumped : old.view.broken ≡ false → OnOk result (new.view ≡ view_acted snapshot_length old.view Pump)
  pub failed : OnErr result (ViewAllows snapshot_length old.view Fault × (new.view ≡ view_acted snapshot_length old.view Fault))
  pub life : new.life ≡ old.life

-- every entry is durable, and neither a commit nor a snapshot is under way
abbrev pub IsAtRest : View → Type 0
IsAtRest v = (v.settled ≡ length_of v) × (v.phase ≡ Idle)
