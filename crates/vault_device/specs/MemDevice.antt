-- A device in memory, as its callers see it.
use Rattle.std.specs.Prelude.{◌≡◌, ◌⊎◌, ◌+◌, ℕ, ◌-◌, ◌∷◌, min, List, IsErr, OnOk, OnErr, Result}
use Rattle.vault_device.specs.Disk.{Disk, last_count}
use Rattle.vault_device.specs.declared.history.Event.TheVariants.{Wrote}
use Rattle.vault_device.specs.Memory.{Event}
use Rattle.vault_device.specs.MemoryLaws.{memory_disk}

-- all that was done to the device, counts of calls, of faults and of refused allocations, and which call from now is to fail
pub record MemDisk : Type 0 where
  -- all that was done to it, the latest first
  pub history : List Event
  pub calls : ℕ
  pub faults : ℕ
  -- how many allocations were refused; each is a fault, too
  pub refused : ℕ
  -- which call from now is to fail, counted from 1; 0 for none
  pub failing : ℕ

-- what it shows as a device
abbrev pub disk_of : MemDisk → Disk
disk_of device = memory_disk device.history device.calls device.faults

-- One call was counted, and a fault if it failed. It failed if it was the one to fail.
pub record IsCounted {A E : Type 0} (old new : MemDisk) (result : Result A E) : Type 0 where
  pub calls : new.calls ≡ min (old.calls + 1) last_count
  pub failing : new.failing ≡ old.failing - 1
  pub fails : old.failing ≡ 1 → IsErr result
  pub no_fault : OnOk result (new.faults ≡ old.faults)
  pub fault : OnErr result (new.faults ≡ min (old.faults + 1) last_count)

-- What a failed write did: it was the one to fail, and put its bytes in place; or an allocation was refused, and no byte changed.
abbrev pub IsFailedWrite : ℕ → List ℕ → MemDisk → MemDisk → Type 0
IsFailedWrite at bytes old new =
    ((old.failing ≡ 1) × (new.refused ≡ old.refused) × (new.history ≡ Wrote at bytes ∷ old.history))
    ⊎ ((new.refused ≡ min (old.refused + 1) last_count) × (new.history ≡ old.history))
