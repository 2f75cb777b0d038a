-- The two files of a store are of one vault. This project's own.
use Rattle.std.specs.Prelude.{◌≡◌, ℕ, ◌+◌, IsTrue, Bool, List}
use Rattle.vault_state.specs.Vault.{Vault}
use Rattle.vault_device.specs.Disk.{Disk}
use Rattle.vault_format.specs.Files.{HasRightHead}
use Rattle.vault_store.specs.declared.phase.Phase.{Phase}
use Rattle.vault_store.specs.Earlier.{IsEarlier}
use Rattle.vault_store.specs.Laws.{AreHonest}
use Rattle.vault_store.specs.Seen.{StoreSeen, first_of, second_of, Keeps}
use Rattle.vault_store.specs.Spares.{IsSpareOn}
use Rattle.vault_store.specs.State.{StoreState}
use Rattle.vault_store.specs.TwoVaults.{LeadsTo, IsBasedOn, AreOfTwoVaults}

-- What may stand beside a file of this generation whose snapshot is of this vault. If its head is right, it is of the generation
-- before, and it leads to no vault that isn't an earlier state of this one.
abbrev pub MayPrecede : ℕ → Vault → List ℕ → Type 0
MayPrecede generation base file = (older : ℕ) → HasRightHead older file
    → (older + 1 ≡ generation) × ((vault : Vault) → LeadsTo older file vault → (IsEarlier vault base → ⊥) → ⊥)

-- Whatever a crash leaves of the active file has a snapshot of one vault, and beside it stands what may precede that.
pub record AreCompanions (active spare : Disk) (generation : ℕ) (phase : Phase) (broken shut : Bool) (rest : List ℕ) : Type 0 where
  pub base : Vault
  pub based : (x : List ℕ) → active.IsImage x → IsBasedOn generation x base
  pub beside : IsSpareOn (MayPrecede generation base) spare phase broken shut rest

-- the two files of a store, of honest devices, are of one vault
abbrev pub IsOfOneVault : {D : Type 0} → (D → Disk) → StoreSeen D → Type 0
IsOfOneVault disk store = IsTrue (disk store.active).honest → IsTrue (disk store.spare).honest
    → AreCompanions (disk store.active) (disk store.spare) store.generation store.phase store.broken store.shut store.rest

-- Law: whatever a crash leaves of them isn't reported as the files of two vaults.
abbrev pub FilesPass : {D : Type 0} → (D → Disk) → Type 0
FilesPass {D} disk = (store : StoreSeen D) (s : StoreState) (x y : List ℕ) → Keeps disk store s → IsOfOneVault disk store
    → AreHonest disk store → (disk (first_of store)).IsImage x → (disk (second_of store)).IsImage y → AreOfTwoVaults x y → ⊥
