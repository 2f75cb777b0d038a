-- A vault at the beginning of a life. This project's own.
use Rattle.std.specs.Prelude.{◌≡◌, ℕ, IsTrue, [], Result, Ok, Err}
use Rattle.vault_state.specs.Vault.{Vault}
use Rattle.vault_device.specs.Disk.{Disk}
use Rattle.vault_store.specs.declared.creation.CreateError.{CreateError}
use Rattle.vault_store.specs.declared.creation.CreateError.TheVariants.{Exists, Device, NoMemory}
use Rattle.vault_store.specs.Create.{IsNotMade, ShowTheSame}
use Rattle.vault_store.specs.declared.refused.Refused.{Refused}
use Rattle.vault_store.specs.declared.opening.OpenError.{OpenError}
use Rattle.vault_store.specs.declared.opening.OpenError.TheVariants as open_errors
use Rattle.vault_format.specs.Snapshot.{current_version}
use Rattle.vault_store.specs.Seen.{StoreSeen, first_of, second_of}
use Rattle.group_commit.specs.View.{opened_view}
use Rattle.group_commit.specs.Seen.{VaultSeen}

-- the numbers of an active file of the current version: its generation, its tail gate, and how many bytes of frames it has; nothing waits
-- in the buffer
pub record Begins {D : Type 0} (store : StoreSeen D) (generation tail journal_length : ℕ) : Type 0 where
  pub version_is : store.version ≡ current_version
  pub generation_is : store.generation ≡ generation
  pub tail_is : store.tail ≡ tail
  pub journal_is : store.journal_length ≡ journal_length
  pub buffer_is : store.buffer ≡ []

-- Why no vault was made. Memory is asked for before a file is looked at, and once more after that.
abbrev pub IsNotCreated : Disk → Disk → Disk → Disk → CreateError → Type 0
IsNotCreated first second first_new second_new Exists = IsNotMade first second first_new second_new Exists
IsNotCreated first second first_new second_new Device = IsNotMade first second first_new second_new Device
IsNotCreated first second first_new second_new NoMemory =
    IsTrue first.honest → IsTrue second.honest → ShowTheSame first second first_new second_new

-- a vault that begins over a store and its book
pub record IsBegun {D : Type 0} (store : StoreSeen D) (book : Vault) (life : ℕ) (new : VaultSeen D) : Type 0 where
  pub view_is : new.view ≡ opened_view book
  pub store_is : new.store ≡ store
  pub life_is : new.life ≡ life

-- memory for it was refused, and the store's devices are handed back
pub record IsNotBegun {D : Type 0} (store : StoreSeen D) (refused : Refused D OpenError) : Type 0 where
  pub why_is : refused.why ≡ open_errors.NoMemory
  pub first_is : refused.first ≡ first_of store
  pub second_is : refused.second ≡ second_of store

-- What becomes of an opening of a store: its refusal is handed on as it is; else a vault begins over the store, or memory was refused.
abbrev pub IsHandedOver : {D : Type 0} → Result (StoreSeen D × Vault) (Refused D OpenError) → ℕ → Result (VaultSeen D) (Refused D OpenError)
    → Type 0
IsHandedOver (Err refused) life result = result ≡ Err refused
IsHandedOver (Ok opened) life (Ok new) = IsBegun opened.0 opened.1 life new
IsHandedOver (Ok opened) life (Err refused) = IsNotBegun opened.0 refused
