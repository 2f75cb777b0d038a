-- The two files of a vault are of one vault, over its calls. This project's own.
use Rattle.std.specs.Prelude.{ℕ, List}
use Rattle.vault_device.specs.Disk.{Disk}
use Rattle.vault_store.specs.Companions.{IsOfOneVault}
use Rattle.vault_store.specs.Laws.{AreHonest}
use Rattle.vault_store.specs.Seen.{first_of, second_of}
use Rattle.vault_store.specs.Step.{MayBeLeft}
use Rattle.vault_store.specs.TwoVaults.{AreOfTwoVaults}
use Rattle.group_commit.specs.Seen.{VaultSeen}

-- a call keeps files of one vault so
abbrev pub StaysOfOneVault : {D : Type 0} → (D → Disk) → VaultSeen D → VaultSeen D → Type 0
StaysOfOneVault disk old new = IsOfOneVault disk old.store → IsOfOneVault disk new.store

-- after a crash at any moment of a call they aren't reported as the files of two vaults
abbrev pub MomentsPass : {D : Type 0} → (D → Disk) → VaultSeen D → VaultSeen D → Type 0
MomentsPass disk old new =
    (x y : List ℕ) → IsOfOneVault disk old.store → AreHonest disk old.store
    → MayBeLeft (disk (first_of old.store)) (disk (second_of old.store)) (disk (first_of new.store)) (disk (second_of new.store)) x y
    → AreOfTwoVaults x y → ⊥

-- Law: after a crash, a vault's files aren't reported as those of two.
abbrev pub FilesPass : {D : Type 0} → (D → Disk) → VaultSeen D → Type 0
FilesPass disk seen =
    (x y : List ℕ) → IsOfOneVault disk seen.store → AreHonest disk seen.store → (disk (first_of seen.store)).IsImage x
    → (disk (second_of seen.store)).IsImage y → AreOfTwoVaults x y → ⊥
