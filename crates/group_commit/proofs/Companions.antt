-- The two files of a vault are of one vault, over its calls.
use Rattle.std.proofs.Common.{◌≡◌, ℕ, IsTrue, List, subst}
use Rattle.vault_device.specs.Disk.{Disk}
use Rattle.vault_store.specs.Companions.{IsOfOneVault}
use Rattle.vault_store.specs.Laws.{AreHonest}
use Rattle.vault_store.specs.Seen.{StoreSeen, first_of, second_of, Keeps}
use Rattle.vault_store.specs.State.{StoreState}
use Rattle.vault_store.specs.Step.{MayBeLeft}
use Rattle.vault_store.specs.TwoVaults.{AreOfTwoVaults}
use Rattle.group_commit.specs.Seen.{VaultSeen}

-- what the store's call says of it, said of the vault's
module _ {D : Type 0} (disk : D → Disk) (seen old : VaultSeen D) (store : StoreSeen D) (is : seen ≡ old) where
  pub stays : (IsOfOneVault disk seen.store → IsOfOneVault disk store) → IsOfOneVault disk old.store → IsOfOneVault disk store
  stays one_vault = subst (λ (o : VaultSeen D). IsOfOneVault disk o.store → IsOfOneVault disk store) is one_vault

  pub passes : (s : StoreState) → Keeps disk seen.store s
      → ((x y : List ℕ) → Keeps disk seen.store s → IsOfOneVault disk seen.store → IsTrue (disk (first_of seen.store)).honest → IsTrue (disk (second_of seen.store)).honest
      → MayBeLeft (disk (first_of seen.store)) (disk (second_of seen.store)) (disk (first_of store)) (disk (second_of store)) x y → AreOfTwoVaults x y → ⊥)
      → (x y : List ℕ) → IsOfOneVault disk old.store → AreHonest disk old.store
      → MayBeLeft (disk (first_of old.store)) (disk (second_of old.store)) (disk (first_of store)) (disk (second_of store)) x y → AreOfTwoVaults x y → ⊥
  passes s keeps pass =
      subst (λ (o : VaultSeen D). (x y : List ℕ) → IsOfOneVault disk o.store → AreHonest disk o.store
      → MayBeLeft (disk (first_of o.store)) (disk (second_of o.store)) (disk (first_of store)) (disk (second_of store)) x y → AreOfTwoVaults x y → ⊥) is
      (λ x y one_vault honest. pass x y keeps one_vault honest.first honest.second)
