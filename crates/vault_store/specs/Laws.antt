-- What is promised of the files of a store. This project's own.
use Rattle.std.specs.Prelude.{◌≡◌, ◌≢◌, ℕ, IsTrue, true, false, List, slice_index}
use Rattle.vault_state.specs.Vault.{Vault}
use Rattle.vault_device.specs.Disk.{Disk}
use Rattle.vault_journal.specs.Gate.{SameBut}
use Rattle.vault_store.specs.declared.opening.OpenError.{OpenError}
use Rattle.vault_format.specs.Snapshot.{HasSnapshot}
use Rattle.vault_format.specs.Files.{Reading, AreRead, StandFor}
use Rattle.vault_store.specs.Opening.{IsNotOpened, IsFound}
use Rattle.vault_store.specs.Phases.{is_opening}
use Rattle.vault_store.specs.State.{StoreState}
use Rattle.vault_store.specs.Seen.{StoreSeen, first_of, second_of, gate_at, gated, Keeps, IsLeft}

-- the devices of both files of a store are honest
pub record AreHonest {D : Type 0} (disk : D → Disk) (store : StoreSeen D) : Type 0 where
  pub first : IsTrue (disk (first_of store)).honest
  pub second : IsTrue (disk (second_of store)).honest

-- what a crash may leave of a store's files is read as what it keeps
abbrev pub CrashLeavesWhatIsKept : {D : Type 0} → (D → Disk) → Type 0
CrashLeavesWhatIsKept {D} disk = (store : StoreSeen D) (s : StoreState) (x y : List ℕ) → Keeps disk store s → AreHonest disk store
    → (disk (first_of store)).IsImage x → (disk (second_of store)).IsImage y → IsLeft store s x y

-- a crash may change only this byte of a file; a read gives 1 there, and the durable byte isn't 1
pub record IsOneGate (disk : Disk) (gate : ℕ) : Type 0 where
  pub same : (x : List ℕ) → disk.IsImage x → SameBut gate disk.shown x
  pub opened : slice_index disk.shown gate ≡ 1
  pub was_shut : slice_index disk.settled gate ≢ 1

-- while a gate is being opened, and before a device call failed, it is such a byte of its file
abbrev pub OneGateIsOpened : {D : Type 0} → (D → Disk) → Type 0
OneGateIsOpened {D} disk = (store : StoreSeen D) (s : StoreState) → Keeps disk store s → AreHonest disk store → is_opening s.phase ≡ true
    → s.broken ≡ false → IsOneGate (disk (gated s.phase store.active store.spare)) (gate_at store s.phase)

-- the vault after all noted effects has a spelling
abbrev pub NotedIsSpelled : {D : Type 0} → (D → Disk) → Type 0
NotedIsSpelled {D} disk = (store : StoreSeen D) (s : StoreState) → Keeps disk store s → HasSnapshot s.noted

-- two files are read in at most one way
abbrev pub OneReading : Type 0
OneReading = (first second : List ℕ) (r q : Reading) → AreRead first second r → AreRead first second q → r ≡ q

-- and the same way in either order
abbrev pub EitherWay : Type 0
EitherWay = (first second : List ℕ) (r : Reading) → AreRead first second r → AreRead second first r

-- so they stand for at most one vault
abbrev pub OneVault : Type 0
OneVault = (first second : List ℕ) (v w : Vault) → StandFor first second v → StandFor first second w → v ≡ w

-- where two files stand for a vault, nothing is wrong with them
abbrev pub NothingIsWrong : Type 0
NothingIsWrong =
    (first second : List ℕ) (why : OpenError) → IsFound why → IsNotOpened first second why → (v : Vault) → StandFor first second v → ⊥

-- at most one thing is the first that is wrong with two files
abbrev pub OneFault : Type 0
OneFault = (first second : List ℕ) (why other : OpenError) → IsFound why → IsFound other → IsNotOpened first second why
    → IsNotOpened first second other → why ≡ other
