-- The past of a vault: what was seen of it, call by call, over any number of crashes. This project's own.
use Rattle.std.specs.Prelude.{◌≡◌, ◌⊎◌, ℕ, IsTrue, false, List, [], ◌∷◌}
use Rattle.vault_state.specs.Vault.{Vault}
use Rattle.vault_device.specs.Disk.{Disk}
use Rattle.vault_format.specs.Files.{AreRead}
use Rattle.vault_store.specs.Laws.{AreHonest}
use Rattle.vault_store.specs.Seen.{first_of, second_of, Keeps}
use Rattle.vault_store.specs.Step.{MayBeLeft}
use Rattle.group_commit.specs.World.{Act}
use Rattle.group_commit.specs.View.{opened_view, ViewAllows, view_acted}
use Rattle.group_commit.specs.Seen.{VaultSeen, snapshot_length, state_of, IsSoundView}
use Rattle.group_commit.specs.Promises.{IsCrash, MomentsStand}

-- what every vault is: its view is sound, and its store keeps what the view says
pub record IsOfAVault {D : Type 0} (disk : D → Disk) (seen : VaultSeen D) : Type 0 where
  pub sound : IsSoundView seen.view
  pub stands : Keeps disk seen.store (state_of seen.view)

-- a call made this act, which the view allowed
pub record Makes {D : Type 0} (act : Act) (old new : VaultSeen D) : Type 0 where
  pub allowed : ViewAllows snapshot_length old.view act
  pub made : new.view ≡ view_acted snapshot_length old.view act
  pub life : new.life ≡ old.life

-- a call was answered: it changed nothing, or it made one act
abbrev pub IsAnswered : {D : Type 0} → VaultSeen D → VaultSeen D → Type 0
IsAnswered old new = (new ≡ old) ⊎ ((act : Act) × Makes act old new)

-- A crash at some moment inside a pump left these files. Without it, the pump would have made the other vault; at each moment
-- until then, what `Vault::pump` promises holds.
pub record IsStopInside {D : Type 0} (disk : D → Disk) (seen : VaultSeen D) (x y : List ℕ) : Type 0 where
  pub other : VaultSeen D
  pub whole : seen.view.broken ≡ false
  pub honest : AreHonest disk seen.store
  pub moments : MomentsStand disk seen other
  pub left : MayBeLeft (disk (first_of seen.store)) (disk (second_of seen.store)) (disk (first_of other.store))
      (disk (second_of other.store)) x y

-- a crash at any moment of a pump leaves the files of a crash inside it (`IsStopInside`)
abbrev pub StopsInside : {D : Type 0} → (D → Disk) → VaultSeen D → VaultSeen D → Type 0
StopsInside disk old new =
    (x y : List ℕ) → AreHonest disk old.store
    → MayBeLeft (disk (first_of old.store)) (disk (second_of old.store)) (disk (first_of new.store)) (disk (second_of new.store)) x y
    → IsStopInside disk old x y

-- the machine crashed, between two calls or inside one, and these files were left
abbrev pub IsStop : {D : Type 0} → (D → Disk) → VaultSeen D → List ℕ → List ℕ → Type 0
IsStop disk seen x y = IsCrash disk seen x y ⊎ IsStopInside disk seen x y

-- Two honest devices: whatever a crash now leaves of them, a crash of this vault may leave, too. A vault's own devices are such; so are
-- those that a crash left, and those that an opening of such devices left.
pub record AreLeft {D : Type 0} (disk : D → Disk) (seen : VaultSeen D) (first second : D) : Type 0 where
  pub first_honest : IsTrue (disk first).honest
  pub second_honest : IsTrue (disk second).honest
  pub each : (x y : List ℕ) → (disk first).IsImage x → (disk second).IsImage y → IsStop disk seen x y

-- An opening, whether it gave a vault or was refused, leaves such devices of this vault. Whatever a crash at any moment of it leaves, a
-- crash of this vault may leave, too.
pub record IsOpening {D : Type 0} (disk : D → Disk) (seen : VaultSeen D) (first second first_new second_new : D) : Type 0 where
  pub left : AreLeft disk seen first_new second_new
  pub inside : (x y : List ℕ) → MayBeLeft (disk first) (disk second) (disk first_new) (disk second_new) x y → IsStop disk seen x y

-- it is so for each earlier vault that may have left these devices
abbrev pub StopsInOpening : {D : Type 0} → (D → Disk) → D → D → D → D → Type 0
StopsInOpening disk first second first_new second_new =
    (seen : VaultSeen _) → AreLeft disk seen first second → IsOpening disk seen first second first_new second_new

-- a vault was opened on these files
pub record IsOpenedOn {D : Type 0} (x y : List ℕ) (new : VaultSeen D) : Type 0 where
  pub begins : new.view ≡ opened_view new.view.base
  pub read : AreRead x y (record {
    vault = new.view.base;
    version = new.store.version;
    generation = new.store.generation;
    tail = new.store.tail;
    journal_length = new.store.journal_length;
  })

-- the machine crashed, and another life began on the files that were left
pub record IsReopened {D : Type 0} (disk : D → Disk) (old new : VaultSeen D) : Type 0 where
  pub first : List ℕ
  pub second : List ℕ
  pub left : IsStop disk old first second
  pub opened : IsOpenedOn first second new

-- what may be seen of a vault next
abbrev pub IsNext : {D : Type 0} → (D → Disk) → VaultSeen D → VaultSeen D → Type 0
IsNext disk old new = IsAnswered old new ⊎ IsReopened disk old new

-- All that was seen of a vault before now, the latest first: it began as a vault that was made or opened, and each was next after the
-- one before it.
abbrev pub IsPast : {D : Type 0} → (D → Disk) → VaultSeen D → List (VaultSeen D) → Type 0
IsPast disk now [] = IsOfAVault disk now × (now.view ≡ opened_view now.view.base)
IsPast disk now (old ∷ past) = IsOfAVault disk now × IsNext disk old now × IsPast disk old past

-- The vault with which a past began: the new vault where it was made, and what its files stood for where it was opened, whoever had
-- written them.
abbrev pub beginning : {D : Type 0} → VaultSeen D → List (VaultSeen D) → Vault
beginning now [] = now.view.base
beginning now (old ∷ past) = beginning old past
