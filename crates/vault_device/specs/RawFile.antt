-- A file through system calls, which may move fewer bytes than asked.
use Rattle.std.specs.Prelude.{◌≡◌, ℕ, [], false, List, length, take, Option, Result, IfOk, unwrap_or, IsTrue}
use Rattle.std.proofs.lemmas.Bool.{false≢true}
use Rattle.vault_device.specs.Disk.{Disk, IsLawful, IsTornImage, Elapses, overwritten}

-- Some of the bytes were written there: the number returned, or none if a signal came first. At a fault, some or none.
pub record IsPartWrite {E : Type 0} (at : ℕ) (bytes : List ℕ) (result : Result (Option ℕ) E) (old new : Disk) : Type 0 where
  pub shown : IfOk result (λ moved. new.shown ≡ overwritten old.shown at (take (unwrap_or moved 0) bytes))
  pub settled : new.settled ≡ old.settled
  pub images : (x : List ℕ) → new.IsImage x → IsTornImage old at (length bytes) x
  pub time : Elapses old new (IsTornImage old at (length bytes))

-- the disk of a file with these counts of calls and faults
abbrev pub counted : Disk → ℕ → ℕ → Disk
counted disk calls faults = record {
  honest = disk.honest;
  shown = disk.shown;
  settled = disk.settled;
  IsImage = disk.IsImage;
  moment = disk.moment;
  WasImage = disk.WasImage;
  calls = calls;
  faults = faults;
}

pub counted_lawful : (disk : Disk) (calls faults : ℕ) → IsLawful disk → IsLawful (counted disk calls faults)
counted_lawful disk calls faults lawful = record { read = lawful.read; now = lawful.now; only_now = lawful.only_now }

-- what is known of a real file: nothing
abbrev pub unknown : Disk
unknown = record {
  honest = false;
  shown = [];
  settled = [];
  IsImage = λ x. ⊥;
  moment = 0;
  WasImage = λ t x. ⊥;
  calls = 0;
  faults = 0;
}

pub unknown_lawful : IsTrue unknown.honest → IsLawful unknown
unknown_lawful honest = absurd (false≢true honest)

-- a device over a file, as its callers see it
pub record FileDisk (F : Type 0) : Type 0 where
  pub file : F
  pub calls : ℕ
  pub faults : ℕ
