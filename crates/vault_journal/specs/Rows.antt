-- Records one behind another, and the first fault in bytes.
use Rattle.std.specs.Prelude.{◌≡◌, ◌≢◌, ℕ, List, [], ◌++◌, length}
use Rattle.std.specs.List.{AllByRecursion}
use Rattle.vault_model.specs.Said.{Effect}
use Rattle.vault_journal.specs.Spelling.{record_of, records_of, HasRecord}

-- the bytes are the records of these effects and nothing else
pub record AreRecordsOf (effects : List Effect) (bytes : List ℕ) : Type 0 where
  pub each : AllByRecursion HasRecord effects
  pub whole : bytes ≡ records_of effects

-- the bytes are records, of some effects
pub record AreRecords (bytes : List ℕ) : Type 0 where
  pub effects : List Effect
  pub are : AreRecordsOf effects bytes

-- the first offset where a record should stand and none does: records stand before it, and the bytes from it on begin with none
pub record IsFirstFault (bytes : List ℕ) (at : ℕ) : Type 0 where
  pub before : List Effect
  pub rest : List ℕ
  pub each : AllByRecursion HasRecord before
  pub parts : bytes ≡ records_of before ++ rest
  pub offset : at ≡ length (records_of before)
  pub some : rest ≢ []
  pub none : (effect : Effect) (tail : List ℕ) → HasRecord effect → rest ≢ record_of effect ++ tail
