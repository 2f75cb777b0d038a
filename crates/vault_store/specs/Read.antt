-- What the functions that read a file return, part by part. This project's own.
use Rattle.std.specs.Prelude.{◌≡◌, ◌≢◌, ℕ, ◌+◌, ◌<◌, ◌≤◌, IsTrue, List, [], ◌++◌, length, take, drop, slice_index, slice_range, Option, Some, None}
use Rattle.std.specs.List.{AllByRecursion}
use Rattle.vault_model.specs.Said.{Effect}
use Rattle.vault_state.specs.Vault.{Vault}
use Rattle.vault_device.specs.Disk.{Disk, IsRead}
use Rattle.vault_journal.specs.Spelling.{in_four, records_of}
use Rattle.vault_journal.specs.Rows.{AreRecordsOf}
use Rattle.vault_journal.specs.Gate.{IsClosed}
use Rattle.vault_checkout.specs.declared.apply.ApplyError.{ApplyError}
use Rattle.vault_checkout.specs.declared.apply.ApplyError.TheVariants as unmade
use Rattle.vault_format.specs.declared.version.FileVersion.{FileVersion}
use Rattle.vault_store.specs.declared.opening.File.{File}
use Rattle.vault_store.specs.declared.opening.OpenError.{OpenError}
use Rattle.vault_store.specs.declared.opening.OpenError.TheVariants.{NoVault, Damaged, Device, NoMemory}
use Rattle.vault_store.specs.declared.body.ReadError.{ReadError}
use Rattle.vault_store.specs.declared.body.ReadError.TheVariants as errors
use Rattle.vault_format.specs.Snapshot.{spelling_of, HasSpelling}
use Rattle.vault_format.specs.Files.{header, head_length, most_records, frame_extra, snapshot_bytes, frame_of, frames_bytes, IsFrame, applied, after_frames, IsClosedFile, HasHead, HasRightHead}
use Rattle.vault_format.specs.Faults.{version_in, IsVersion, IsSnapshotFault, IsBodyFault}
use Rattle.vault_store.specs.Opening.{IsNewer}
use Rattle.vault_store.specs.Seen.{of_file}
use Rattle.vault_store.specs.Calls.{HasCause, IsCalled, IsQuiet}

-- calls that changed nothing
pub record AreReads (old new : Disk) : Type 0 where
  pub called : IsCalled old new
  pub read : IsTrue old.honest → IsRead old new

-- Why a part of a file was not read: a call failed; an allocation was refused and no call failed; or, if the device is honest, there is
-- this fault at the offset.
abbrev pub IsWhy : Disk → Disk → (ℕ → Type 0) → ReadError → Type 0
IsWhy old new IsWrong (errors.Damaged at) = IsTrue old.honest → IsWrong at
IsWhy old new IsWrong errors.Device = HasCause old new
IsWhy old new IsWrong errors.NoMemory = IsQuiet old new

-- the snapshot of a vault in the spelling of the file's version, which ends in front of this offset, with a byte behind it
pub record IsBaseRead (disk : Disk) (len : ℕ) (version : FileVersion) (base : Vault) (end : ℕ) : Type 0 where
  pub told : IsTrue disk.honest → IsVersion version (version_in disk.shown)
  pub spelled : HasSpelling version base
  pub size : end ≡ header + length (spelling_of version base)
  pub within : end < len
  pub bytes : IsTrue disk.honest → take end disk.shown ≡ take head_length disk.shown ++ snapshot_bytes version base

-- what is wrong with the snapshot of a file, whichever version its head gives
abbrev pub IsBaseFault : List ℕ → ℕ → Type 0
IsBaseFault file at = (version : FileVersion) → IsVersion version (version_in file) → IsSnapshotFault version file at

-- the number of bytes of records of a frame: a frame may have that many, and a byte stands behind them
pub record IsLengthRead (disk : Disk) (len at n : ℕ) : Type 0 where
  pub some : 1 ≤ n
  pub few : n ≤ most_records
  pub within : at + frame_extra + n < len
  pub bytes : IsTrue disk.honest → slice_range disk.shown (at + 1) (at + frame_extra) ≡ in_four n

-- bytes begin with no frame that has a byte behind it
abbrev pub BeginsWithNoFrame : List ℕ → Type 0
BeginsWithNoFrame bytes = (effects : List Effect) (behind : List ℕ) → IsFrame effects → behind ≢ [] → bytes ≢ frame_of effects ++ behind

-- the same for frames whose effects are applicable to this vault
abbrev pub BeginsWithNone : Vault → List ℕ → Type 0
BeginsWithNone vault bytes = (effects : List Effect) (next : Vault) (behind : List ℕ) → IsFrame effects → applied vault effects ≡ Some next
    → behind ≢ [] → bytes ≢ frame_of effects ++ behind

-- the effects whose records these bytes are were applied
pub record AreMade (bytes : List ℕ) (old new : Vault) : Type 0 where
  pub effects : List Effect
  pub records : AreRecordsOf effects bytes
  pub leads : applied old effects ≡ Some new

-- why they were not: the bytes are no records of applicable effects, or an allocation was refused
abbrev pub AreNotMade : List ℕ → Vault → ApplyError → Type 0
AreNotMade bytes old unmade.NotApplicable =
    (effects : List Effect) (next : Vault) → AreRecordsOf effects bytes → applied old effects ≢ Some next
AreNotMade bytes old unmade.NoMemory = Unit {0}

-- a frame stands at an offset and ends before the other; its effects lead from the one vault to the other
pub record IsFrameRead (disk : Disk) (len at next : ℕ) (old new : Vault) : Type 0 where
  pub effects : List Effect
  pub is_frame : IsFrame effects
  pub leads : applied old effects ≡ Some new
  pub size : next ≡ at + (frame_extra + length (records_of effects))
  pub within : next < len
  pub bytes : IsTrue disk.honest → drop at disk.shown ≡ frame_of effects ++ drop next disk.shown

-- the gate is closed and nothing was applied, or a frame was read
abbrev pub IsStepRead : Disk → ℕ → ℕ → Vault → Vault → Option ℕ → Type 0
IsStepRead disk len at old new None = (new ≡ old) × (IsTrue disk.honest → slice_index disk.shown at ≢ 1)
IsStepRead disk len at old new (Some next) = IsFrameRead disk len at next old new

-- an open gate stands here, but no frame with applicable effects
pub record IsNoFrame (vault : Vault) (file : List ℕ) (gate at : ℕ) : Type 0 where
  pub here : at ≡ gate
  pub opened : slice_index file gate ≡ 1
  pub none : BeginsWithNone vault (drop gate file)

-- this many frames stand between two gates, and lead from the one vault to the other
pub record AreFramesRead (disk : Disk) (len from : ℕ) (old new : Vault) (count gate : ℕ) : Type 0 where
  pub frames : List (List Effect)
  pub each : AllByRecursion IsFrame frames
  pub leads : after_frames old frames ≡ Some new
  pub count_is : count ≡ length frames
  pub size : gate ≡ from + length (frames_bytes frames)
  pub within : gate < len
  pub bytes : IsTrue disk.honest → take gate disk.shown ≡ take from disk.shown ++ frames_bytes frames

-- the same, and the last gate is closed
pub record AreAllRead (disk : Disk) (len from : ℕ) (old new : Vault) (count gate : ℕ) : Type 0 where
  pub frames : AreFramesRead disk len from old new count gate
  pub shut : IsTrue disk.honest → slice_index disk.shown gate ≢ 1

-- the first damaged frame, behind frames that lead from a vault to some other
pub record IsFrameWrong (from : ℕ) (old : Vault) (file : List ℕ) (at : ℕ) : Type 0 where
  pub frames : List (List Effect)
  pub vault : Vault
  pub each : AllByRecursion IsFrame frames
  pub leads : after_frames old frames ≡ Some vault
  pub bytes : take at file ≡ take from file ++ frames_bytes frames
  pub within : at < length file
  pub opened : slice_index file at ≡ 1
  pub none : BeginsWithNone vault (drop at file)

-- what a file has behind its head: a snapshot in the spelling of its version, and frames, of this number and this many bytes, that lead
-- from its vault to the other; a closed gate behind them
pub record AreContents (disk : Disk) (version : FileVersion) (vault : Vault) (frames tail journal_length : ℕ) : Type 0 where
  pub base : Vault
  pub list : List (List Effect)
  pub told : IsTrue disk.honest → IsVersion version (version_in disk.shown)
  pub spelled : HasSpelling version base
  pub each : AllByRecursion IsFrame list
  pub leads : after_frames base list ≡ Some vault
  pub frames_are : frames ≡ length list
  pub journal_is : journal_length ≡ length (frames_bytes list)
  pub tail_is : tail ≡ header + length (spelling_of version base) + journal_length
  pub bytes : IsTrue disk.honest
      → take tail disk.shown ≡ (take head_length disk.shown ++ snapshot_bytes version base) ++ frames_bytes list
  pub closed : IsTrue disk.honest → IsClosed tail disk.shown

-- what is wrong behind the head of a file, where that is right
abbrev pub IsFaultBehindHead : List ℕ → ℕ → Type 0
IsFaultBehindHead file at = (version : FileVersion) (generation : ℕ) → HasHead version generation file → IsBodyFault version file at

-- what a file's head was read as: closed, or right and of this generation
abbrev pub IsGenerationRead : List ℕ → Option ℕ → Type 0
IsGenerationRead file None = IsClosedFile file
IsGenerationRead file (Some generation) = HasRightHead generation file

-- why a part of this file was not read, as opening says it
abbrev pub IsWhyNot : Disk → Disk → File → (ℕ → Type 0) → OpenError → Type 0
IsWhyNot old new which IsWrong NoVault = ⊥
IsWhyNot old new which IsWrong (Damaged file at) = (file ≡ which) × (IsTrue old.honest → IsWrong at)
IsWhyNot old new which IsWrong Device = HasCause old new
IsWhyNot old new which IsWrong NoMemory = IsQuiet old new

-- this one of two files is the active one
abbrev pub IsNewerIn : List ℕ → List ℕ → File → ℕ → Type 0
IsNewerIn first second which generation = IsNewer generation (of_file which first second) (of_file which second first)
