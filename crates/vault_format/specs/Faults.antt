-- What is wrong with one file: the first fault in the order in which it is read. This project's own.
use Rattle.std.specs.Prelude.{◌≡◌, ◌≢◌, ◌⊎◌, ℕ, ◌+◌, ◌<◌, ◌≤◌, List, [], ◌++◌, length, take, drop, slice_index, slice_range, Option, Some, None}
use Rattle.std.specs.Int.{w32, from_be_bytes}
use Rattle.std.specs.List.{AllByRecursion}
use Rattle.vault_model.specs.Said.{Effect}
use Rattle.vault_state.specs.Vault.{Vault}
use Rattle.vault_journal.specs.Spelling.{in_four, in_eight}
use Rattle.vault_format.specs.declared.version.FileVersion.{FileVersion}
use Rattle.vault_format.specs.Snapshot.{spelling_of, HasSpelling}
use Rattle.vault_format.specs.Files.{header, head_length, mark, version_number, head_of, snapshot_bytes, frame_of, frames_bytes, IsFrame, applied, after_frames}

-- the mark of a file
abbrev pub mark_in : List ℕ → List ℕ
mark_in file = slice_range file 1 8

-- the four bytes of its version
abbrev pub version_in : List ℕ → List ℕ
version_in file = slice_range file 8 12

-- the eight bytes of its generation
abbrev pub generation_in : List ℕ → List ℕ
generation_in file = slice_range file 12 20

-- how many bytes its snapshot has, as the head says
abbrev pub snapshot_length : List ℕ → ℕ
snapshot_length file = from_be_bytes w32 (slice_range file 20 24)

-- the bytes of its snapshot
abbrev pub snapshot_in : List ℕ → List ℕ
snapshot_in file = slice_range file header (header + snapshot_length file)

-- an open file: its header is whole, and its head gate open
pub record IsOpenFile (file : List ℕ) : Type 0 where
  pub long : header ≤ length file
  pub gate : slice_index file 0 ≡ 1

-- these four bytes are a version's number
abbrev pub IsVersion : FileVersion → List ℕ → Type 0
IsVersion version bytes = bytes ≡ in_four (version_number version)

-- these four bytes are no version's number
abbrev pub IsNoVersion : List ℕ → Type 0
IsNoVersion bytes = (version : FileVersion) → bytes ≢ in_four (version_number version)

-- the version whose number four bytes are, if any
abbrev pub IsVersionFound : List ℕ → Option FileVersion → Type 0
IsVersionFound bytes (Some version) = IsVersion version bytes
IsVersionFound bytes None = IsNoVersion bytes

-- what is wrong with the head of an open file: the mark, the version, or a generation of 0
abbrev pub IsHeadFault : List ℕ → ℕ → Type 0
IsHeadFault file at =
    ((at ≡ 1) × (mark_in file ≢ mark))
    ⊎ ((at ≡ 8) × (mark_in file ≡ mark) × IsNoVersion (version_in file))
    ⊎ ((at ≡ 12) × (mark_in file ≡ mark) × ((version : FileVersion) × IsVersion version (version_in file))
    × (generation_in file ≡ in_eight 0))

-- an open file whose head has a fault
abbrev pub IsDamagedHead : List ℕ → ℕ → Type 0
IsDamagedHead file at = IsOpenFile file × IsHeadFault file at

-- these bytes are no vault's spelling in this version
abbrev pub IsNoSnapshot : FileVersion → List ℕ → Type 0
IsNoSnapshot version bytes = (v : Vault) → HasSpelling version v → bytes ≢ spelling_of version v

-- what is wrong with the snapshot of a file of this version: no byte stands behind it, or its bytes are no vault's spelling
abbrev pub IsSnapshotFault : FileVersion → List ℕ → ℕ → Type 0
IsSnapshotFault version file at =
    ((at ≡ head_length) × (length file ≤ header + snapshot_length file))
    ⊎ ((at ≡ header) × (header + snapshot_length file < length file) × IsNoSnapshot version (snapshot_in file))

-- Where the first broken frame of such a file begins. Before it stand a vault's snapshot and whole frames, which lead to a vault. An
-- open gate stands there, but it begins no frame that is applicable to that vault and has a byte behind it.
pub record IsFrameFault (version : FileVersion) (file : List ℕ) (at : ℕ) : Type 0 where
  pub generation : ℕ
  pub base : Vault
  pub frames : List (List Effect)
  pub vault : Vault
  pub spelled : HasSpelling version base
  pub each : AllByRecursion IsFrame frames
  pub begins : take at file ≡ (head_of version generation ++ snapshot_bytes version base) ++ frames_bytes frames
  pub leads : after_frames base frames ≡ Some vault
  pub within : at < length file
  pub gate : slice_index file at ≡ 1
  pub none : (effects : List Effect) (next : Vault) (behind : List ℕ) → IsFrame effects → applied vault effects ≡ Some next → behind ≢ []
      → drop at file ≢ frame_of effects ++ behind

-- what is wrong behind a right head: the snapshot, or a frame behind a right snapshot
abbrev pub IsBodyFault : FileVersion → List ℕ → ℕ → Type 0
IsBodyFault version file at = IsSnapshotFault version file at ⊎ IsFrameFault version file at
