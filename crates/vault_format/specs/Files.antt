-- The two files of a vault, as relations over their bytes. This project's own.
use Rattle.std.specs.Prelude.{◌≡◌, ◌≢◌, ◌⊎◌, ℕ, ◌<◌, ◌≤◌, ◌^◌, List, [], ◌∷◌, ◌++◌, length, take, slice_index, codes, Option, Some}
use Rattle.std.specs.List.{flat_map, AllByRecursion}
use Rattle.std.specs.Option.{option_and_then}
use Rattle.vault_model.specs.Said.{Effect}
use Rattle.vault_state.specs.Vault.{Vault}
use Rattle.vault_model.specs.After.{after}
use Rattle.vault_journal.specs.Spelling.{in_four, in_eight, records_of, HasRecord}
use Rattle.vault_journal.specs.Gate.{IsClosed}
use Rattle.vault_format.specs.declared.version.FileVersion.{FileVersion}
use Rattle.vault_format.specs.declared.version.FileVersion.TheVariants.{One, Two}
use Rattle.vault_format.specs.Snapshot.{current_version, spelling_of, HasSpelling}
use Rattle.vault_format.specs.declared.sizes.TheConstants.{HEADER}
use Rattle.vault_format.specs.declared.sizes.TheConstants.{MAX_RECORDS, FRAME_EXTRA}

-- how many bytes stand before the snapshot
abbrev pub header : ℕ
header = HEADER

-- how many of these bytes stand before the snapshot's length
abbrev pub head_length : ℕ
head_length = 20

-- the bytes by which a vault's file is known
abbrev pub mark : List ℕ
mark = codes "LLVAULT"

-- the number of a version, as it stands in a file
abbrev pub version_number : FileVersion → ℕ
version_number One = 1
version_number Two = 2

-- the most bytes of a frame's records
abbrev pub most_records : ℕ
most_records = MAX_RECORDS

-- how many bytes a frame has beside its records: its commit mark (the gate) and the records' length
abbrev pub frame_extra : ℕ
frame_extra = FRAME_EXTRA

-- the head of an open file: the gate, the mark, the version and the generation
abbrev pub head_of : FileVersion → ℕ → List ℕ
head_of version generation = 1 ∷ mark ++ in_four (version_number version) ++ in_eight generation

-- the head of the version that is written today
abbrev pub current_head : ℕ → List ℕ
current_head generation = head_of current_version generation

-- a snapshot in the spelling of a version, behind its length
abbrev pub snapshot_bytes : FileVersion → Vault → List ℕ
snapshot_bytes version v = in_four (length (spelling_of version v)) ++ spelling_of version v

-- what a snapshot writes behind the head gate: the rest of the head, the vault, and a closed tail gate
abbrev pub behind_gate : ℕ → Vault → List ℕ
behind_gate generation v =
    mark ++ in_four (version_number current_version) ++ in_eight generation ++ snapshot_bytes current_version v ++ 0 ∷ []

-- a frame of some records, its gate open
abbrev pub frame_bytes : List ℕ → List ℕ
frame_bytes records = 1 ∷ in_four (length records) ++ records

-- the frame of some effects
abbrev pub frame_of : List Effect → List ℕ
frame_of effects = frame_bytes (records_of effects)

-- frames, one after another
abbrev pub frames_bytes : List (List Effect) → List ℕ
frames_bytes frames = flat_map frame_of frames

-- the effects of a frame: one or more, each with a record, and the records are short enough for a frame
pub record IsFrame (effects : List Effect) : Type 0 where
  pub some : effects ≢ []
  pub each : AllByRecursion HasRecord effects
  pub few : length (records_of effects) ≤ most_records

-- the durable vault after effects, one after another, if each is applicable
abbrev pub applied : Vault → List Effect → Option Vault
applied w [] = Some w
applied w (effect ∷ effects) = option_and_then (λ (next : Vault). applied next effects) (after w effect)

-- the durable vault after frames, one after another, if each is applicable
abbrev pub after_frames : Vault → List (List Effect) → Option Vault
after_frames w [] = Some w
after_frames w (frame ∷ frames) = option_and_then (λ (next : Vault). after_frames next frames) (applied w frame)

-- What opening reads: the vault, and for the active file its version, its generation, the offset of its tail gate, and how many
-- bytes its frames have.
pub record Reading : Type 0 where
  pub vault : Vault
  pub version : FileVersion
  pub generation : ℕ
  pub tail : ℕ
  pub journal_length : ℕ

-- These bytes are an open file's, up to its tail gate: the head, a snapshot in the spelling of the file's version, and frames. They
-- lead to the reading.
pub record IsFront (front : List ℕ) (reading : Reading) : Type 0 where
  pub base : Vault
  pub frames : List (List Effect)
  pub spelled : HasSpelling reading.version base
  pub given : 1 ≤ reading.generation
  pub fits : reading.generation < 2 ^ 64
  pub each : AllByRecursion IsFrame frames
  pub bytes : front ≡ (head_of reading.version reading.generation ++ snapshot_bytes reading.version base) ++ frames_bytes frames
  pub leads : after_frames base frames ≡ Some reading.vault
  pub tail_is : reading.tail ≡ length front
  pub journal_is : reading.journal_length ≡ length (frames_bytes frames)

-- a file begins with these bytes, and a closed gate stands behind them; anything may stand behind that
pub record EndsBehind (front file : List ℕ) : Type 0 where
  pub begins : take (length front) file ≡ front
  pub closed : IsClosed (length front) file

-- a file is read as this reading
pub record Holds (file : List ℕ) (reading : Reading) : Type 0 where
  pub front : List ℕ
  pub is_front : IsFront front reading
  pub ends : EndsBehind front file

-- a file that isn't there or isn't whole: it has no whole header, or its head gate is closed
abbrev pub IsClosedFile : List ℕ → Type 0
IsClosedFile file = (length file < header) ⊎ (slice_index file 0 ≢ 1)

-- an open file with a right head, of this version and this generation
pub record HasHead (version : FileVersion) (generation : ℕ) (file : List ℕ) : Type 0 where
  pub long : header ≤ length file
  pub head : take head_length file ≡ head_of version generation
  pub given : 1 ≤ generation
  pub fits : generation < 2 ^ 64

-- an open file with a right head of this generation, whichever its version
abbrev pub HasRightHead : ℕ → List ℕ → Type 0
HasRightHead generation file = (version : FileVersion) × HasHead version generation file

-- the file beside the active one: it is closed, or of a smaller generation. No more of it is read.
abbrev pub IsSpare : ℕ → List ℕ → Type 0
IsSpare generation file = IsClosedFile file ⊎ ((older : ℕ) × (older < generation) × HasRightHead older file)

-- Two files are read as this reading: one of them is, and the other is its spare.
abbrev pub AreRead : List ℕ → List ℕ → Reading → Type 0
AreRead first second reading =
    (Holds first reading × IsSpare reading.generation second) ⊎ (Holds second reading × IsSpare reading.generation first)

-- Two files stand for a vault.
abbrev pub StandFor : List ℕ → List ℕ → Vault → Type 0
StandFor first second vault = (reading : Reading) × AreRead first second reading × (reading.vault ≡ vault)
