-- What contracts see of a store, and how it keeps vaults. This project's own.
use Rattle.std.specs.Prelude.{◌≡◌, ◌≢◌, ◌⊎◌, ℕ, ◌+◌, ◌<◌, ◌≤◌, ◌^◌, IsTrue, Bool, true, false, ◌&&◌, ◌||◌, nat_le, nat_lt, if◌then◌else◌, List, [], length, slice_index, Some}
use Rattle.std.specs.List.{AllByRecursion}
use Rattle.vault_state.specs.Vault.{Vault}
use Rattle.vault_device.specs.Disk.{Disk}
use Rattle.vault_journal.specs.Spelling.{records_of, HasRecord}
use Rattle.vault_journal.specs.Rows.{AreRecordsOf}
use Rattle.vault_format.specs.declared.version.FileVersion.{FileVersion}
use Rattle.vault_format.specs.declared.version.FileVersion.TheVariants.{One, Two}
use Rattle.vault_store.specs.declared.opening.File.{File}
use Rattle.vault_store.specs.declared.opening.File.TheVariants.{First, Second}
use Rattle.vault_store.specs.declared.phase.Phase.{Phase}
use Rattle.vault_store.specs.declared.phase.Phase.TheVariants.{Idle, Start}
use Rattle.vault_format.specs.Snapshot.{current_version, snapshot_of, HasSnapshot}
use Rattle.vault_format.specs.Files.{header, most_records, frame_extra, applied, Reading, IsFront, IsSpare, AreRead, behind_gate}
use Rattle.vault_store.specs.Phases.{is_idle, is_snapshot, is_opening, may_open}
use Rattle.vault_store.specs.State.{StoreState}
use Rattle.vault_store.specs.OnDisk.{IsOnDisk}
use Rattle.vault_store.specs.declared.store.TheConstants.{MAX_NOTED}
use Rattle.vault_store.specs.Spares.{IsSpareOn}

-- the devices of the active file and of its spare, and which file is the active one; the bytes of the records in the open buffer, and
-- how many bytes the records of the frame under way have; of the active file its version and its generation, where its tail gate
-- stands, and how many bytes its frames have; the phase; whether a device call failed; whether the spare file's head gate is known to be
-- closed; and the bytes that a snapshot writes behind it
pub record StoreSeen (D : Type 0) : Type 0 where
  pub active : D
  pub spare : D
  pub which : File
  pub buffer : List ℕ
  pub sealed : ℕ
  pub version : FileVersion
  pub generation : ℕ
  pub tail : ℕ
  pub journal_length : ℕ
  pub phase : Phase
  pub broken : Bool
  pub shut : Bool
  pub rest : List ℕ

-- the one if the file is the first, else the other: of (the first file's, the second's) the active file's, and of (the active file's,
-- the spare's) the first file's
abbrev pub of_file : {A : Type 0} → File → A → A → A
of_file First one other = one
of_file Second one other = other

-- the other file
abbrev pub other : File → File
other First = Second
other Second = First

-- the device of the first file, active or spare
abbrev pub first_of : {D : Type 0} → StoreSeen D → D
first_of store = of_file store.which store.active store.spare

-- the device of the second file
abbrev pub second_of : {D : Type 0} → StoreSeen D → D
second_of store = of_file store.which store.spare store.active

-- while the buffer has at most this many bytes of records, there is room for any other record
abbrev pub most_noted : ℕ
most_noted = MAX_NOTED

-- no frame may begin at this offset or behind it
abbrev pub last_tail : ℕ
last_tail = 2 ^ 62

-- whether there is room for any record
abbrev pub has_room : {D : Type 0} → StoreSeen D → Bool
has_room store = nat_le (length store.buffer) most_noted && nat_lt store.tail last_tail

-- what opening reads while the frame or the snapshot under way doesn't count
abbrev pub settled_reading : {D : Type 0} → StoreSeen D → StoreState → Reading
settled_reading store s = record {
  vault = s.settled;
  version = store.version;
  generation = store.generation;
  tail = store.tail;
  journal_length = store.journal_length;
}

-- what opening reads once the frame under way counts, or the snapshot, which is of today's version
abbrev pub counted_reading : {D : Type 0} → Bool → StoreSeen D → StoreState → Reading
counted_reading renews store s = record {
  vault = s.sealed;
  version = if renews then current_version else store.version;
  generation = if renews then store.generation + 1 else store.generation;
  tail = if renews then header + length (snapshot_of s.sealed) else store.tail + frame_extra + store.sealed;
  journal_length = if renews then 0 else store.journal_length + frame_extra + store.sealed;
}

-- what opening reads once all that is under way counts
abbrev pub sealed_reading : {D : Type 0} → StoreSeen D → StoreState → Reading
sealed_reading store s = counted_reading (is_snapshot s.phase) store s

-- The gate that a phase opens: the active file's tail gate or, in a snapshot, the spare's head gate. `gate_at` is its offset, and
-- `gated` picks the file that it stands in.
abbrev pub gate_at : {D : Type 0} → StoreSeen D → Phase → ℕ
gate_at store phase = if is_snapshot phase then 0 else store.tail

abbrev pub gated : {A : Type 0} → Phase → A → A → A
gated phase active spare = if is_snapshot phase then spare else active

-- the files of a store, of honest devices
pub record AreFiles (active_disk spare_disk : Disk) (settled : Reading) (phase : Phase) (broken : Bool) (records : List ℕ) (shut : Bool)
    (rest : List ℕ) : Type 0 where
  -- the bytes up to the tail gate
  pub front : List ℕ
  pub is_front : IsFront front settled
  pub active : IsOnDisk active_disk phase broken front records
  pub spare : IsSpareOn (IsSpare settled.generation) spare_disk phase broken shut rest

-- The snapshot under way: the sealed vault has a spelling, which is written in a file of the next generation.
pub record IsRenewal (generation : ℕ) (sealed : Vault) (rest : List ℕ) : Type 0 where
  pub spelled : HasSnapshot sealed
  pub fits : generation + 1 < 2 ^ 64
  pub bytes : rest ≡ behind_gate (generation + 1) sealed

-- whether a version is not today's
abbrev pub is_old : FileVersion → Bool
is_old One = true
is_old Two = false

-- a snapshot is wanted from this many bytes of frames on
abbrev pub long_journal : ℕ
long_journal = 1048576

-- whether nothing is under way, and a snapshot is wanted: the frames are that long, or the active file's version is not today's
abbrev pub wants_snapshot : {D : Type 0} → StoreSeen D → Bool
wants_snapshot store = is_idle store.phase && (nat_le long_journal store.journal_length || is_old store.version)

-- whether a snapshot may be begun: nothing is under way, no device call failed, and there is a next generation
pub record MayStart {D : Type 0} (store : StoreSeen D) : Type 0 where
  pub idle : store.phase ≡ Idle
  pub whole : store.broken ≡ false
  pub fits : store.generation + 1 < 2 ^ 64

-- a snapshot of this vault is begun
abbrev pub started_seen : {D : Type 0} → StoreSeen D → Vault → StoreSeen D
started_seen store v = record store { buffer = []; phase = Start; rest = behind_gate (store.generation + 1) v }

-- how many bytes of records the frame under way has; a snapshot writes none
abbrev pub framed_bytes : StoreState → ℕ
framed_bytes s = if is_snapshot s.phase then 0 else length (records_of s.sealing)

-- A store keeps a durable (settled) vault, a sealed one and the one after all effects.
pub record Keeps {D : Type 0} (disk : D → Disk) (store : StoreSeen D) (s : StoreState) : Type 0 where
  pub phase : store.phase ≡ s.phase
  pub broken : store.broken ≡ s.broken
  pub spelled : HasSnapshot s.settled
  -- the effects of the frame or the snapshot under way; a frame has some, and room for all
  pub sealing : AllByRecursion HasRecord s.sealing
  pub few : is_snapshot s.phase ≡ false → length (records_of s.sealing) ≤ most_records
  pub sealed_bytes : store.sealed ≡ framed_bytes s
  pub under_way : is_idle s.phase ≡ false → is_snapshot s.phase ≡ false → s.sealing ≢ []
  pub none : is_idle s.phase ≡ true → s.sealing ≡ []
  pub sealed : applied s.settled s.sealing ≡ Some s.sealed
  -- the effects behind them
  pub buffer : AreRecordsOf s.buffer store.buffer
  pub noted : applied s.sealed s.buffer ≡ Some s.noted
  pub renewal : is_snapshot s.phase ≡ true → IsRenewal store.generation s.sealed store.rest
  pub files : IsTrue (disk store.active).honest → IsTrue (disk store.spare).honest
      → AreFiles (disk store.active) (disk store.spare) (settled_reading store s) s.phase s.broken
      (records_of s.sealing) store.shut store.rest

-- what two files are read as, by the gate that is being opened in one of them
pub record IsByGate (gate : ℕ) (settled sealed : Reading) (file first second : List ℕ) : Type 0 where
  pub opened : slice_index file gate ≡ 1 → AreRead first second sealed
  pub shut : slice_index file gate ≢ 1 → AreRead first second settled

-- the same while a gate is being opened; else they are read as the durable vault
abbrev pub IsLeftWhile : Bool → ℕ → Reading → Reading → List ℕ → List ℕ → List ℕ → Type 0
IsLeftWhile true gate settled sealed file first second = IsByGate gate settled sealed file first second
IsLeftWhile false gate settled sealed file first second = AreRead first second settled

-- What two files that a crash leaves are read as: the durable vault or, while a gate is being opened, the sealed one exactly if that
-- gate is 1.
abbrev pub IsLeft : {D : Type 0} → StoreSeen D → StoreState → List ℕ → List ℕ → Type 0
IsLeft store s first second =
    IsLeftWhile (is_opening s.phase) (gate_at store s.phase) (settled_reading store s) (sealed_reading store s)
    (gated s.phase (of_file store.which first second) (of_file store.which second first)) first second

-- what two files that a crash inside a step leaves are read as: the durable vault, or the sealed one where a gate may be opened
abbrev pub IsLeftInside : {D : Type 0} → StoreSeen D → StoreState → List ℕ → List ℕ → Type 0
IsLeftInside store s first second =
    AreRead first second (settled_reading store s) ⊎ (IsTrue (may_open s.phase) × AreRead first second (sealed_reading store s))
