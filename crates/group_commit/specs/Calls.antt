-- When each answer comes. This project's own.
use Rattle.std.specs.Prelude.{◌≡◌, ◌⊎◌, ℕ, ◌+◌, ◌-◌, ◌^◌, ◌<◌, ◌≤◌, Bool, ◌&&◌, not, true, false, if◌then◌else◌, [], ◌++◌, length, Option, None, Some, slice_get, Result, Ok}
use Rattle.vault_model.specs.Said.{Effect}
use Rattle.vault_state.specs.Vault.{durable}
use Rattle.vault_model.specs.declared.replies.Outside.{Outside}
use Rattle.vault_model.specs.declared.replies.Outside.TheVariants as outsides
use Rattle.vault_device.specs.declared.device.Fault.{Fault as DeviceFault}
use Rattle.vault_journal.specs.Spelling.{record_of, records_of}
use Rattle.vault_store.specs.declared.phase.Advanced.{Advanced as Pumped}
use Rattle.vault_store.specs.declared.phase.Advanced.TheVariants as answers
use Rattle.vault_format.specs.Files.{header, frame_extra}
use Rattle.vault_store.specs.declared.phase.Phase.TheVariants.{Idle}
use Rattle.vault_store.specs.Phases.{is_idle, is_snapshot}
use Rattle.vault_format.specs.Snapshot.{current_version}
use Rattle.vault_store.specs.Seen.{StoreSeen, other, has_room}
use Rattle.group_commit.specs.declared.answers.Redeemed.{Redeemed}
use Rattle.group_commit.specs.declared.answers.Redeemed.TheVariants as redeemed
use Rattle.group_commit.specs.declared.answers.Forgotten.{Forgotten}
use Rattle.group_commit.specs.declared.answers.Forgotten.TheVariants as forgotten
use Rattle.group_commit.specs.declared.answers.Retired.{Retired}
use Rattle.group_commit.specs.declared.answers.Retired.TheVariants as retired
use Rattle.group_commit.specs.Entries.{Kept}
use Rattle.group_commit.specs.World.{Tell, Forget, Retire}
use Rattle.group_commit.specs.View.{View, length_of, view_at, ViewAllows, view_acted}
use Rattle.group_commit.specs.Ticket.{TicketSeen, Told, told_for}
use Rattle.group_commit.specs.Seen.{VaultSeen, snapshot_length, most_kept, effects_between}

-- no more entries are taken: as many are kept as may be, the open buffer or the active file has no room, or no position is left
abbrev pub IsBusy : {D : Type 0} → VaultSeen D → Type 0
IsBusy seen = (most_kept ≤ length seen.view.kept) ⊎ (has_room seen.store ≡ false) ⊎ (length_of seen.view ≡ 2 ^ 64 - 1)

-- why a command wasn't staged, the first of these that applies
abbrev pub IsReason : {D : Type 0} → VaultSeen D → Outside → Type 0
IsReason seen outsides.BadLine = ⊥
IsReason seen outsides.Broken = seen.view.broken ≡ true
IsReason seen outsides.Busy = (seen.view.broken ≡ false) × IsBusy seen
IsReason seen outsides.NoMemory = (seen.view.broken ≡ false) × (IsBusy seen → ⊥)

-- a store with the record of an effect, if there is one, in its buffer
abbrev pub noted : {D : Type 0} → Option Effect → StoreSeen D → StoreSeen D
noted None store = store
noted (Some effect) store = record store { buffer = store.buffer ++ record_of effect }

-- whether a pump makes the spare the active file: the last one of a snapshot does
abbrev pub renews : View → Result Pumped DeviceFault → Bool
renews v (Ok answers.Settled) = is_snapshot v.phase
renews v _ = false

-- how many bytes of frames a pump adds: the whole frame under way, where the pump makes it durable
abbrev pub gained : View → Result Pumped DeviceFault → ℕ
gained v (Ok answers.Settled) = if is_idle v.phase then 0 else frame_extra + length (records_of (effects_between v v.settled v.sealed))
gained v _ = 0

-- where the tail gate stands behind a snapshot of the sealed entries
abbrev pub behind_snapshot : View → ℕ
behind_snapshot v = header + snapshot_length (durable (view_at v v.sealed))

-- where the tail gate stands after a pump
abbrev pub tail_after : View → Result Pumped DeviceFault → ℕ → ℕ
tail_after v result tail = if renews v result then behind_snapshot v else tail + gained v result

-- and the generation of the active file
abbrev pub generation_after : View → Result Pumped DeviceFault → ℕ → ℕ
generation_after v result generation = if renews v result then generation + 1 else generation

-- The active file, its version and its numbers after a pump. The last pump of a commit moves the tail gate behind the frame. The last one
-- of a snapshot exchanges the files: the new active one has the current version, and its tail gate stands behind the snapshot. The first
-- one of a commit empties the buffer, also where its device call fails. No other pump changes them.
pub record AreNumbers {D : Type 0} (old new : VaultSeen D) (result : Result Pumped DeviceFault) : Type 0 where
  pub which : new.store.which ≡ (if renews old.view result then other old.store.which else old.store.which)
  pub version : new.store.version ≡ (if renews old.view result then current_version else old.store.version)
  pub generation : new.store.generation ≡ generation_after old.view result old.store.generation
  pub tail : new.store.tail ≡ tail_after old.view result old.store.tail
  pub journal_length : new.store.journal_length ≡ (if renews old.view result then 0 else old.store.journal_length + gained old.view result)
  pub buffer : new.store.buffer ≡ (if is_idle old.view.phase && not old.view.broken then [] else old.store.buffer)

-- whether a snapshot may be begun: nothing is under way, and there is a next generation
pub record MayStart {D : Type 0} (seen : VaultSeen D) : Type 0 where
  pub idle : seen.view.phase ≡ Idle
  pub fits : seen.store.generation + 1 < 2 ^ 64

-- a ticket names an open entry of this life
abbrev pub NamesOpen : {D : Type 0} → VaultSeen D → TicketSeen → Type 0
NamesOpen seen claim = (claim.life ≡ seen.life) × ViewAllows snapshot_length seen.view (Forget claim.position)

-- the receipt of the entry at a ticket's position
pub record IsReceiptOf (claim : TicketSeen) (v : View) (told : Told) : Type 0 where
  pub kept : Kept
  pub stands : slice_get v.kept (claim.position - v.retired) ≡ Some kept
  pub receipt : told ≡ told_for claim kept.entry.reply

-- What redeeming a ticket did: the reply of a durable entry was handed out; or the ticket came back, and nothing changed.
abbrev pub IsRedeemed : {D A : Type 0} → VaultSeen D → VaultSeen D → TicketSeen → Redeemed A → Type 0
IsRedeemed old new claim (redeemed.Told receipt) =
    (claim.life ≡ old.life)
    × ViewAllows snapshot_length old.view (Tell claim.position)
    × (new ≡ record old { view = view_acted snapshot_length old.view (Tell claim.position) })
    × IsReceiptOf claim old.view receipt
IsRedeemed old new claim (redeemed.NotYet back) =
    (back ≡ claim) × (new ≡ old) × NamesOpen old claim × (old.view.settled ≤ claim.position) × (old.view.broken ≡ false)
IsRedeemed old new claim (redeemed.Unknown back) =
    (back ≡ claim) × (new ≡ old) × NamesOpen old claim × (old.view.settled ≤ claim.position) × (old.view.broken ≡ true)
IsRedeemed old new claim (redeemed.Stranger back) = (back ≡ claim) × (new ≡ old) × (NamesOpen old claim → ⊥)
IsRedeemed old new claim (redeemed.NoMemory back) = (back ≡ claim) × (new ≡ old) × NamesOpen old claim × (claim.position < old.view.settled)

-- What forgetting a ticket did: the open entry that it names was closed; or it names none, and nothing changed.
abbrev pub IsForgotten : {D : Type 0} → VaultSeen D → VaultSeen D → TicketSeen → Forgotten → Type 0
IsForgotten old new claim forgotten.Here =
    NamesOpen old claim × (new ≡ record old { view = view_acted snapshot_length old.view (Forget claim.position) })
IsForgotten old new claim forgotten.Stranger = (new ≡ old) × (NamesOpen old claim → ⊥)

-- What retiring did: the oldest kept entry, which is durable and whose ticket isn't outstanding, went into the base; or it is no such
-- entry, and nothing changed.
abbrev pub IsRetired : {D : Type 0} → VaultSeen D → VaultSeen D → Retired → Type 0
IsRetired old new retired.One =
    ViewAllows snapshot_length old.view Retire × (new ≡ record old { view = view_acted snapshot_length old.view Retire })
IsRetired old new retired.Nothing = (new ≡ old) × (ViewAllows snapshot_length old.view Retire → ⊥)
