-- What redeeming and forgetting a ticket leave.
use Rattle.std.proofs.Common.{◌≡◌, ℕ, ◌+◌, ◌-◌, ◌≤◌, ◌<◌, ◌^◌, List, length, Some, sym, ap, ◌∙◌, subst, arith}
use Rattle.std.specs.Prelude.{slice_get}
use Rattle.vault_model.specs.Said.{Reply}
use Rattle.vault_state.specs.Vault.{Vault}
use Rattle.vault_device.specs.Disk.{Disk}
use Rattle.vault_store.specs.Seen.{Keeps}
use Rattle.group_commit.specs.declared.mark.Mark.{Mark}
use Rattle.group_commit.specs.declared.mark.Mark.TheVariants.{Open, Told as IsTold, Forgotten}
use Rattle.group_commit.specs.Entries.{Kept, mark_at, with_mark}
use Rattle.group_commit.specs.History.{replay}
use Rattle.group_commit.specs.World.{Tell}
use Rattle.group_commit.specs.View.{length_of, ViewAllows, view_acted}
use Rattle.group_commit.specs.Ticket.{TicketSeen, Told, told_for}
use Rattle.group_commit.specs.Seen.{VaultSeen, snapshot_length}
use Rattle.group_commit.specs.Inside.{IsSoundVault}
use Rattle.group_commit.specs.Calls.{NamesOpen, IsReceiptOf}
use Rattle.group_commit.proofs.Marks.{members-with_mark, length-with_mark, entry_there}
use Rattle.group_commit.proofs.Closed.{state_closed}
use Rattle.group_commit.proofs.SoundViews.{told_sound, forgotten_sound, told_fits}

-- a ticket names the open entry at this place
abbrev pub IsOpenAt : {D : Type 0} → VaultSeen D → TicketSeen → ℕ → Type 0
IsOpenAt now claim place = NamesOpen now claim × (place ≡ claim.position - now.view.retired) × (place < length now.view.kept)

is_open : {D : Type 0} (now : VaultSeen D) (claim : TicketSeen) (place : ℕ) → IsOpenAt now claim place → mark_at now.view.kept place ≡ Some Open
is_open now claim place at = ap (mark_at now.view.kept) at.1 ∙ at.0.1.1

stands_at : {D : Type 0} (now : VaultSeen D) (claim : TicketSeen) (place : ℕ) → IsOpenAt now claim place → now.view.retired + place ≡ claim.position
stands_at now claim place at = let is : place ≡ claim.position - now.view.retired = at.1 in let low : now.view.retired ≤ claim.position = at.0.1.0 in omega arith

pub open_here : {D : Type 0} (seen now : VaultSeen D) (claim : TicketSeen) (place : ℕ) → seen ≡ now → IsOpenAt now claim place → mark_at seen.view.kept place ≡ Some Open
open_here seen now claim place same at = is_open seen claim place (subst (λ s. IsOpenAt s claim place) (sym same) at)

-- an entry that is closed is still kept
same_length_fits : {D : Type 0} (mark : Mark) (now : VaultSeen D) (place : ℕ) → length_of now.view < 2 ^ 64 → now.view.retired + length (with_mark mark now.view.kept place) < 2 ^ 64
same_length_fits mark now place fits = subst (λ (n : ℕ). now.view.retired + n < 2 ^ 64) (sym (length-with_mark mark now.view.kept place)) fits

-- forgotten
abbrev forgotten : {D : Type 0} → VaultSeen D → List Kept → VaultSeen D
forgotten seen kept = record seen { view = record seen.view { kept = kept } }

forget_here : {D : Type 0} (disk : D → Disk) (now : VaultSeen D) (book : Vault) (claim : TicketSeen) (place : ℕ) → IsOpenAt now claim place → IsSoundVault disk now book → IsSoundVault disk (forgotten now (with_mark Forgotten now.view.kept place)) book
forget_here disk now book claim place at k = record {
  book_is = k.book_is ∙ ap (replay now.view.base) (sym (members-with_mark Forgotten now.view.kept place));
  sound = forgotten_sound now.view place (is_open now claim place at) k.sound;
  fits = same_length_fits Forgotten now place k.fits;
  stands = subst (Keeps disk now.store) (sym (state_closed now.view (with_mark Forgotten now.view.kept place) now.view.told (members-with_mark Forgotten now.view.kept place))) k.stands;
}

pub forget_kept : {D : Type 0} (disk : D → Disk) (seen now : VaultSeen D) (book : Vault) (claim : TicketSeen) (place : ℕ) (kept : List Kept) → seen ≡ now → IsOpenAt now claim place → kept ≡ with_mark Forgotten seen.view.kept place → IsSoundVault disk seen book
    → IsSoundVault disk (forgotten seen kept) book
forget_kept disk seen now book claim place kept same at closed k =
    subst (λ l. IsSoundVault disk (forgotten seen l) book) (sym closed) (forget_here disk seen book claim place (subst (λ s. IsOpenAt s claim place) (sym same) at) k)

-- an entry acknowledged
abbrev told : {D : Type 0} → VaultSeen D → List Kept → VaultSeen D
told seen kept = record seen { view = record seen.view { kept = kept; told = seen.view.told + 1 } }

tell_here : {D : Type 0} (disk : D → Disk) (now : VaultSeen D) (book : Vault) (claim : TicketSeen) (place : ℕ) → IsOpenAt now claim place → claim.position < now.view.settled → IsSoundVault disk now book → IsSoundVault disk (told now (with_mark IsTold now.view.kept place)) book
tell_here disk now book claim place at below k = record {
  book_is = k.book_is ∙ ap (replay now.view.base) (sym (members-with_mark IsTold now.view.kept place));
  sound = told_sound now.view place (let is = stands_at now claim place at in omega arith) (is_open now claim place at) k.sound;
  fits = same_length_fits IsTold now place k.fits;
  stands = subst (Keeps disk now.store) (sym (state_closed now.view (with_mark IsTold now.view.kept place) (now.view.told + 1) (members-with_mark IsTold now.view.kept place))) k.stands;
}

pub tell_kept : {D : Type 0} (disk : D → Disk) (seen now : VaultSeen D) (book : Vault) (claim : TicketSeen) (place : ℕ) (kept : List Kept) → seen ≡ now → IsOpenAt now claim place → claim.position < seen.view.settled → kept ≡ with_mark IsTold seen.view.kept place → IsSoundVault disk seen book
    → IsSoundVault disk (told seen kept) book
tell_kept disk seen now book claim place kept same at below closed k =
    subst (λ l. IsSoundVault disk (told seen l) book) (sym closed) (tell_here disk seen book claim place (subst (λ s. IsOpenAt s claim place) (sym same) at) below k)

pub one_more_fits : {D : Type 0} (disk : D → Disk) (seen now : VaultSeen D) (book : Vault) (claim : TicketSeen) (place : ℕ) → seen ≡ now → IsOpenAt now claim place → IsSoundVault disk seen book → seen.view.told + 1 < 2 ^ 64
one_more_fits disk seen now book claim place same at k =
    let below : seen.view.told < length_of seen.view = told_fits seen.view place (is_open seen claim place (subst (λ s. IsOpenAt s claim place) (sym same) at)) k.sound in
    let fits : length_of seen.view < 2 ^ 64 = k.fits in
    omega arith

-- what the ticket of an acknowledged entry gives
abbrev pub IsTelling : {D : Type 0} → VaultSeen D → VaultSeen D → TicketSeen → Told → Type 0
IsTelling old new claim receipt =
    (claim.life ≡ old.life)
    × ViewAllows snapshot_length old.view (Tell claim.position)
    × (new ≡ record old { view = view_acted snapshot_length old.view (Tell claim.position) })
    × IsReceiptOf claim old.view receipt

telling_here : {D : Type 0} (now : VaultSeen D) (claim : TicketSeen) (place : ℕ) (reply : Reply) → IsOpenAt now claim place → claim.position < now.view.settled
    → ((k : Kept) → slice_get now.view.kept place ≡ Some k → reply ≡ k.entry.reply) → IsTelling now (told now (with_mark IsTold now.view.kept place)) claim (told_for claim reply)
telling_here now claim place reply at below replies =
    let found = entry_there now.view.kept place Open (is_open now claim place at) in (
      at.0.0,
      (below, at.0.1.0, at.0.1.1),
      ap (λ p. told now (with_mark IsTold now.view.kept p)) at.1,
      record { kept = found.0; stands = ap (slice_get now.view.kept) (sym at.1) ∙ found.1; receipt = ap (told_for claim) (replies found.0 found.1) },
    )

pub tells : {D : Type 0} (seen now : VaultSeen D) (claim : TicketSeen) (place : ℕ) (kept : List Kept) (reply : Reply) (receipt : Told) → seen ≡ now → IsOpenAt now claim place → claim.position < seen.view.settled
    → kept ≡ with_mark IsTold seen.view.kept place → ((k : Kept) → slice_get seen.view.kept place ≡ Some k → reply ≡ k.entry.reply) → receipt ≡ told_for claim reply → IsTelling now (told seen kept) claim receipt
tells seen now claim place kept reply receipt same at below closed replies is =
    subst (λ r. IsTelling now (told seen kept) claim r) (sym is)
    (subst (λ s. IsTelling s (told seen kept) claim (told_for claim reply)) same
    (subst (λ l. IsTelling seen (told seen l) claim (told_for claim reply)) (sym closed)
    (telling_here seen claim place reply (subst (λ s. IsOpenAt s claim place) (sym same) at) below replies)))
