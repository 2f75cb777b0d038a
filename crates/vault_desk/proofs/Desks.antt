-- What each call of the vault leaves of the two lengths that the tallies count.
use Rattle.std.proofs.Common.{◌≡◌, ◌∙◌, ap, ◌+◌, ◌<◌, ◌≤◌, ◌^◌, ℕ, [], ◌∷◌, length, length-append, Bool, true, false, arith, refl, Fits, w64}
use Rattle.std.specs.Prelude.{Result, Ok, Err, OnErr}
use Rattle.vault_model.specs.Said.{Command}
use Rattle.vault_device.specs.declared.device.Fault.{Fault as DeviceFault}
use Rattle.vault_store.specs.declared.phase.Advanced.{Advanced as Pumped}
use Rattle.vault_store.specs.declared.starting.Started.{Started}
use Rattle.vault_store.specs.declared.starting.Started.TheVariants as starts
use Rattle.group_commit.specs.declared.mark.Mark.{Mark}
use Rattle.group_commit.specs.declared.mark.Mark.TheVariants as marks
use Rattle.group_commit.specs.declared.answers.Redeemed.{Redeemed}
use Rattle.group_commit.specs.declared.answers.Redeemed.TheVariants as redeemed
use Rattle.group_commit.specs.declared.answers.Forgotten.{Forgotten}
use Rattle.group_commit.specs.declared.answers.Forgotten.TheVariants as forgotten
use Rattle.group_commit.specs.Entries.{opened, with_mark}
use Rattle.group_commit.specs.History.{entry_of}
use Rattle.group_commit.specs.World.{Stage, StartSnapshot}
use Rattle.group_commit.specs.View.{View, length_of, book_of, view_acted}
use Rattle.group_commit.specs.Seen.{VaultSeen, snapshot_length}
use Rattle.group_commit.specs.Ticket.{TicketSeen, Told}
use Rattle.group_commit.specs.Calls.{IsRedeemed, IsForgotten}
use Rattle.group_commit.proofs.Marks.{length-with_mark}
use Rattle.vault_desk.specs.declared.tally.Totals.{Totals}
use Rattle.vault_desk.specs.Tallies.{IsReceiptFor, IsOfTicket, CountsRedeem}
use Rattle.vault_desk.specs.Pumping.{IsPumped}
use Rattle.vault_desk.specs.AtDesk.{AtDesk}

length_marked : (mark : Mark) (v : View) (position : ℕ) → v.retired + length (with_mark mark v.kept position) ≡ length_of v
length_marked mark v position = ap (λ n. v.retired + n) (length-with_mark mark v.kept position)

pub forget_keeps : {D : Type 0} (old new : VaultSeen D) (claim : TicketSeen) (result : Forgotten) → IsForgotten old new claim result → (length_of new.view ≡ length_of old.view) × (new.view.told ≡ old.view.told)
forget_keeps {D} old new claim forgotten.Here h = (ap (λ (s : VaultSeen D). length_of s.view) h.1 ∙ length_marked marks.Forgotten old.view _, ap (λ (s : VaultSeen D). s.view.told) h.1)
forget_keeps {D} old new claim forgotten.Stranger h = (ap (λ (s : VaultSeen D). length_of s.view) h.0, ap (λ (s : VaultSeen D). s.view.told) h.0)

pub told_counts : {D : Type 0} (A : Type 0) (old new : VaultSeen D) (claim : TicketSeen) (receipt : Told) → IsRedeemed {A = A} old new claim (redeemed.Told receipt) → (length_of new.view ≡ length_of old.view) × (new.view.told ≡ old.view.told + 1) × IsReceiptFor claim receipt
told_counts {D} A old new claim receipt h =
    let r = h.3.receipt in (
      ap (λ (s : VaultSeen D). length_of s.view) h.2 ∙ length_marked marks.Told old.view _,
      ap (λ (s : VaultSeen D). s.view.told) h.2,
      record { position = ap (λ (t : Told). t.position) r; session = ap (λ (t : Told). t.session) r; number = ap (λ (t : Told). t.number) r; command = ap (λ (t : Told). t.command) r },
    )

pumped_from : {D : Type 0} (old new : VaultSeen D) (result : Result Pumped DeviceFault) (broken : Bool) → old.view.broken ≡ broken → IsPumped old result new → (length_of new.view ≡ length_of old.view) × (new.view.told ≡ old.view.told)
pumped_from {D} old new result true e h = let same = (h.broken e).1 in (ap (λ (s : VaultSeen D). length_of s.view) same, ap (λ (s : VaultSeen D). s.view.told) same)
pumped_from {D} old new (Ok answer) false e h = let made = h.pumped e in (ap length_of made, ap (λ (v : View). v.told) made)
pumped_from {D} old new (Err fault) false e h = let made = h.failed.1 in (ap length_of made, ap (λ (v : View). v.told) made)

pub pump_keeps : {D : Type 0} (old new : VaultSeen D) (result : Result Pumped DeviceFault) → IsPumped old result new → (length_of new.view ≡ length_of old.view) × (new.view.told ≡ old.view.told)
pump_keeps old new result h = pumped_from old new result old.view.broken refl h

pub start_keeps : {D E : Type 0} (old new : VaultSeen D) (result : Result Started E) → (result ≡ Ok starts.Yes → new.view ≡ view_acted snapshot_length old.view StartSnapshot) → (result ≡ Ok starts.NotNow → new ≡ old) → OnErr result (new ≡ old)
    → (length_of new.view ≡ length_of old.view) × (new.view.told ≡ old.view.told)
start_keeps old new (Ok starts.Yes) started not_now refused = let made = started refl in (ap length_of made, ap (λ (v : View). v.told) made)
start_keeps {D} old new (Ok starts.NotNow) started not_now refused = let same = not_now refl in (ap (λ (s : VaultSeen D). length_of s.view) same, ap (λ (s : VaultSeen D). s.view.told) same)
start_keeps {D} old new (Err error) started not_now refused = (ap (λ (s : VaultSeen D). length_of s.view) refused, ap (λ (s : VaultSeen D). s.view.told) refused)

-- a share and the opening one lie within a tally
pub least_staged : {inside shown other opening total counted : ℕ} → inside ≡ shown → other ≡ opening → shown + other ≤ total → total ≡ counted → inside + opening ≤ counted
least_staged e f h k = omega arith

pub least_told : {inside shown other opening total counted : ℕ} → inside ≡ shown → other ≡ opening → shown + other ≤ total → total + 1 ≡ counted → inside + 1 + opening ≤ counted
least_told e f h k = omega arith

-- staging makes the history longer by one entry
pub stage_counts : {D : Type 0} (old new : VaultSeen D) (session : ℕ) (command : Command) → new.view ≡ view_acted snapshot_length old.view (Stage session command)
    → (length_of new.view ≡ length_of old.view + 1) × (new.view.told ≡ old.view.told)
stage_counts old new session command made =
    let v = old.view in
    let longer = length-append v.kept (opened (entry_of (book_of v) session command) ∷ []) in
    (omega (arith, ap length_of made, longer), ap (λ (v : View). v.told) made)

-- nothing changes where no receipt comes
pub redeem_keeps : {D A : Type 0} (old new : VaultSeen D) (claim : TicketSeen) (result : Redeemed A) → IsRedeemed old new claim result
    → ((receipt : Told) → result ≡ redeemed.Told receipt → ⊥) → (new ≡ old) × IsOfTicket claim result × ((a b : Totals) → b ≡ a → CountsRedeem a result b)
redeem_keeps old new claim (redeemed.Told receipt) h other = absurd (other receipt refl)
redeem_keeps old new claim (redeemed.NotYet back) h other = (h.1, h.0, λ a b same. same)
redeem_keeps old new claim (redeemed.Stranger back) h other = (h.1, h.0, λ a b same. same)
redeem_keeps old new claim (redeemed.Unknown back) h other = (h.1, h.0, λ a b same. same)
redeem_keeps old new claim (redeemed.NoMemory back) h other = (h.1, h.0, λ a b same. same)

-- a vault that stays is shown as before
pub same_desk : {D : Type 0} (old new : VaultSeen D) (closed : Bool) (waiting : ℕ) (shown : AtDesk D) → new ≡ old
    → record { vault = old; closed = closed; waiting = waiting } ≡ shown → record { vault = new; closed = closed; waiting = waiting } ≡ shown
same_desk {D} old new closed waiting shown same is =
    let P : VaultSeen D → AtDesk D = λ vault. record { vault = vault; closed = closed; waiting = waiting } in
    ap P same ∙ is

-- and the lengths stay
pub same_lengths : {D : Type 0} (old new : VaultSeen D) → new ≡ old → (length_of new.view ≡ length_of old.view) × (new.view.told ≡ old.view.told)
same_lengths {D} old new same = (ap (λ (s : VaultSeen D). length_of s.view) same, ap (λ (s : VaultSeen D). s.view.told) same)

-- what a share counts fits, as it lies within a length that fits
pub counted_fits : (counted more total length : ℕ) → counted + more ≤ total → length ≡ total → length < 2 ^ 64 → Fits w64 counted
counted_fits counted more total length least same fits = omega arith

pub same_on_error : {D A E : Type 0} (result : Result A E) (old new : VaultSeen D) (closed : Bool) (waiting : ℕ) (shown : AtDesk D) → OnErr result (new ≡ old)
    → record { vault = old; closed = closed; waiting = waiting } ≡ shown → OnErr result (record { vault = new; closed = closed; waiting = waiting } ≡ shown)
same_on_error (Ok answer) old new closed waiting shown same is = tt
same_on_error (Err error) old new closed waiting shown same is = same_desk old new closed waiting shown same is
