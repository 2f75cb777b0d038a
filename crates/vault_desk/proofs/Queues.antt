-- What a desk said of a claim under its lock is so of a view that its vault came to.
use Rattle.std.proofs.Common.{◌≡◌, ◌≢◌, ◌⊎◌, ℕ, true, false, Option, None, Some, Result, Ok, Err, inl, inr, ap, sym, subst, ◌∙◌}
use Rattle.std.specs.Prelude.{IfSome, IfErr, OnOk}
use Rattle.vault_state.specs.declared.ids.ClaimId.{ClaimId}
use Rattle.vault_model.specs.Said.{Command}
use Rattle.vault_model.specs.declared.commands.Command.TheVariants.{Await}
use Rattle.group_commit.specs.View.{View}
use Rattle.vault_desk.specs.Acts.{GoesOn}
use Rattle.vault_desk.specs.Pumping.{IsAtRest}
use Rattle.vault_desk.specs.Waiting.{IsQueued, HasQueued, WaitsNoMore}
use Rattle.vault_desk.specs.Flushes.{HasFlushed}
use Rattle.vault_desk.specs.declared.flusher.Flushed.{Flushed}
use Rattle.vault_desk.specs.declared.flusher.Flushed.TheVariants as flushes
use Rattle.vault_desk.specs.declared.waits.PendingWait.{PendingWait}

-- a `wait` is kept for a claim that waits
pub kept_queued : (first v : View) (claim : ClaimId) (session : ℕ) (command : Command) (result : Option PendingWait) → command ≡ Await claim → GoesOn first v
    → IfSome result (λ kept. (kept.claim ≡ claim) × (session ≢ 0) × (v.broken ≡ false) × IsQueued v claim)
    → IfSome result (λ kept. (command ≡ Await kept.claim) × (session ≢ 0) × HasQueued first kept.claim)
kept_queued first v claim session command None is on h = tt
kept_queued first v claim session command (Some kept) is on h =
    (is ∙ ap Await (sym h.0), h.1, subst (HasQueued first) (sym h.0) (record { view = v; came = on; whole = h.2; queued = h.3 }))

-- it is let go once its claim doesn't wait
pub goes_moved : (first v : View) (kept : PendingWait) (result : Result ClaimId PendingWait) → GoesOn first v
    → OnOk result ((kept.is_let_go ≡ true) ⊎ (v.broken ≡ true) ⊎ (IsQueued v kept.claim → ⊥)) → OnOk result ((kept.is_let_go ≡ true) ⊎ WaitsNoMore first kept.claim)
goes_moved first v kept (Err back) on h = tt
goes_moved first v kept (Ok claim) on (inl goes) = inl goes
goes_moved first v kept (Ok claim) on (inr moved) = inr (record { view = v; came = on; moved = moved })

-- and else stays
pub stays_queued : (first v : View) (kept : PendingWait) (result : Result ClaimId PendingWait) → GoesOn first v
    → IfErr result (λ back. (back ≡ kept) × (kept.is_let_go ≡ false) × (v.broken ≡ false) × IsQueued v kept.claim)
    → IfErr result (λ back. (back ≡ kept) × (kept.is_let_go ≡ false) × HasQueued first kept.claim)
stays_queued first v kept (Ok claim) on h = tt
stays_queued first v kept (Err back) on h = (h.0, h.1, record { view = v; came = on; whole = h.2; queued = h.3 })

-- a flusher ends as the desk says
pub flushed_so : (first v : View) (why : Option Flushed) (flushed : Flushed) → why ≡ Some flushed → GoesOn first v → (why ≡ Some flushes.Broken → v.broken ≡ true)
    → (why ≡ Some flushes.Closed → IsAtRest v) → HasFlushed first flushed
flushed_so first v why flushes.Closed is on broken closed = record { view = v; came = on; ended = closed is }
flushed_so first v why flushes.Broken is on broken closed = record { view = v; came = on; ended = broken is }
