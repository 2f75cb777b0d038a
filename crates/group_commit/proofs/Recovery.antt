-- What recovery gives after a run.
use Rattle.std.proofs.Common.{◌≡◌, ◌⊎◌, inl, inr, ⊎_elim, ◌+◌, ℕ, ◌≤◌, Bool, true, false, cond, [], ◌∷◌, ◌++◌, length, take, drop, refl, sym, ap, ◌∙◌, arith}
use Rattle.std.specs.Prelude.{IsTrue}
use Rattle.std.proofs.lemmas.List.{take_at, append-nil}
use Rattle.vault_state.specs.Vault.{Vault, new_vault, durable}
use Rattle.group_commit.specs.History.{Restart, replay, members}
use Rattle.vault_store.specs.Phases.{is_opening}
use Rattle.vault_store.proofs.Busy.{opening_is_busy}
use Rattle.group_commit.specs.World.{World, history, history_to, vault_at, GateLeft, StaysClosed, IsOpen, kept_by, crashed, recovered}
use Rattle.group_commit.specs.View.{view_of, opened_view, view_at, MayLeave}
use Rattle.group_commit.specs.Laws.{IsPrefix}
use Rattle.group_commit.proofs.Folds.{replay-append, members_rest}
use Rattle.group_commit.proofs.Sound.{IsSound}
use Rattle.group_commit.proofs.Stays.{keeps_settled, keeps_at_most_all, length-history_to}
use Rattle.group_commit.proofs.ViewLaw.{view_at_is}

pub prefix_is : (w : World) (n : ℕ) → n ≤ length w.life → history_to w n ≡ take (length w.earlier + n) (history w)
prefix_is w n h = sym (ap (λ l. take (length w.earlier + n) l) (sym (members_rest w.earlier n w.life)) ∙ take_at (history_to w n) (members (drop n w.life)) (length w.earlier + n) (length-history_to w n h))

cut_is : (w : World) (gate : GateLeft) → (kept_by w gate ≡ w.settled) ⊎ (IsTrue (is_opening w.phase) × (kept_by w gate ≡ w.sealed))
cut_is w StaysClosed = inl refl
cut_is w IsOpen = by_phase (is_opening w.phase)
  where
    by_phase : (b : Bool) → (cond b w.sealed w.settled ≡ w.settled) ⊎ (IsTrue b × (cond b w.sealed w.settled ≡ w.sealed))
    by_phase true = inr (refl, refl)
    by_phase false = inl refl

pub is_prefix : (w : World) (gate : GateLeft) → w.first ≡ new_vault → IsSound w → IsPrefix w gate
is_prefix w gate new s = record {
  cut = cut_is w gate;
  prefix =
      ap (λ l. durable (replay w.first l)) (prefix_is w (kept_by w gate) (keeps_at_most_all w gate s))
      ∙ ap (λ (v : Vault). durable (replay v (take (length w.earlier + kept_by w gate) (history w)))) new;
  told = λ position e. omega (arith, s.marks.told position e, keeps_settled w gate s);
  claims = refl;
}

-- the world after a crash is seen as a vault that was opened
pub crashed_view : (w : World) (gate : GateLeft) → view_of (crashed w gate) ≡ opened_view (recovered w gate)
crashed_view w gate =
    let e = ap (replay w.first) (append-nil (history_to w (kept_by w gate) ++ Restart ∷ [])) ∙ replay-append w.first (history_to w (kept_by w gate)) (Restart ∷ []) in
    λ i. opened_view (e i)

-- what a crash may leave is what recovery gives
pub left_is_recovered : (w : World) (left : Vault) → IsSound w → MayLeave (view_of w) left → (gate : GateLeft) × (left ≡ recovered w gate)
left_is_recovered w left s may = ⊎_elim
    (λ (e : left ≡ durable (view_at (view_of w) w.settled)). (StaysClosed, e ∙ ap durable (view_at_is w w.settled s.order.retired_settled)))
    (λ (e : IsTrue (is_opening w.phase) × (left ≡ durable (view_at (view_of w) w.sealed))).
    let more : w.settled ≤ w.sealed = s.order.sealing (opening_is_busy w.phase e.0) in
    let kept = ap (λ b. durable (vault_at w (cond b w.sealed w.settled))) e.0 in
    (IsOpen, e.1 ∙ ap durable (view_at_is w w.sealed (omega (arith, more, s.order.retired_settled))) ∙ sym kept))
    may
