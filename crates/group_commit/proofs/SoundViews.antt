-- Each call keeps the view sound.
use Rattle.std.proofs.Common.{◌≡◌, ◌≢◌, inl, inr, ℕ, ◌+◌, ◌≤◌, ◌<◌, Bool, true, false, [], ◌∷◌, ◌++◌, length, Some, refl, sym, ap, ◌∙◌, subst, arith, length-append}
use Rattle.std.proofs.lemmas.Bool.{cases_eq}
use Rattle.std.proofs.lemmas.List.{take_all}
use Rattle.std.proofs.lemmas.List.Elements.{All-nil}
use Rattle.vault_model.specs.Said.{Command}
use Rattle.vault_state.specs.declared.session.Session.{Session}
use Rattle.vault_state.specs.Vault.{Vault, IsVault, CountsBelow}
use Rattle.vault_model.specs.After.{IsDurable}
use Rattle.vault_store.specs.declared.phase.Phase.{Phase}
use Rattle.vault_store.specs.declared.phase.Phase.TheVariants.{Start}
use Rattle.vault_store.specs.Phases.{NoCall, is_idle}
use Rattle.group_commit.specs.declared.mark.Mark.{Mark}
use Rattle.group_commit.specs.declared.mark.Mark.TheVariants.{Open, Told, Forgotten}
use Rattle.group_commit.specs.Entries.{opened, mark_at, with_mark, told_in}
use Rattle.group_commit.specs.History.{replay, IsLegal, entry_of, members}
use Rattle.group_commit.specs.Phases.{InOrder}
use Rattle.group_commit.specs.World.{Pump, Fault, StartSnapshot}
use Rattle.group_commit.specs.View.{View, length_of, book_of, opened_view, view_row, view_acted}
use Rattle.group_commit.specs.Seen.{snapshot_length, most_kept, IsSoundView}
use Rattle.group_commit.proofs.Folds.{legal_append, members-append}
use Rattle.group_commit.proofs.Marks.{members-with_mark, length-with_mark, mark_same, mark_other, mark_below, told_before, told_open, told_one_more, told_same, told_below_length}
use Rattle.group_commit.proofs.Order.{fault_is_busy, order_row, order_fault, order_start, more_settled}
use Rattle.group_commit.proofs.Sound.{some_mark}
use Rattle.group_commit.proofs.Counts.{weaker, counts_after}
use Rattle.group_commit.proofs.States.{staged}

-- an opened vault
pub opened_sound : (base : Vault) → IsVault base → IsDurable base → IsSoundView (opened_view base)
opened_sound base w d = record {
  well_formed = w;
  legal = tt;
  order = record { retired_settled = omega arith; settled_all = omega arith; sealed_all = omega arith; sealing = λ _. omega arith };
  told = λ p e. absurd (cc);
  told_least = omega arith;
  told_most = omega arith;
  few = omega arith;
  counts = subst (CountsBelow 1) d (record { door = omega arith; each = All-nil (λ (x : Session). x.count < 1) });
  busy = λ e. absurd (cc);
}

-- a staged command
pub staged_sound : (v : View) (session : ℕ) (command : Command) → length v.kept < most_kept → IsSoundView v → IsSoundView (staged v session command)
staged_sound v session command room s =
    let entry = entry_of (book_of v) session command in
    let x = opened entry ∷ [] in
    let more : length (v.kept ++ x) ≡ length v.kept + 1 = length-append v.kept x in
    let same : told_in (v.kept ++ x) ≡ told_in v.kept = told_open v.kept entry in
    record {
      well_formed = s.well_formed;
      legal = subst (IsLegal v.base) (sym (members-append v.kept x)) (legal_append v.base (members v.kept) (members x) s.legal ((refl, refl), tt));
      order = record { retired_settled = s.order.retired_settled; settled_all = let h : v.settled ≤ length_of v = s.order.settled_all in omega arith; sealed_all = let h : v.sealed ≤ length_of v = s.order.sealed_all in omega arith; sealing = s.order.sealing };
      told = λ p e. s.told p (told_before v.kept entry p e);
      told_least = let h : told_in v.kept ≤ v.told = s.told_least in omega arith;
      told_most = let h : v.told ≤ v.retired + told_in v.kept = s.told_most in omega arith;
      few = omega arith;
      counts = s.counts;
      busy = s.busy;
    }

-- the numbers and the phase of a step: no fewer entries are durable, and all stays in order
steps_sound : (v : View) (settled sealed : ℕ) (phase : Phase) (broken : Bool) → InOrder (length_of v) v.retired settled sealed phase → v.settled ≤ settled
    → (broken ≡ true → is_idle phase ≡ false) → IsSoundView v → IsSoundView (record v { settled = settled; sealed = sealed; phase = phase; broken = broken })
steps_sound v settled sealed phase broken order more busy s = record {
  well_formed = s.well_formed;
  legal = s.legal;
  order = order;
  told = λ p e. let here : v.retired + p < v.settled = s.told p e in omega (arith, here, more);
  told_least = s.told_least;
  told_most = s.told_most;
  few = s.few;
  counts = s.counts;
  busy = busy;
}

-- a pump
pub pumped_sound : (v : View) → v.broken ≡ false → IsSoundView v → IsSoundView (view_acted snapshot_length v Pump)
pumped_sound v whole s =
    let new = view_acted snapshot_length v Pump in
    steps_sound v new.settled new.sealed new.phase v.broken (order_row (length_of v) v.retired v.settled v.sealed v.phase _ _ s.order) (more_settled (length_of v) v.retired v.settled v.sealed v.phase _ _ s.order) (λ e. let clash : false ≡ true = sym whole ∙ e in absurd (cc)) s

-- a pump that failed
pub failed_sound : (v : View) → (view_row snapshot_length v).call ≢ NoCall → IsSoundView v → IsSoundView (view_acted snapshot_length v Fault)
failed_sound v called s =
    let new = view_acted snapshot_length v Fault in
    steps_sound v v.settled new.sealed new.phase true (order_fault (length_of v) v.retired v.settled v.sealed v.phase _ _ s.order) (omega arith) (λ e. fault_is_busy v.phase _ _ called) s

-- the start of a snapshot
pub started_sound : (v : View) → IsSoundView v → IsSoundView (view_acted snapshot_length v StartSnapshot)
started_sound v s = steps_sound v v.settled (length_of v) Start v.broken (order_start (length_of v) v.retired v.settled v.sealed v.phase s.order) (omega arith) (λ e. refl) s

-- an entry that is closed
marked_sound : (m : Mark) (told : ℕ) (v : View) (place : ℕ) → m ≢ Open → (m ≡ Told → v.retired + place < v.settled) → place < length v.kept
    → told_in (with_mark m v.kept place) ≤ told → told ≤ v.retired + told_in (with_mark m v.kept place) → IsSoundView v → IsSoundView (record v { kept = with_mark m v.kept place; told = told })
marked_sound m told v place not_open below inside least most s =
    let same : length (with_mark m v.kept place) ≡ length v.kept = length-with_mark m v.kept place in
    record {
      well_formed = s.well_formed;
      legal = subst (IsLegal v.base) (sym (members-with_mark m v.kept place)) s.legal;
      order = subst (λ n. InOrder (v.retired + n) v.retired v.settled v.sealed v.phase) (sym same) s.order;
      told = λ p e. elim (cases_eq p place) [
        | inl q ↦ subst (λ x. v.retired + x < v.settled) (sym q) (below (some_mark (sym (mark_same m v.kept place inside) ∙ ap (mark_at (with_mark m v.kept place)) (sym q) ∙ e)))
        | inr q ↦ s.told p (sym (mark_other m v.kept place p q) ∙ e)
      ];
      told_least = least;
      told_most = most;
      few = subst (λ n. n ≤ most_kept) (sym same) s.few;
      counts = s.counts;
      busy = s.busy;
    }

pub told_sound : (v : View) (place : ℕ) → v.retired + place < v.settled → mark_at v.kept place ≡ Some Open → IsSoundView v → IsSoundView (record v { kept = with_mark Told v.kept place; told = v.told + 1 })
told_sound v place below was s =
    let one : told_in (with_mark Told v.kept place) ≡ told_in v.kept + 1 = told_one_more v.kept place was in
    let least : told_in v.kept ≤ v.told = s.told_least in
    let most : v.told ≤ v.retired + told_in v.kept = s.told_most in
    marked_sound Told (v.told + 1) v place (λ e. cc) (λ e. below) (mark_below v.kept place Open was) (omega arith) (omega arith) s

pub forgotten_sound : (v : View) (place : ℕ) → mark_at v.kept place ≡ Some Open → IsSoundView v → IsSoundView (record v { kept = with_mark Forgotten v.kept place })
forgotten_sound v place was s =
    let same : told_in (with_mark Forgotten v.kept place) ≡ told_in v.kept = told_same v.kept place was in
    let least : told_in v.kept ≤ v.told = s.told_least in
    let most : v.told ≤ v.retired + told_in v.kept = s.told_most in
    marked_sound Forgotten v.told v place (λ e. cc) (λ e. absurd (cc)) (mark_below v.kept place Open was) (omega arith) (omega arith) s

-- the number of acknowledged entries (`told`) fits, with one more
pub told_fits : (v : View) (place : ℕ) → mark_at v.kept place ≡ Some Open → IsSoundView v → v.told < length_of v
told_fits v place was s =
    let most : v.told ≤ v.retired + told_in v.kept = s.told_most in
    let fewer : told_in v.kept < length v.kept = told_below_length v.kept place was in
    omega arith

-- no session has given more commands than the life has entries
pub counts_fit : (v : View) (bound : ℕ) → length_of v < bound → IsSoundView v → CountsBelow bound (book_of v)
counts_fit v bound h s =
    let n : ℕ = length v.kept in
    let all = counts_after (v.retired + 1) n v.base v.kept s.counts in
    let here = subst (λ l. CountsBelow (n + (v.retired + 1)) (replay v.base (members l))) (take_all n v.kept (omega arith)) all in
    weaker (n + (v.retired + 1)) bound (book_of v) (omega arith) here
