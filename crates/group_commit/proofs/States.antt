-- What the store has to keep, after each call.
use Rattle.std.proofs.Common.{◌≡◌, ℕ, ◌+◌, ◌-◌, ◌≤◌, Bool, true, false, cond, List, [], ◌∷◌, ◌++◌, length, take, drop, Option, Some, None, refl, sym, ap, ◌∙◌, subst, arith, append_assoc, length-drop}
use Rattle.std.specs.Prelude.{option_to_list, nat_le}
use Rattle.std.proofs.lemmas.List.{drop-append-le, take-append-le, take-append-drop, take_all, drop_all, append-nil}
use Rattle.std.proofs.lemmas.Option.{same_Some}
use Rattle.vault_model.specs.Said.{Command, Effect}
use Rattle.vault_state.specs.Vault.{Vault, IsVault, durable}
use Rattle.vault_model.specs.Step.{step}
use Rattle.vault_model.specs.After.{after, IsDurableChange}
use Rattle.vault_store.specs.declared.phase.Phase.{Phase}
use Rattle.vault_store.specs.declared.phase.Phase.TheVariants.{Idle, Written, Bodied, Opening, Start, Closing, Writing, Filled, Ready, SnapOpening}
use Rattle.vault_format.specs.Files.{applied}
use Rattle.vault_store.specs.Phases.{row, is_idle, most_piece}
use Rattle.vault_store.specs.State.{StoreState, with_effect, started, waiting_in, row_of, stepped, failed, advanced}
use Rattle.group_commit.specs.Entries.{Kept, opened}
use Rattle.group_commit.specs.History.{replay, outcome_of, entry_of, members, effects}
use Rattle.group_commit.specs.Phases.{waiting, InOrder}
use Rattle.group_commit.specs.World.{Stage, Pump, Fault, StartSnapshot}
use Rattle.group_commit.specs.View.{View, length_of, view_at, book_of, view_pumped, view_failed, view_acted}
use Rattle.group_commit.specs.Seen.{snapshot_length, framed, effects_between, effects_from, state_of, IsSoundView}
use Rattle.group_commit.proofs.Facts.{effect_is_the_durable_change}
use Rattle.group_commit.proofs.Folds.{replay-append, members-append}
use Rattle.group_commit.proofs.Guarded.{replay_well_formed}
use Rattle.group_commit.proofs.Changes.{effects_lead}

pub effects-append : (v : Vault) (xs ys : List Kept) → effects v (xs ++ ys) ≡ effects v xs ++ effects (replay v (members xs)) ys
effects-append v [] ys = refl
effects-append v (x ∷ xs) ys =
    ap (λ es. option_to_list (outcome_of v x.entry).effect ++ es) (effects-append (outcome_of v x.entry).vault xs ys)
    ∙ sym (append_assoc (option_to_list (outcome_of v x.entry).effect) (effects (outcome_of v x.entry).vault xs) (effects (replay (outcome_of v x.entry).vault (members xs)) ys))

-- without effects the durable vault stays
durable_same : (v : Vault) (xs : List Kept) → IsVault v → effects v xs ≡ [] → durable v ≡ durable (replay v (members xs))
durable_same v xs w e = same_Some _ _ (ap (applied (durable v)) (sym e) ∙ effects_lead v xs w)

sub_add : (r n : ℕ) → r + n - r ≡ n
sub_add r n = omega arith

view_at_all : (v : View) → view_at v (length_of v) ≡ book_of v
view_at_all v = ap (λ l. replay v.base (members l)) (ap (λ n. take n v.kept) (sub_add v.retired (length v.kept)) ∙ take_all (length v.kept) v.kept (omega arith))

replay_rest : (v : View) (n : ℕ) → replay (view_at v n) (members (drop (n - v.retired) v.kept)) ≡ book_of v
replay_rest v n =
    sym (replay-append v.base (members (take (n - v.retired) v.kept)) (members (drop (n - v.retired) v.kept)))
    ∙ ap (replay v.base) (sym (members-append (take (n - v.retired) v.kept) (drop (n - v.retired) v.kept)) ∙ ap members (take-append-drop (n - v.retired) v.kept))

none_behind : (v : View) → effects_from v (length_of v) ≡ []
none_behind v = ap (effects (view_at v (length_of v))) (drop_all (length_of v - v.retired) v.kept (let e : v.retired + length v.kept - v.retired ≡ length v.kept = sub_add v.retired (length v.kept) in omega arith))

pub book_well_formed : (v : View) → IsSoundView v → IsVault (book_of v)
book_well_formed v s = replay_well_formed v.base (members v.kept) s.well_formed

-- up to where the entries are in frames
pub framed_bounds : (v : View) → InOrder (length_of v) v.retired v.settled v.sealed v.phase → (v.settled ≤ framed v) × (framed v ≤ length_of v)
framed_bounds v o = at (is_idle v.phase) o.sealing
  where
    at : (b : Bool) → (b ≡ false → v.settled ≤ v.sealed) → (v.settled ≤ cond b v.settled v.sealed) × (cond b v.settled v.sealed ≤ length_of v)
    at true h = (omega arith, o.settled_all)
    at false h = (h refl, o.sealed_all)

-- A staged command

abbrev pub staged : View → ℕ → Command → View
staged v session command = view_acted snapshot_length v (Stage session command)

pub book_staged : (v : View) (session : ℕ) (command : Command) → book_of (staged v session command) ≡ (step (book_of v) session command).vault
book_staged v session command =
    let x = opened (entry_of (book_of v) session command) ∷ [] in
    ap (replay v.base) (members-append v.kept x) ∙ replay-append v.base (members v.kept) (members x)

module _ (v : View) (session : ℕ) (command : Command) (s : IsSoundView v) where
  abbrev more : List Kept
  more = opened (entry_of (book_of v) session command) ∷ []

  at_staged : (n : ℕ) → n ≤ length_of v → view_at (staged v session command) n ≡ view_at v n
  at_staged n h = ap (λ l. replay v.base (members l)) (take-append-le (n - v.retired) v.kept more (omega arith))

  between_staged : (n m : ℕ) → v.retired ≤ n → n ≤ m → m ≤ length_of v → effects_between (staged v session command) n m ≡ effects_between v n m
  between_staged n m low h k =
      let l = length-drop (n - v.retired) v.kept in
      let inside : m - n ≤ length (drop (n - v.retired) v.kept) = omega arith in
      ap (λ w. effects w (take (m - n) (drop (n - v.retired) (v.kept ++ more)))) (at_staged n (omega arith))
      ∙ ap (λ l. effects (view_at v n) (take (m - n) l)) (drop-append-le (n - v.retired) v.kept more (omega arith))
      ∙ ap (effects (view_at v n)) (take-append-le (m - n) (drop (n - v.retired) v.kept) more inside)

  from_staged : (n : ℕ) → n ≤ length_of v → effects_from (staged v session command) n ≡ effects_from v n ++ option_to_list (step (book_of v) session command).effect
  from_staged n h =
      let rest = drop (n - v.retired) v.kept in
      ap (λ w. effects w (drop (n - v.retired) (v.kept ++ more))) (at_staged n h)
      ∙ ap (effects (view_at v n)) (drop-append-le (n - v.retired) v.kept more (omega arith))
      ∙ effects-append (view_at v n) rest more
      ∙ ap (λ w. effects (view_at v n) rest ++ effects w more) (replay_rest v n)
      ∙ ap (λ es. effects (view_at v n) rest ++ es) (append-nil _)

  sealing_staged : cond (is_idle v.phase) [] (effects_between (staged v session command) v.settled v.sealed) ≡ cond (is_idle v.phase) [] (effects_between v v.settled v.sealed)
  sealing_staged = at (is_idle v.phase) s.order.sealing
    where
      at : (b : Bool) → (b ≡ false → v.settled ≤ v.sealed) → cond b [] (effects_between (staged v session command) v.settled v.sealed) ≡ cond b [] (effects_between v v.settled v.sealed)
      at true h = refl
      at false h = between_staged v.settled v.sealed s.order.retired_settled (h refl) s.order.sealed_all

  -- with an effect, which is noted
  pub state_noted : (effect : Effect) → (step (book_of v) session command).effect ≡ Some effect
      → state_of (staged v session command) ≡ with_effect (state_of v) effect (durable (step (book_of v) session command).vault)
  state_noted effect is =
      let settled = at_staged v.settled s.order.settled_all in
      let sealed = at_staged (framed v) (framed_bounds v s.order).1 in
      let noted = book_staged v session command in
      let buffer = from_staged (framed v) (framed_bounds v s.order).1 ∙ ap (λ o. effects_from v (framed v) ++ option_to_list o) is in
      λ i. record { settled = durable (settled i); sealed = durable (sealed i); noted = durable (noted i); sealing = sealing_staged i; buffer = buffer i; phase = v.phase; broken = v.broken }

  -- without one
  pub state_silent : (step (book_of v) session command).effect ≡ None → state_of (staged v session command) ≡ state_of v
  state_silent is =
      let settled = at_staged v.settled s.order.settled_all in
      let sealed = at_staged (framed v) (framed_bounds v s.order).1 in
      let stays : durable (step (book_of v) session command).vault ≡ durable (book_of v) = silent (step (book_of v) session command).effect is (effect_is_the_durable_change (book_of v) session command (book_well_formed v s)) in
      let noted = ap durable (book_staged v session command) ∙ stays in
      let buffer = from_staged (framed v) (framed_bounds v s.order).1 ∙ ap (λ o. effects_from v (framed v) ++ option_to_list o) is ∙ append-nil _ in
      λ i. record { settled = durable (settled i); sealed = durable (sealed i); noted = noted i; sealing = sealing_staged i; buffer = buffer i; phase = v.phase; broken = v.broken }
    where
      silent : (o : Option Effect) → o ≡ None → IsDurableChange (book_of v) o (step (book_of v) session command).vault → durable (step (book_of v) session command).vault ≡ durable (book_of v)
      silent None e change = change
      silent (Some effect) e change = absurd (cc)

  -- the effect may be made on what was noted
  pub effect_applies : (effect : Effect) → (step (book_of v) session command).effect ≡ Some effect → after (state_of v).noted effect ≡ Some (durable (step (book_of v) session command).vault)
  effect_applies effect is = loud (step (book_of v) session command).effect is (effect_is_the_durable_change (book_of v) session command (book_well_formed v s))
    where
      loud : (o : Option Effect) → o ≡ Some effect → IsDurableChange (book_of v) o (step (book_of v) session command).vault → after (durable (book_of v)) effect ≡ Some (durable (step (book_of v) session command).vault)
      loud None e change = absurd (cc)
      loud (Some other) e change = subst (λ (x : Effect). after (durable (book_of v)) x ≡ Some (durable (step (book_of v) session command).vault)) (same_Some _ _ e) change

-- A pump

abbrev in_phase : Phase → View → View
in_phase p v = record v { phase = p; broken = false }

-- what the store has to keep, where it is said whether nothing is under way
abbrev state_by : Bool → Phase → View → StoreState
state_by idle p v = record {
  settled = durable (view_at v v.settled);
  sealed = durable (view_at v (cond idle v.settled v.sealed));
  noted = durable (book_of v);
  sealing = cond idle [] (effects_between v v.settled v.sealed);
  buffer = effects_from v (cond idle v.settled v.sealed);
  phase = p;
  broken = v.broken;
}

-- one phase goes on to another
goes_on : (p q : Phase) (v : View) → is_idle p ≡ false → is_idle q ≡ false → state_of (record v { phase = q }) ≡ record (state_of (record v { phase = p })) { phase = q }
goes_on p q v e f = ap (λ b. state_by b q v) (f ∙ sym e)

busy : (b : Bool) (n : ℕ) → is_idle (cond b Filled (Writing n)) ≡ false
busy true n = refl
busy false n = refl

-- all is sealed
all_sealed : (v : View) → state_of (record v { sealed = length_of v; phase = Written })
    ≡ record { settled = durable (view_at v v.settled); sealed = durable (book_of v); noted = durable (book_of v); sealing = effects_from v v.settled; buffer = []; phase = Written; broken = v.broken }
all_sealed v =
    let sealed = view_at_all v in
    let rest = drop (v.settled - v.retired) v.kept in
    let long : length rest ≤ length_of v - v.settled = (let l = length-drop (v.settled - v.retired) v.kept in omega arith) in
    let sealing = ap (effects (view_at v v.settled)) (take_all (length_of v - v.settled) rest long) in
    let buffer = none_behind v in
    λ i. record { settled = durable (view_at v v.settled); sealed = durable (sealed i); noted = durable (book_of v); sealing = sealing i; buffer = buffer i; phase = Written; broken = v.broken }

idle_pumped : (v : View) (u : List Kept) (es : List Effect) (n m : ℕ) → IsVault (view_at v v.settled) → es ≡ effects (view_at v v.settled) u → effects_from v v.settled ≡ es → replay (view_at v v.settled) (members u) ≡ book_of v
    → state_of (view_pumped (row Idle (waiting u es) n) (in_phase Idle v)) ≡ stepped (row Idle (waiting_in es) m) (state_of (in_phase Idle v))
idle_pumped v [] [] n m w e b rest = refl
idle_pumped v [] (y ∷ ys) n m w e b rest = absurd (cc)
idle_pumped v (x ∷ xs) [] n m w e b rest =
    let settled : durable (view_at v (length_of v)) ≡ durable (view_at v v.settled) = ap durable (view_at_all v ∙ sym rest) ∙ sym (durable_same (view_at v v.settled) (x ∷ xs) w (sym e)) in
    let buffer = none_behind v ∙ sym b in
    λ i. record { settled = settled i; sealed = settled i; noted = durable (book_of v); sealing = []; buffer = buffer i; phase = Idle; broken = false }
idle_pumped v (x ∷ xs) (y ∷ ys) n m w e b rest = all_sealed (in_phase Idle v)

view_at_well_formed : (v : View) (n : ℕ) → IsVault v.base → IsVault (view_at v n)
view_at_well_formed v n w = replay_well_formed v.base (members (take (n - v.retired) v.kept)) w

pump_in : (p : Phase) (v : View) → IsVault v.base → state_of (view_acted snapshot_length (in_phase p v) Pump) ≡ advanced (state_of (in_phase p v))
pump_in Idle v w = idle_pumped v (drop (v.settled - v.retired) v.kept) (effects_from v v.settled) _ _ (view_at_well_formed v v.settled w) refl refl (replay_rest v v.settled)
pump_in Written v w = refl
pump_in Bodied v w = refl
pump_in Opening v w = refl
pump_in Start v w = refl
pump_in Closing v w = refl
pump_in (Writing left) v w = goes_on (Writing left) (cond (nat_le left most_piece) Filled (Writing (left - most_piece))) (in_phase Idle v) refl (busy (nat_le left most_piece) (left - most_piece))
pump_in Filled v w = refl
pump_in Ready v w = refl
pump_in SnapOpening v w = refl

pub state_pumped : (v : View) → IsSoundView v → v.broken ≡ false → state_of (view_acted snapshot_length v Pump) ≡ advanced (state_of v)
state_pumped v s whole = subst (λ b. state_of (view_acted snapshot_length (record v { broken = b }) Pump) ≡ advanced (state_of (record v { broken = b }))) (sym whole) (pump_in v.phase v s.well_formed)

-- A pump that failed

abbrev broken : Phase → View → View
broken p v = record v { phase = p }

idle_failed : (v : View) (u : List Kept) (es : List Effect) (n m : ℕ) → es ≡ effects (view_at v v.settled) u
    → state_of (view_failed (row Idle (waiting u es) n) (broken Idle v)) ≡ failed (row Idle (waiting_in es) m) (state_of (broken Idle v))
idle_failed v [] [] n m e = refl
idle_failed v [] (y ∷ ys) n m e = absurd (cc)
idle_failed v (x ∷ xs) [] n m e = refl
idle_failed v (x ∷ xs) (y ∷ ys) n m e = all_sealed (record v { broken = true })

fail_in : (p : Phase) (v : View) → state_of (view_acted snapshot_length (broken p v) Fault) ≡ failed (row_of (state_of (broken p v))) (state_of (broken p v))
fail_in Idle v = idle_failed v (drop (v.settled - v.retired) v.kept) (effects_from v v.settled) _ _ refl
fail_in Written v = refl
fail_in Bodied v = refl
fail_in Opening v = refl
fail_in Start v = refl
fail_in Closing v = refl
fail_in (Writing left) v = goes_on (Writing left) (cond (nat_le left most_piece) Filled (Writing (left - most_piece))) (record v { broken = true }) refl (busy (nat_le left most_piece) (left - most_piece))
fail_in Filled v = refl
fail_in Ready v = refl
fail_in SnapOpening v = refl

pub state_failed : (v : View) → state_of (view_acted snapshot_length v Fault) ≡ failed (row_of (state_of v)) (state_of v)
state_failed v = fail_in v.phase v

-- The start of a snapshot

started_in : (v : View) → state_of (view_acted snapshot_length (record v { phase = Idle }) StartSnapshot) ≡ started (state_of (record v { phase = Idle }))
started_in v = ap (λ (s : StoreState). record s { phase = Start }) (all_sealed v)

pub state_started : (v : View) → v.phase ≡ Idle → state_of (view_acted snapshot_length v StartSnapshot) ≡ started (state_of v)
state_started v idle =
    subst (λ p. state_of (view_acted snapshot_length (record v { phase = p }) StartSnapshot) ≡ started (state_of (record v { phase = p }))) (sym idle) (started_in v)
