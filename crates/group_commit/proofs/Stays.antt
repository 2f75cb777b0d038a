-- What is settled (durable) stands for good, over crashes too.
use Rattle.std.proofs.Common.{◌≡◌, ℕ, zero, suc, ◌+◌, ◌≤◌, ◌<◌, Bool, true, false, cond, List, [], ◌∷◌, ◌++◌, length, take, drop, Some, refl, sym, ap, ◌∙◌, subst, arith, append_assoc, length-append}
use Rattle.std.specs.Prelude.{slice_get}
use Rattle.std.proofs.lemmas.List.{length-take-le, length-map}
use Rattle.vault_state.specs.Vault.{Vault}
use Rattle.group_commit.specs.declared.mark.Mark.TheVariants.{Told, Forgotten}
use Rattle.group_commit.specs.Entries.{Entry, Kept, opened}
use Rattle.group_commit.specs.History.{Given, Restart, entry_of, members}
use Rattle.vault_store.specs.Phases.{is_opening}
use Rattle.vault_store.proofs.Busy.{opening_is_busy}
use Rattle.group_commit.specs.World.{World, history, history_to, vault_of, Act, Stage, Pump, Fault, StartSnapshot, Tell, Forget, Retire, acted, GateLeft, StaysClosed, IsOpen, kept_by, crashed}
use Rattle.group_commit.specs.Runs.{Event, Within, Crash, run, IsRun}
use Rattle.group_commit.proofs.Folds.{members-append, members_rest}
use Rattle.group_commit.proofs.Marks.{members-with_mark}
use Rattle.group_commit.proofs.Order.{more_settled}
use Rattle.group_commit.proofs.Sound.{IsSound, act_sound, crash_sound}

pub get_front : {A : Type 0} (xs ys : List A) (k : ℕ) (x : A) → slice_get xs k ≡ Some x → slice_get (xs ++ ys) k ≡ Some x
get_front [] ys k x e = absurd (cc)
get_front (z ∷ xs) ys zero x e = e
get_front (z ∷ xs) ys (suc k) x e = get_front xs ys k x e

get_cut : {A : Type 0} (xs ys : List A) (k : ℕ) (x : A) → k < length xs → slice_get (xs ++ ys) k ≡ Some x → slice_get xs k ≡ Some x
get_cut [] ys k x h e = absurd (omega arith)
get_cut (z ∷ xs) ys zero x h e = e
get_cut (z ∷ xs) ys (suc k) x h e = get_cut xs ys k x (omega arith) e

-- a crash keeps what is durable, and no more than there is
pub keeps_settled : (w : World) (gate : GateLeft) → IsSound w → w.settled ≤ kept_by w gate
keeps_settled w StaysClosed s = omega arith
keeps_settled w IsOpen s = by_phase (is_opening w.phase) refl
  where
    by_phase : (b : Bool) → is_opening w.phase ≡ b → w.settled ≤ cond b w.sealed w.settled
    by_phase true e = s.order.sealing (opening_is_busy w.phase e)
    by_phase false e = omega arith

pub keeps_at_most_all : (w : World) (gate : GateLeft) → IsSound w → kept_by w gate ≤ length w.life
keeps_at_most_all w StaysClosed s = s.order.settled_all
keeps_at_most_all w IsOpen s = by_phase (is_opening w.phase)
  where
    by_phase : (b : Bool) → cond b w.sealed w.settled ≤ length w.life
    by_phase true = s.order.sealed_all
    by_phase false = s.order.settled_all

pub length-history_to : (w : World) (n : ℕ) → n ≤ length w.life → length (history_to w n) ≡ length w.earlier + n
length-history_to w n h =
    length-append w.earlier (members (take n w.life)) ∙ ap (λ k. length w.earlier + k) (length-map (take n w.life) (λ (kept : Kept). Given kept.entry) ∙ length-take-le n w.life h)

-- what is durable stands for good
pub record StandsSettled (w : World) (place : ℕ) (entry : Entry) : Type 0 where
  pub stands : slice_get (history w) place ≡ Some (Given entry)
  pub below : place < length w.earlier + w.settled

pub stays_act : (snapshot : Vault → ℕ) (w : World) (act : Act) (place : ℕ) (entry : Entry) → IsSound w → StandsSettled w place entry → StandsSettled (acted snapshot w act) place entry
stays_act snapshot w (Stage session command) place entry s t = record {
  stands =
      let more = opened (entry_of (vault_of w) session command) ∷ [] in
      subst (λ l. slice_get l place ≡ Some (Given entry))
      (append_assoc w.earlier (members w.life) (members more) ∙ ap (λ ms. w.earlier ++ ms) (sym (members-append w.life more)))
      (get_front (history w) (members more) place (Given entry) t.stands);
  below = t.below;
}
stays_act snapshot w Pump place entry s t = record { stands = t.stands; below = let more : w.settled ≤ (acted snapshot w Pump).settled = more_settled (length w.life) w.retired w.settled w.sealed w.phase _ _ s.order in let b : place < length w.earlier + w.settled = t.below in omega arith }
stays_act snapshot w Fault place entry s t = record { stands = t.stands; below = t.below }
stays_act snapshot w StartSnapshot place entry s t = record { stands = t.stands; below = t.below }
stays_act snapshot w (Tell position) place entry s t = record { stands = subst (λ l. slice_get (w.earlier ++ l) place ≡ Some (Given entry)) (sym (members-with_mark Told w.life position)) t.stands; below = t.below }
stays_act snapshot w (Forget position) place entry s t = record { stands = subst (λ l. slice_get (w.earlier ++ l) place ≡ Some (Given entry)) (sym (members-with_mark Forgotten w.life position)) t.stands; below = t.below }
stays_act snapshot w Retire place entry s t = record { stands = t.stands; below = t.below }

pub stays_crash : (w : World) (gate : GateLeft) (place : ℕ) (entry : Entry) → IsSound w → StandsSettled w place entry → StandsSettled (crashed w gate) place entry
stays_crash w gate place entry s t =
    let n : ℕ = kept_by w gate in
    let front = history_to w n in
    let long : length front ≡ length w.earlier + n = length-history_to w n (keeps_at_most_all w gate s) in
    let more : w.settled ≤ n = keeps_settled w gate s in
    let b : place < length w.earlier + w.settled = t.below in
    let inside : place < length front = omega arith in
    record {
      stands =
          get_front (front ++ Restart ∷ []) [] place (Given entry)
          (get_front front (Restart ∷ []) place (Given entry)
          (get_cut front (members (drop n w.life)) place (Given entry) inside
          (subst (λ l. slice_get l place ≡ Some (Given entry)) (sym (members_rest w.earlier n w.life)) t.stands)));
      below = let e : length (front ++ Restart ∷ []) ≡ length front + 1 = length-append front (Restart ∷ []) in omega arith;
    }

pub stays : (snapshot : Vault → ℕ) (w : World) (events : List Event) (place : ℕ) (entry : Entry) → IsSound w → IsRun snapshot w events → StandsSettled w place entry
    → StandsSettled (run snapshot w events) place entry
stays snapshot w [] place entry s r t = t
stays snapshot w (Within act ∷ events) place entry s r t =
    stays snapshot (acted snapshot w act) events place entry (act_sound snapshot w act r.0 s) r.1 (stays_act snapshot w act place entry s t)
stays snapshot w (Crash gate ∷ events) place entry s r t = stays snapshot (crashed w gate) events place entry (crash_sound w gate s) r.1 (stays_crash w gate place entry s t)
