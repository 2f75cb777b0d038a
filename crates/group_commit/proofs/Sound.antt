-- What holds of every world that a run reaches.
use Rattle.std.proofs.Common.{true, false, ◌≡◌, ◌≢◌, inl, inr, ℕ, ◌≤◌, ◌<◌, List, [], ◌∷◌, ◌++◌, length, drop, Some, refl, sym, ap, ◌∙◌, subst, arith, append_assoc, length-append}
use Rattle.std.proofs.lemmas.List.{append-nil}
use Rattle.std.proofs.lemmas.Bool.{cases_eq}
use Rattle.vault_model.specs.Said.{Command}
use Rattle.std.proofs.lemmas.List.Elements.{All-nil}
use Rattle.vault_state.specs.declared.session.Session.{Session}
use Rattle.vault_state.specs.Vault.{Vault, IsVault, new_vault, CountsBelow}
use Rattle.group_commit.specs.declared.mark.Mark.{Mark}
use Rattle.group_commit.specs.declared.mark.Mark.TheVariants.{Open, Told, Forgotten}
use Rattle.group_commit.specs.Entries.{Kept, opened, mark_at, with_mark}
use Rattle.group_commit.specs.History.{Member, Given, Restart, replay, IsLegal, entry_of, members}
use Rattle.group_commit.specs.World.{World, world_of, new_world, history, history_to, vault_of, Act, Stage, Pump, Fault, StartSnapshot, Tell, Forget, Retire, Allows, acted, GateLeft, kept_by, crashed}
use Rattle.group_commit.specs.Runs.{Event, Within, Crash, AllowsEvent, happened, run, IsRun}
use Rattle.group_commit.proofs.Facts.{well_formed_stays}
use Rattle.group_commit.proofs.Folds.{replay-append, legal_append, legal_front, members-append, members_rest}
use Rattle.group_commit.proofs.Marks.{members-with_mark, length-with_mark, mark_same, mark_other, mark_below, mark_front, told_before}
use Rattle.vault_store.specs.Phases.{is_idle}
use Rattle.group_commit.specs.Phases.{InOrder}
use Rattle.group_commit.proofs.Order.{fault_is_busy, order_row, order_fault, order_start, more_settled}

-- acknowledged entries are durable, and retired ones closed
pub record MarksFit (life : List Kept) (retired settled : ℕ) : Type 0 where
  pub told : (p : ℕ) → mark_at life p ≡ Some Told → p < settled
  pub closed : (p : ℕ) → p < retired → mark_at life p ≢ Some Open

pub record IsSound (w : World) : Type 0 where
  pub begins : IsVault w.first
  pub legal : IsLegal w.first (history w)
  pub order : InOrder (length w.life) w.retired w.settled w.sealed w.phase
  pub marks : MarksFit w.life w.retired w.settled
  pub starts : CountsBelow 1 (replay w.first w.earlier)
  pub busy : w.broken ≡ true → is_idle w.phase ≡ false

-- a well-formed vault in which no command was counted
pub first_sound : (vault : Vault) → IsVault vault → CountsBelow 1 vault → IsSound (world_of vault)
first_sound vault is counts = record {
  begins = is;
  legal = tt;
  order = record { retired_settled = omega arith; settled_all = omega arith; sealed_all = omega arith; sealing = λ _. omega arith };
  marks = record { told = λ p e. absurd (cc); closed = λ p h e. absurd (cc) };
  starts = counts;
  busy = λ e. absurd (cc);
}

pub new_sound : IsSound new_world
new_sound = first_sound new_vault well_formed_stays.0 (record { door = omega arith; each = All-nil (λ (x : Session). x.count < 1) })

pub some_mark : {m n : Mark} → Some m ≡ Some n → m ≡ n
some_mark e = cc

fits_mark : (m : Mark) (life : List Kept) (retired settled position : ℕ) → m ≢ Open → (m ≡ Told → position < settled) → MarksFit life retired settled → position < length life → MarksFit (with_mark m life position) retired settled
fits_mark m life retired settled position not_open told f inside = record { told = told_here; closed = closed_here }
  where
    told_here : (p : ℕ) → mark_at (with_mark m life position) p ≡ Some Told → p < settled
    told_here p e = elim (cases_eq p position) [
      | inl q ↦ subst (λ x. x < settled) (sym q) (told (some_mark (sym (mark_same m life position inside) ∙ ap (mark_at (with_mark m life position)) (sym q) ∙ e)))
      | inr q ↦ f.told p (sym (mark_other m life position p q) ∙ e)
    ]

    closed_here : (p : ℕ) → p < retired → mark_at (with_mark m life position) p ≢ Some Open
    closed_here p h e = elim (cases_eq p position) [
      | inl q ↦ not_open (some_mark (sym (mark_same m life position inside) ∙ ap (mark_at (with_mark m life position)) (sym q) ∙ e))
      | inr q ↦ f.closed p h (sym (mark_other m life position p q) ∙ e)
    ]

marked : (m : Mark) (w : World) (position : ℕ) → m ≢ Open → (m ≡ Told → position < w.settled) → mark_at w.life position ≡ Some Open → IsSound w → IsSound (record w { life = with_mark m w.life position })
marked m w position not_open told was s = record {
  begins = s.begins;
  legal = subst (λ l. IsLegal w.first (w.earlier ++ l)) (sym (members-with_mark m w.life position)) s.legal;
  order = subst (λ n. InOrder n w.retired w.settled w.sealed w.phase) (sym (length-with_mark m w.life position)) s.order;
  marks = fits_mark m w.life w.retired w.settled position not_open told s.marks (mark_below w.life position Open was);
  starts = s.starts;
  busy = s.busy;
}

-- the entry of a command may follow
legal_more : (first : Vault) (earlier : List Member) (life : List Kept) (session : ℕ) (command : Command) → IsLegal first (earlier ++ members life)
    → IsLegal first (earlier ++ members (life ++ opened (entry_of (replay first (earlier ++ members life)) session command) ∷ []))
legal_more first earlier life session command l =
    let v = replay first (earlier ++ members life) in
    let more = Given (entry_of v session command) ∷ [] in
    subst (IsLegal first)
    (append_assoc earlier (members life) more ∙ ap (λ ms. earlier ++ ms) (sym (members-append life (opened (entry_of v session command) ∷ []))))
    (legal_append first (earlier ++ members life) more l (((refl, refl)), tt))

-- each act keeps it
pub act_sound : (snapshot : Vault → ℕ) (w : World) (act : Act) → Allows snapshot w act → IsSound w → IsSound (acted snapshot w act)
act_sound snapshot w (Stage session command) a s = record {
  begins = s.begins;
  legal = legal_more w.first w.earlier w.life session command s.legal;
  order = let e = length-append w.life (opened (entry_of (vault_of w) session command) ∷ []) in record { retired_settled = s.order.retired_settled; settled_all = omega arith; sealed_all = omega arith; sealing = s.order.sealing };
  marks = record {
    told = λ p e. s.marks.told p (told_before w.life _ p e);
    closed = λ p h e. s.marks.closed p h (sym (mark_front w.life _ p (omega arith)) ∙ e);
  };
  starts = s.starts;
  busy = s.busy;
}
act_sound snapshot w Pump a s = record {
  begins = s.begins;
  legal = s.legal;
  order = order_row (length w.life) w.retired w.settled w.sealed w.phase _ _ s.order;
  marks = record { told = λ p e. let here = s.marks.told p e in let more : w.settled ≤ (acted snapshot w Pump).settled = more_settled (length w.life) w.retired w.settled w.sealed w.phase _ _ s.order in omega arith; closed = s.marks.closed };
  starts = s.starts;
  busy = λ e. absurd (cc);
}
act_sound snapshot w Fault a s = record { begins = s.begins; legal = s.legal; order = order_fault (length w.life) w.retired w.settled w.sealed w.phase _ _ s.order; marks = s.marks; starts = s.starts; busy = λ e. fault_is_busy w.phase _ _ a.1 }
act_sound snapshot w StartSnapshot a s = record { begins = s.begins; legal = s.legal; order = order_start (length w.life) w.retired w.settled w.sealed w.phase s.order; marks = s.marks; starts = s.starts; busy = λ e. refl }
act_sound snapshot w (Tell position) a s = marked Told w position (λ e. cc) (λ e. a.0) a.1 s
act_sound snapshot w (Forget position) a s = marked Forgotten w position (λ e. cc) (λ e. absurd (cc)) a s
act_sound snapshot w Retire a s = record {
  begins = s.begins;
  legal = s.legal;
  order = record { retired_settled = omega arith; settled_all = s.order.settled_all; sealed_all = s.order.sealed_all; sealing = s.order.sealing };
  marks = record { told = s.marks.told; closed = λ p h e. elim (cases_eq p w.retired) [ inl q ↦ a.1 (ap (mark_at w.life) (sym q) ∙ e) | inr q ↦ s.marks.closed p (omega arith) e ] };
  starts = s.starts;
  busy = s.busy;
}

pub crash_sound : (w : World) (gate : GateLeft) → IsSound w → IsSound (crashed w gate)
crash_sound w gate s = record {
  begins = s.begins;
  legal =
      subst (IsLegal w.first) (sym (append-nil _))
      (legal_append w.first (history_to w (kept_by w gate)) (Restart ∷ [])
      (legal_front w.first _ (members (drop (kept_by w gate) w.life)) (subst (IsLegal w.first) (sym (members_rest w.earlier (kept_by w gate) w.life)) s.legal))
      (tt, tt));
  order = record { retired_settled = omega arith; settled_all = omega arith; sealed_all = omega arith; sealing = λ _. omega arith };
  marks = record { told = λ p e. absurd (cc); closed = λ p h e. absurd (cc) };
  starts = subst (CountsBelow 1) (sym (replay-append w.first (history_to w (kept_by w gate)) (Restart ∷ []))) (record { door = omega arith; each = All-nil (λ (x : Session). x.count < 1) });
  busy = λ e. absurd (cc);
}

pub event_sound : (snapshot : Vault → ℕ) (w : World) (event : Event) → AllowsEvent snapshot w event → IsSound w → IsSound (happened snapshot w event)
event_sound snapshot w (Within act) a s = act_sound snapshot w act a s
event_sound snapshot w (Crash gate) a s = crash_sound w gate s

pub run_sound : (snapshot : Vault → ℕ) (w : World) (events : List Event) → IsRun snapshot w events → IsSound w → IsSound (run snapshot w events)
run_sound snapshot w [] r s = s
run_sound snapshot w (event ∷ events) r s = run_sound snapshot (happened snapshot w event) events r.1 (event_sound snapshot w event r.0 s)

-- after every run
pub after_run : (snapshot : Vault → ℕ) (events : List Event) → IsRun snapshot new_world events → IsSound (run snapshot new_world events)
after_run snapshot events r = run_sound snapshot new_world events r new_sound

-- every event keeps the vault with which the first life began
first_kept : (snapshot : Vault → ℕ) (w : World) (event : Event) → (happened snapshot w event).first ≡ w.first
first_kept snapshot w (Within (Stage session command)) = refl
first_kept snapshot w (Within Pump) = refl
first_kept snapshot w (Within Fault) = refl
first_kept snapshot w (Within StartSnapshot) = refl
first_kept snapshot w (Within (Tell position)) = refl
first_kept snapshot w (Within (Forget position)) = refl
first_kept snapshot w (Within Retire) = refl
first_kept snapshot w (Crash gate) = refl

pub first_stays : (snapshot : Vault → ℕ) (w : World) (events : List Event) → (run snapshot w events).first ≡ w.first
first_stays snapshot w [] = refl
first_stays snapshot w (event ∷ events) = first_stays snapshot (happened snapshot w event) events ∙ first_kept snapshot w event

-- a run in two parts
pub run-append : (snapshot : Vault → ℕ) (w : World) (xs ys : List Event) → run snapshot w (xs ++ ys) ≡ run snapshot (run snapshot w xs) ys
run-append snapshot w [] ys = refl
run-append snapshot w (x ∷ xs) ys = run-append snapshot (happened snapshot w x) xs ys

pub first_part : (snapshot : Vault → ℕ) (w : World) (xs ys : List Event) → IsRun snapshot w (xs ++ ys) → IsRun snapshot w xs
first_part snapshot w [] ys r = tt
first_part snapshot w (x ∷ xs) ys r = (r.0, first_part snapshot (happened snapshot w x) xs ys r.1)

pub second_part : (snapshot : Vault → ℕ) (w : World) (xs ys : List Event) → IsRun snapshot w (xs ++ ys) → IsRun snapshot (run snapshot w xs) ys
second_part snapshot w [] ys r = r
second_part snapshot w (x ∷ xs) ys r = second_part snapshot (happened snapshot w x) xs ys r.1
