-- The view acts as its world.
use Rattle.std.proofs.Common.{◌≡◌, inl, inr, ℕ, ◌+◌, ◌-◌, ◌≤◌, true, false, cond, List, [], ◌∷◌, ◌++◌, length, take, drop, Some, refl, sym, ap, ◌∙◌, arith, length-drop}
use Rattle.std.proofs.lemmas.List.{drop-append-le, take-append-le, drop-drop}
use Rattle.std.proofs.lemmas.Bool.{cases_lt}
use Rattle.vault_model.specs.Said.{Command}
use Rattle.vault_state.specs.Vault.{Vault, durable}
use Rattle.group_commit.specs.declared.mark.Mark.{Mark}
use Rattle.group_commit.specs.declared.mark.Mark.TheVariants.{Open, Told, Forgotten}
use Rattle.vault_store.specs.declared.phase.Phase.{Phase}
use Rattle.vault_store.specs.declared.phase.Phase.TheVariants.{Idle, Written, Bodied, Opening, Start, Closing, Writing, Filled, Ready, SnapOpening}
use Rattle.group_commit.specs.Entries.{Kept, opened, mark_at, with_mark, told_in}
use Rattle.group_commit.specs.History.{replay, entry_of, members, effects}
use Rattle.vault_store.specs.Phases.{Waiting, Nothing, NoEffects, Effects, Row, row, settled_by, after_fault, is_idle}
use Rattle.group_commit.specs.Phases.{waiting}
use Rattle.group_commit.specs.World.{World, history_to, vault_at, vault_of, row_of, Act, Stage, Pump, Fault, StartSnapshot, Tell, Forget, Retire, acted}
use Rattle.group_commit.specs.View.{view_of, length_of, view_at, book_of, view_row, after_first, view_acted}
use Rattle.group_commit.specs.Laws.{ActsAsItsView}
use Rattle.group_commit.proofs.Folds.{replay-append, members_part, members_rest, drop_part}
use Rattle.group_commit.proofs.Marks.{mark_drop, drop-with_mark, take-with_mark, told_one_more, told_same, told_open}
use Rattle.group_commit.proofs.Sound.{IsSound}

pub len_is : (w : World) → IsSound w → length_of (view_of w) ≡ length w.life
len_is w s = omega (arith, length-drop w.retired w.life, s.order.retired_settled, s.order.settled_all)

pub view_at_is : (w : World) (n : ℕ) → w.retired ≤ n → view_at (view_of w) n ≡ vault_at w n
view_at_is w n h = sym (replay-append w.first (history_to w w.retired) (members (take (n - w.retired) (drop w.retired w.life)))) ∙ ap (replay w.first) (members_part w.earlier n w.retired w.life h)

pub book_is : (w : World) → book_of (view_of w) ≡ vault_of w
book_is w = sym (replay-append w.first (history_to w w.retired) (members (drop w.retired w.life))) ∙ ap (replay w.first) (members_rest w.earlier w.retired w.life)

pub unsettled_is : (w : World) → IsSound w → drop (w.settled - w.retired) (drop w.retired w.life) ≡ drop w.settled w.life
unsettled_is w s = drop_part w.settled w.retired w.life s.order.retired_settled

-- a row that starts in Idle doesn't depend on a snapshot's length
idle_row : (phase : Phase) (p : Waiting) (a b : ℕ) → (is_idle phase ≡ false → a ≡ b) → row phase p a ≡ row phase p b
idle_row Idle Nothing a b h = refl
idle_row Idle NoEffects a b h = refl
idle_row Idle Effects a b h = refl
idle_row Written p a b h = refl
idle_row Bodied p a b h = refl
idle_row Opening p a b h = refl
idle_row Start p a b h = refl
idle_row Closing p a b h = ap (row Closing p) (h refl)
idle_row (Writing left) p a b h = refl
idle_row Filled p a b h = refl
idle_row Ready p a b h = refl
idle_row SnapOpening p a b h = refl

pub row_is : (snapshot : Vault → ℕ) (w : World) → IsSound w → row_of snapshot w ≡ view_row snapshot (view_of w)
row_is snapshot w s =
    sym (idle_row w.phase _ _ (snapshot (durable (vault_at w w.sealed))) (λ busy. ap (λ v. snapshot (durable v)) (view_at_is w w.sealed (omega (arith, s.order.sealing busy, s.order.retired_settled))))
    ∙ ap (λ p. row w.phase p (snapshot (durable (vault_at w w.sealed))))
    (ap (λ l. waiting l (effects (view_at (view_of w) w.settled) l)) (unsettled_is w s)
    ∙ ap (λ v. waiting (drop w.settled w.life) (effects v (drop w.settled w.life))) (view_at_is w w.settled s.order.retired_settled)))

-- an open entry isn't retired
pub open_is_kept : (w : World) (position : ℕ) → IsSound w → mark_at w.life position ≡ Some Open → w.retired ≤ position
open_is_kept w position s e = elim (cases_lt position w.retired) [
  | inl h ↦ absurd (s.marks.closed position h e)
  | inr h ↦ h
]

marks_alike : (m : Mark) (w : World) (position : ℕ) (told : ℕ) → w.retired ≤ position → told_in (with_mark m w.life position) ≡ told →
    view_of (record w { life = with_mark m w.life position }) ≡ record (view_of w) { kept = with_mark m (drop w.retired w.life) (position - w.retired); told = told }
marks_alike m w position told h e =
    let base = ap (λ ms. replay w.first (w.earlier ++ ms)) (take-with_mark m w.life w.retired position) in
    let kept = drop-with_mark m w.life w.retired position h in
    λ i. record { base = base i; kept = kept i; settled = w.settled; sealed = w.sealed; retired = w.retired; told = e i; phase = w.phase; broken = w.broken }

after_first_is : (base : Vault) (l : List Kept) → after_first base l ≡ replay base (members (take 1 l))
after_first_is base [] = refl
after_first_is base (x ∷ xs) = refl

one_more : (n : ℕ) → n + 1 - n ≡ 1
one_more n = omega arith

mark_first : (w : World) → mark_at (drop w.retired w.life) 0 ≡ mark_at w.life w.retired
mark_first w = ap (mark_at (drop w.retired w.life)) (sub_self w.retired) ∙ mark_drop w.life w.retired w.retired (omega arith)
  where
    sub_self : (n : ℕ) → 0 ≡ n - n
    sub_self n = omega arith

-- each act by itself
stages : (snapshot : Vault → ℕ) (w : World) (session : ℕ) (command : Command) → IsSound w → view_of (acted snapshot w (Stage session command)) ≡ view_acted snapshot (view_of w) (Stage session command)
stages snapshot w session command s =
    let h : w.retired ≤ length w.life = omega (arith, s.order.retired_settled, s.order.settled_all) in
    let more : List Kept = opened (entry_of (vault_of w) session command) ∷ [] in
    let base = ap (λ l. replay w.first (w.earlier ++ members l)) (take-append-le w.retired w.life more h) in
    let kept = drop-append-le w.retired w.life more h ∙ ap (λ v. drop w.retired w.life ++ opened (entry_of v session command) ∷ []) (sym (book_is w)) in
    let told = told_open w.life (entry_of (vault_of w) session command) in
    λ i. record { base = base i; kept = kept i; settled = w.settled; sealed = w.sealed; retired = w.retired; told = told i; phase = w.phase; broken = w.broken }

pumps : (snapshot : Vault → ℕ) (w : World) → IsSound w → view_of (acted snapshot w Pump) ≡ view_acted snapshot (view_of w) Pump
pumps snapshot w s =
    let r = row_is snapshot w s in
    let n = sym (len_is w s) in
    λ i. record (view_of w) { settled = settled_by (r i).settles w.settled w.sealed (n i); sealed = cond (r i).seals (n i) w.sealed; phase = (r i).next }

fails : (snapshot : Vault → ℕ) (w : World) → IsSound w → view_of (acted snapshot w Fault) ≡ view_acted snapshot (view_of w) Fault
fails snapshot w s =
    let r = row_is snapshot w s in
    let n = sym (len_is w s) in
    λ i. record (view_of w) { sealed = after_fault (r i).call w.sealed (cond (r i).seals (n i) w.sealed); phase = after_fault (r i).call w.phase (r i).next; broken = true }

retires : (snapshot : Vault → ℕ) (w : World) → view_of (acted snapshot w Retire) ≡ view_acted snapshot (view_of w) Retire
retires snapshot w =
    let v = vault_at w w.retired in
    let rest = drop w.retired w.life in
    let base = sym (view_at_is w (w.retired + 1) (omega arith)) ∙ ap (λ k. replay v (members (take k rest))) (one_more w.retired) ∙ sym (after_first_is v rest) in
    let kept = sym (drop-drop 1 w.retired w.life) in
    λ i. record { base = base i; kept = kept i; settled = w.settled; sealed = w.sealed; retired = w.retired + 1; told = told_in w.life; phase = w.phase; broken = w.broken }

-- each act is that act on the view
pub acts_as : (snapshot : Vault → ℕ) (w : World) (act : Act) → IsSound w → ActsAsItsView snapshot w act
acts_as snapshot w (Stage session command) s = record {
  allowed = (λ a. a, λ a. a);
  pumps = row_is snapshot w s;
  after = λ a. stages snapshot w session command s;
}
acts_as snapshot w Pump s = record {
  allowed = (λ a. a, λ a. a);
  pumps = row_is snapshot w s;
  after = λ a. pumps snapshot w s;
}
acts_as snapshot w Fault s = record {
  allowed = (λ a. (a.0, λ e. a.1 (ap (λ (r : Row). r.call) (row_is snapshot w s) ∙ e)), λ a. (a.0, λ e. a.1 (ap (λ (r : Row). r.call) (sym (row_is snapshot w s)) ∙ e)));
  pumps = row_is snapshot w s;
  after = λ a. fails snapshot w s;
}
acts_as snapshot w StartSnapshot s = record {
  allowed = (λ a. a, λ a. a);
  pumps = row_is snapshot w s;
  after = λ a.
      let n = sym (len_is w s) in
      λ i. record { base = vault_at w w.retired; kept = drop w.retired w.life; settled = w.settled; sealed = n i; retired = w.retired; told = told_in w.life; phase = Start; broken = w.broken };
}
acts_as snapshot w (Tell position) s = record {
  allowed = (λ a. let h = open_is_kept w position s a.1 in (a.0, h, mark_drop w.life w.retired position h ∙ a.1), λ a. (a.0, sym (mark_drop w.life w.retired position a.1) ∙ a.2));
  pumps = row_is snapshot w s;
  after = λ a. marks_alike Told w position (told_in w.life + 1) (open_is_kept w position s a.1) (told_one_more w.life position a.1);
}
acts_as snapshot w (Forget position) s = record {
  allowed = (λ a. let h = open_is_kept w position s a in (h, mark_drop w.life w.retired position h ∙ a), λ a. sym (mark_drop w.life w.retired position a.0) ∙ a.1);
  pumps = row_is snapshot w s;
  after = λ a. marks_alike Forgotten w position (told_in w.life) (open_is_kept w position s a) (told_same w.life position a);
}
acts_as snapshot w Retire s = record {
  allowed = (λ a. (a.0, λ e. a.1 (sym (mark_first w) ∙ e)), λ a. (a.0, λ e. a.1 (mark_first w ∙ e)));
  pumps = row_is snapshot w s;
  after = λ a. retires snapshot w;
}
