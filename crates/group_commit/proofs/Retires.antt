-- What retiring the oldest entry leaves.
use Rattle.std.proofs.Common.{◌≡◌, ◌≢◌, inr, ℕ, suc, ◌+◌, ◌-◌, ◌≤◌, ◌<◌, ◌^◌, cond, List, [], ◌∷◌, ◌++◌, length, take, drop, Some, refl, sym, ap, ◌∙◌, subst, arith}
use Rattle.vault_state.specs.Vault.{Vault, durable}
use Rattle.vault_device.specs.Disk.{Disk}
use Rattle.vault_store.specs.Phases.{is_idle}
use Rattle.vault_store.specs.Seen.{Keeps}
use Rattle.group_commit.specs.declared.mark.Mark.TheVariants.{Open}
use Rattle.group_commit.specs.Entries.{Kept, mark_at, told_in, is_told}
use Rattle.group_commit.specs.History.{Given, replay, outcome_of, members, effects}
use Rattle.group_commit.specs.World.{Retire}
use Rattle.group_commit.specs.View.{View, view_at, view_acted}
use Rattle.group_commit.specs.Seen.{VaultSeen, snapshot_length, framed, effects_between, effects_from, state_of, IsSoundView}
use Rattle.group_commit.specs.Inside.{IsSoundVault}
use Rattle.group_commit.specs.declared.answers.Retired.TheVariants as answers
use Rattle.group_commit.specs.Calls.{IsRetired}
use Rattle.group_commit.specs.Pasts.{IsAnswered}
use Rattle.group_commit.proofs.Facts.{counts_rise}
use Rattle.group_commit.proofs.Folds.{replay-append, members-append}
use Rattle.group_commit.proofs.Guarded.{replay_well_formed}
use Rattle.group_commit.proofs.Marks.{at_most_one}
use Rattle.group_commit.proofs.States.{framed_bounds}

-- a view whose oldest entry is this one, and the view behind it
abbrev pub beginning : View → Kept → List Kept → View
beginning v x rest = record v { kept = x ∷ rest }

abbrev pub behind : View → Kept → List Kept → View
behind v x rest = record v { base = (outcome_of v.base x.entry).vault; kept = rest; retired = v.retired + 1 }

module _ (v : View) (x : Kept) (rest : List Kept) (s : IsSoundView (beginning v x rest)) (settled : v.retired < v.settled) where
  pub retired_sound : IsSoundView (behind v x rest)
  retired_sound =
      let least : cond (is_told x.mark) 1 0 + told_in rest ≤ v.told = s.told_least in
      let most : v.told ≤ v.retired + (cond (is_told x.mark) 1 0 + told_in rest) = s.told_most in
      let one = at_most_one (is_told x.mark) in
      let settled_all : v.settled ≤ v.retired + suc (length rest) = s.order.settled_all in
      let sealed_all : v.sealed ≤ v.retired + suc (length rest) = s.order.sealed_all in
      record {
        well_formed = replay_well_formed v.base (Given x.entry ∷ []) s.well_formed;
        legal = s.legal.1;
        order = record { retired_settled = omega arith; settled_all = omega arith; sealed_all = omega arith; sealing = s.order.sealing };
        told = λ p e. let below : v.retired + suc p < v.settled = s.told (suc p) e in omega arith;
        told_least = omega arith;
        told_most = omega arith;
        few = let few = s.few in omega arith;
        counts = counts_rise (v.retired + 1) v.base x.entry.session x.entry.command s.counts;
        busy = s.busy;
      }

  one_fewer : (n : ℕ) → v.retired < n → n - v.retired ≡ suc (n - (v.retired + 1))
  one_fewer n h = omega arith

  at_retired : (n : ℕ) → v.retired < n → view_at (behind v x rest) n ≡ view_at (beginning v x rest) n
  at_retired n h = ap (λ k. replay v.base (members (take k (x ∷ rest)))) (sym (one_fewer n h))

  between_retired : (n m : ℕ) → v.retired < n → effects_between (behind v x rest) n m ≡ effects_between (beginning v x rest) n m
  between_retired n m h = ap (λ k. effects (replay v.base (members (take k (x ∷ rest)))) (take (m - n) (drop k (x ∷ rest)))) (sym (one_fewer n h))

  from_retired : (n : ℕ) → v.retired < n → effects_from (behind v x rest) n ≡ effects_from (beginning v x rest) n
  from_retired n h = ap (λ k. effects (replay v.base (members (take k (x ∷ rest)))) (drop k (x ∷ rest))) (sym (one_fewer n h))

  pub state_retired : state_of (behind v x rest) ≡ state_of (beginning v x rest)
  state_retired =
      let least : v.settled ≤ framed v = (framed_bounds (beginning v x rest) s.order).0 in
      let further : v.retired < framed v = omega arith in
      let at_settled = ap durable (at_retired v.settled settled) in
      let at_sealed = ap durable (at_retired (framed v) further) in
      let sealing = ap (cond (is_idle v.phase) []) (between_retired v.settled v.sealed settled) in
      let buffer = from_retired (framed v) further in
      λ i. record { settled = at_settled i; sealed = at_sealed i; noted = durable (replay v.base (members (x ∷ rest))); sealing = sealing i; buffer = buffer i; phase = v.phase; broken = v.broken }

-- the entry that the next one is kept behind is the last of those that are gone
pub gone_one : (base : Vault) (gone : List Kept) (x : Kept) → replay base (members (gone ++ x ∷ [])) ≡ (outcome_of (replay base (members gone)) x.entry).vault
gone_one base gone x = ap (replay base) (members-append gone (x ∷ [])) ∙ replay-append base (members gone) (members (x ∷ []))

-- a vault whose oldest entry is dropped
abbrev pub retired : {D : Type 0} → VaultSeen D → Vault → List Kept → VaultSeen D
retired seen base kept = record seen { view = record seen.view { base = base; kept = kept; retired = seen.view.retired + 1 } }

-- where the counts of retired and of durable entries differ, fewer are retired
pub settled_more : {D : Type 0} (disk : D → Disk) (seen : VaultSeen D) (book : Vault) → IsSoundVault disk seen book → seen.view.retired ≢ seen.view.settled → seen.view.retired < seen.view.settled
settled_more disk seen book k h = let o : seen.view.retired ≤ seen.view.settled = k.sound.order.retired_settled in omega (arith, h, o)

module _ {D : Type 0} (disk : D → Disk) (seen : VaultSeen D) (book : Vault) (k : IsSoundVault disk seen book) (x : Kept) (rest : List Kept) (first : seen.view.kept ≡ x ∷ rest) (base : Vault) (next : base ≡ (outcome_of seen.view.base x.entry).vault) (settled : seen.view.retired < seen.view.settled) where
  here : IsSoundVault disk (record seen { view = beginning seen.view x rest }) book
  here = subst (λ (l : List Kept). IsSoundVault disk (record seen { view = record seen.view { kept = l } }) book) first k

  pub retired_kept : IsSoundVault disk (retired seen base rest) book
  retired_kept =
      subst (λ (b : Vault). IsSoundVault disk (retired seen b rest) book) (sym next)
      (record {
        book_is = here.book_is;
        sound = retired_sound seen.view x rest here.sound settled;
        fits = let f : seen.view.retired + suc (length rest) < 2 ^ 64 = here.fits in omega arith;
        stands = subst (Keeps disk seen.store) (sym (state_retired seen.view x rest here.sound settled)) here.stands;
      })

  retired_view : (retired seen base rest).view ≡ view_acted snapshot_length seen.view Retire
  retired_view =
      subst (λ (l : List Kept). (retired seen base rest).view ≡ view_acted snapshot_length (record seen.view { kept = l }) Retire) (sym first) (λ i. record seen.view { base = next i; kept = rest; retired = seen.view.retired + 1 })

  pub retires : mark_at seen.view.kept 0 ≢ Some Open → IsRetired seen (retired seen base rest) answers.One
  retires closed = ((settled, closed), (λ i. record seen { view = retired_view i }))

  pub retiring_is_answered : mark_at seen.view.kept 0 ≢ Some Open → IsAnswered seen (retired seen base rest)
  retiring_is_answered closed = inr (Retire, record { allowed = (settled, closed); made = retired_view; life = refl })
