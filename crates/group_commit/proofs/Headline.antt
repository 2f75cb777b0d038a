-- What is recovered after any past.
use Rattle.std.proofs.Common.{◌≡◌, ◌⊎◌, inl, inr, ℕ, ◌+◌, ◌-◌, ◌≤◌, ◌<◌, Bool, List, ◌∷◌, ◌++◌, length, take, Some, refl, sym, ap, ◌∙◌, subst, arith, length-append}
use Rattle.std.specs.Prelude.{IsTrue, false, slice_get, None}
use Rattle.std.specs.Option.{option_map}
use Rattle.std.proofs.lemmas.List.{length-map}
use Rattle.std.proofs.lemmas.Option.{slice_get-map}
use Rattle.vault_state.specs.declared.ids.ClaimId.TheVariants.{Short}
use Rattle.vault_state.specs.Claims.{claim_of}
use Rattle.vault_state.specs.Vault.{Vault, durable}
use Rattle.vault_device.specs.Disk.{Disk}
use Rattle.vault_store.specs.Phases.{is_idle, is_opening, may_open}
use Rattle.vault_store.specs.Laws.{CrashLeavesWhatIsKept, OneGateIsOpened, OneVault, NothingIsWrong}
use Rattle.vault_store.proofs.Busy.{opening_is_busy, may_open_is_busy}
use Rattle.group_commit.specs.declared.mark.Mark.{Mark}
use Rattle.group_commit.specs.declared.mark.Mark.TheVariants.{Told}
use Rattle.group_commit.specs.Entries.{Entry, Kept, mark_at}
use Rattle.group_commit.specs.History.{Member, Given, replay, IsLegal, members}
use Rattle.group_commit.specs.World.{World, world_of, history, vault_at}
use Rattle.group_commit.specs.Runs.{Event, run, IsRun}
use Rattle.group_commit.specs.View.{View, view_of}
use Rattle.group_commit.specs.Laws.{AreApart}
use Rattle.group_commit.specs.Seen.{VaultSeen, snapshot_length}
use Rattle.group_commit.specs.Pasts.{IsPast, beginning}
use Rattle.group_commit.specs.Positions.{HasTold}
use Rattle.group_commit.specs.Ticket.{Told as Receipt, entry_in}
use Rattle.group_commit.specs.Recovered.{world_after, events_until, IsOneRun, history_of, life_begins, position_of_entry, IsRecovered, IsKeptThrough, ReceiptsAreFoundAgain}
use Rattle.group_commit.proofs.Guarded.{history_is_guarded}
use Rattle.group_commit.proofs.Sound.{IsSound, first_stays, run_sound, run-append, first_part, second_part}
use Rattle.group_commit.proofs.Stays.{StandsSettled, stays}
use Rattle.group_commit.proofs.ViewLaw.{view_at_is}
use Rattle.group_commit.proofs.Recovery.{prefix_is}
use Rattle.group_commit.proofs.Prefixes.{get_take, get_drop, get_behind, no_short}
use Rattle.group_commit.proofs.Pasts.{IsFound, IsFoundIn, found_between, found_by_stop, opened_as, of_a_vault, reaches, begins_sound, past_sound, one_run, until_first}

-- a vault is the durable one after this many entries of a life: all that are durable, and maybe more
record IsCut (open_gate : Bool) (w : World) (left : Vault) : Type 0 where
  n : ℕ
  choice : (n ≡ w.settled) ⊎ (IsTrue open_gate × (n ≡ w.sealed))
  settled : w.settled ≤ n
  all : n ≤ length w.life
  left_is : left ≡ durable (vault_at w n)

cut_of : (open_gate : Bool) (w : World) (left : Vault) → IsSound w → (IsTrue open_gate → is_idle w.phase ≡ false) → IsFound open_gate (view_of w) left → IsCut open_gate w left
cut_of open_gate w left s busy found = elim found [
  | inl e ↦ record { n = w.settled; choice = inl refl; settled = omega arith; all = s.order.settled_all; left_is = e ∙ ap durable (view_at_is w w.settled s.order.retired_settled) }
  | inr e ↦
      let more : w.settled ≤ w.sealed = s.order.sealing (busy e.0) in
      record { n = w.sealed; choice = inr (e.0, refl); settled = more; all = s.order.sealed_all; left_is = e.1 ∙ ap durable (view_at_is w w.sealed (omega (arith, more, s.order.retired_settled))) }
]

-- what was acknowledged at some point of a run stands, and is durable, at its end
told_then : (first : Vault) (before rest events : List Event) (view : View) (place : ℕ) (kept : Kept) → IsSound (world_of first) → before ++ rest ≡ events → view_of (world_after first before) ≡ view → IsRun snapshot_length (world_of first) events
    → slice_get view.kept place ≡ Some kept → kept.mark ≡ Told → StandsSettled (world_after first events) (length (world_after first before).earlier + (view.retired + place)) kept.entry
told_then first before rest events view place kept begins whole shows r at told =
    let start : World = world_of first in
    let w : World = world_after first before in
    let parts : IsRun snapshot_length start (before ++ rest) = subst (IsRun snapshot_length start) (sym whole) r in
    let s : IsSound w = run_sound snapshot_length start before (first_part snapshot_length start before rest parts) begins in
    let here : slice_get w.life (w.retired + place) ≡ Some kept = get_drop w.retired w.life place kept (subst (λ (v : View). slice_get v.kept place ≡ Some kept) (sym shows) at) in
    let mark : mark_at w.life (w.retired + place) ≡ Some Told = slice_get-map (λ (k : Kept). k.mark) w.life (w.retired + place) ∙ ap (option_map (λ (k : Kept). k.mark)) here ∙ ap (λ (m : Mark). Some m) told in
    let below : w.retired + place < w.settled = s.marks.told (w.retired + place) mark in
    let member : slice_get (members w.life) (w.retired + place) ≡ Some (Given kept.entry) = slice_get-map (λ (k : Kept). Given k.entry) w.life (w.retired + place) ∙ ap (option_map (λ (k : Kept). Given k.entry)) here in
    let begun : StandsSettled w (length w.earlier + (w.retired + place)) kept.entry = record { stands = get_behind w.earlier (members w.life) (w.retired + place) (Given kept.entry) member; below = omega (arith, below) } in
    let later = stays snapshot_length w rest (length w.earlier + (w.retired + place)) kept.entry s (second_part snapshot_length start before rest parts) begun in
    let ends : run snapshot_length w rest ≡ world_after first events = sym (run-append snapshot_length start before rest) ∙ ap (world_after first) whole in
    let same : w.retired ≡ view.retired = ap (λ (v : View). v.retired) shows in
    let there : length w.earlier + (w.retired + place) ≡ length w.earlier + (view.retired + place) = omega (arith, same) in
    subst (λ (k : ℕ). StandsSettled (world_after first events) k kept.entry) there (subst (λ (v : World). StandsSettled v (length w.earlier + (w.retired + place)) kept.entry) ends later)

chosen : (open_gate : Bool) (w : World) (view : View) (n : ℕ) → view_of w ≡ view → (n ≡ w.settled) ⊎ (IsTrue open_gate × (n ≡ w.sealed))
    → (length w.earlier + n ≡ length w.earlier + view.settled) ⊎ (IsTrue open_gate × (length w.earlier + n ≡ length w.earlier + view.sealed))
chosen open_gate w view n e choice = elim choice [
  | inl same ↦ inl (ap (λ k. length w.earlier + k) (same ∙ ap (λ (v : View). v.settled) e))
  | inr same ↦ inr (same.0, ap (λ k. length w.earlier + k) (same.1 ∙ ap (λ (v : View). v.sealed) e))
]

length-history : (w : World) → length (history w) ≡ length w.earlier + length w.life
length-history w = length-append w.earlier (members w.life) ∙ ap (λ n. length w.earlier + n) (length-map w.life (λ (k : Kept). Given k.entry))

module _ {D : Type 0} (disk : D → Disk) (law : CrashLeavesWhatIsKept disk) (one_gate : OneGateIsOpened disk) (one_vault : OneVault) (right : NothingIsWrong) where
  module _ (now : VaultSeen D) (past : List (VaultSeen D)) (p : IsPast disk now past) (one : IsOneRun disk now past p) where
    -- what was acknowledged at some point of the past stands, and is durable, in its history
    stands_told : (n place : ℕ) (seen : VaultSeen D) (kept : Kept) → slice_get (now ∷ past) n ≡ Some seen → slice_get seen.view.kept place ≡ Some kept → kept.mark ≡ Told
        → StandsSettled (world_after (beginning now past) one.events) (life_begins one n + (seen.view.retired + place)) kept.entry
    stands_told n place seen kept at there told =
        let q = until_first disk now past p one.events one.calls n in
        told_then (beginning now past) (events_until disk now past p one.events one.calls n) q.0 one.events seen.view place kept (begins_sound disk law one_gate one_vault now past p) q.1 (one.shown n seen at) one.is_run there told

    recovered : (open_gate : Bool) (x y : List ℕ) → (IsTrue open_gate → is_idle now.view.phase ≡ false) → IsFoundIn open_gate now.view x y → IsRecovered one open_gate x y
    recovered open_gate x y busy f =
        let first : Vault = beginning now past in
        let w : World = world_after first one.events in
        let is = (begins_sound disk law one_gate one_vault now past p).begins in
        let shows : view_of w ≡ now.view = reaches disk law one_gate one_vault now past p one in
        let s : IsSound w = past_sound disk law one_gate one_vault now past p one in
        let c : IsCut open_gate w f.left =
        cut_of open_gate w f.left s (λ o. ap (λ (v : View). is_idle v.phase) shows ∙ busy o) (subst (λ (v : View). IsFound open_gate v f.left) (sym shows) f.found) in
        let same : w.first ≡ first = first_stays snapshot_length (world_of first) one.events in
        let cut : List Member = take (length w.earlier + c.n) (history w) in
        let prefix : f.left ≡ durable (replay first cut) = c.left_is ∙ ap (λ (h : List Member). durable (replay w.first h)) (prefix_is w c.n c.all) ∙ ap (λ (v : Vault). durable (replay v cut)) same in
        record {
          vault = f.left;
          stands = f.stands;
          sound = λ why found is. right x y why found is f.left f.stands;
          recovery = λ new opened. sym (opened_as disk law one_gate one_vault x y f.left new f.stands opened);
          cut = length w.earlier + c.n;
          choice = chosen open_gate w now.view c.n shows c.choice;
          within = omega (arith, c.all, length-history w);
          prefix = prefix;
          told = λ n place seen kept at there told.
              let t = stands_told n place seen kept at there told in
              get_take (length w.earlier + c.n) (history w) (life_begins one n + (seen.view.retired + place)) (Given kept.entry) (omega (arith, t.below, c.settled)) t.stands;
          claims = ap (λ (v : Vault). v.line) prefix;
          no_short = λ number. subst (λ (v : Vault). claim_of v.line (Short number) ≡ None) (sym prefix) (no_short (replay first cut).line number);
          guarded = history_is_guarded first cut is;
          apart = subst AreApart (sym prefix) (history_is_guarded first cut is).durably_apart;
        }

    entry_found : (n : ℕ) (seen : VaultSeen D) (told : Receipt) → slice_get (now ∷ past) n ≡ Some seen → HasTold seen.view told → (open_gate : Bool) (x y : List ℕ) (r : IsRecovered one open_gate x y)
        → slice_get (take r.cut (history_of one)) (position_of_entry one n told) ≡ Some (Given (entry_in told))
    entry_found n seen told at has open_gate x y r =
        let whole : seen.view.retired + (told.position - seen.view.retired) ≡ told.position = omega (arith, has.not_retired) in
        subst (λ (k : ℕ). slice_get (take r.cut (history_of one)) (life_begins one n + k) ≡ Some (Given (entry_in told))) whole
        (r.told n (told.position - seen.view.retired) seen has.kept at has.stands has.mark ∙ ap (λ (e : Entry). Some (Given e)) has.is)

  -- the headline
  pub kept_through : (now : VaultSeen D) (past : List (VaultSeen D)) (p : IsPast disk now past) → IsKeptThrough disk now past p
  kept_through now past p =
      let one = one_run disk law one_gate one_vault now past p in
      record {
        one = one;
        legal = subst (λ (v : Vault). IsLegal v (history_of one)) (first_stays snapshot_length (world_of (beginning now past)) one.events) (past_sound disk law one_gate one_vault now past p one).legal;
        between = λ x y crash. recovered now past p one (is_opening now.view.phase) x y (opening_is_busy now.view.phase) (found_between disk law one_gate one_vault now x y (of_a_vault disk law one_gate one_vault now past p) crash);
        inside = λ x y stop. recovered now past p one (may_open now.view.phase) x y (may_open_is_busy now.view.phase) (found_by_stop disk law one_gate one_vault now x y stop);
      }

  -- a receipt is found again
  pub found_again : (now : VaultSeen D) → ReceiptsAreFoundAgain disk now
  found_again now past p n seen told at has =
      let kept = kept_through now past p in
      record {
        kept = kept;
        between = λ x y crash. entry_found now past p kept.one n seen told at has (is_opening now.view.phase) x y (kept.between x y crash);
        inside = λ x y stop. entry_found now past p kept.one n seen told at has (may_open now.view.phase) x y (kept.inside x y stop);
      }
