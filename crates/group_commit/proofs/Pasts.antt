-- The past of a vault is one run of events.
use Rattle.std.proofs.Common.{◌≡◌, ◌⊎◌, inl, inr, ⊎_elim, ℕ, zero, suc, Bool, false, cond, ◌+◌, List, [], ◌∷◌, ◌++◌, Some, refl, sym, ap, ◌∙◌, subst, append_assoc}
use Rattle.std.specs.Prelude.{IsTrue, None, slice_get}
use Rattle.std.proofs.lemmas.List.{append-nil}
use Rattle.std.proofs.lemmas.Option.{same_Some}
use Rattle.vault_state.specs.Vault.{Vault, CountsBelow, durable}
use Rattle.vault_device.specs.Disk.{Disk}
use Rattle.vault_store.specs.declared.phase.Phase.{Phase}
use Rattle.vault_store.specs.declared.phase.Phase.TheVariants.{Idle, Written, Bodied, Opening, Start, Closing, Writing, Filled, Ready, SnapOpening}
use Rattle.vault_format.specs.Files.{StandFor}
use Rattle.vault_store.specs.Phases.{is_opening, may_open}
use Rattle.vault_store.specs.Seen.{settled_reading, sealed_reading, IsLeftInside}
use Rattle.vault_store.specs.Laws.{CrashLeavesWhatIsKept, OneGateIsOpened, OneVault}
use Rattle.vault_store.proofs.Busy.{may_open_is_busy}
use Rattle.group_commit.specs.World.{World, world_of, Act, Pump, GateLeft}
use Rattle.group_commit.specs.Runs.{Event, Within, Crash, happened, run, IsRun}
use Rattle.group_commit.specs.View.{View, view_of, opened_view, view_at, ViewAllows, view_acted, MayLeave}
use Rattle.group_commit.specs.Seen.{VaultSeen, snapshot_length, state_of}
use Rattle.group_commit.specs.Promises.{IsCrash}
use Rattle.group_commit.specs.Pasts.{IsOfAVault, IsStopInside, IsStop, IsOpenedOn, IsNext, IsPast, beginning}
use Rattle.group_commit.specs.Recovered.{world_after, AreOfStop, AreOfNext, AreOfPast, events_until, IsOneRun}
use Rattle.group_commit.proofs.Sound.{IsSound, first_sound, run_sound, run-append}
use Rattle.group_commit.proofs.ViewLaw.{acts_as}
use Rattle.group_commit.proofs.Recovery.{crashed_view, left_is_recovered}
use Rattle.group_commit.proofs.Images.{images_stand}

-- such events lead from a world to one with this view
pub record Leads (w : World) (view : View) (Are : List Event → Type 0) : Type 0 where
  pub more : List Event
  pub is_run : IsRun snapshot_length w more
  pub shows : view_of (run snapshot_length w more) ≡ view
  pub are : Are more

none_there : {A : Type 0} (x : A) → None ≡ Some x → ⊥
none_there x e = cc

both_parts : (w : World) (xs ys : List Event) → IsRun snapshot_length w xs → IsRun snapshot_length (run snapshot_length w xs) ys → IsRun snapshot_length w (xs ++ ys)
both_parts w [] ys r q = q
both_parts w (x ∷ xs) ys r q = (r.0, both_parts (happened snapshot_length w x) xs ys r.1 q)

abbrev IsNoEvent : List Event → Type 0
IsNoEvent events = events ≡ []

abbrev IsAct : Act → List Event → Type 0
IsAct act events = events ≡ Within act ∷ []

abbrev IsACrash : List Event → Type 0
IsACrash events = (gate : GateLeft) × (events ≡ Crash gate ∷ [])

abbrev IsAtMostAPump : List Event → Type 0
IsAtMostAPump events = (gate : GateLeft) × ((events ≡ Crash gate ∷ []) ⊎ (events ≡ Within Pump ∷ Crash gate ∷ []))

stays_so : (w : World) (view : View) → view_of w ≡ view → Leads w view IsNoEvent
stays_so w view e = record { more = []; is_run = tt; shows = e; are = refl }

acts_so : (w : World) (view : View) (act : Act) → IsSound w → view_of w ≡ view → ViewAllows snapshot_length view act → Leads w (view_acted snapshot_length view act) (IsAct act)
acts_so w view act s e a =
    let law = acts_as snapshot_length w act s in
    let allowed = law.allowed.1 (subst (λ (v : View). ViewAllows snapshot_length v act) (sym e) a) in
    record { more = Within act ∷ []; is_run = (allowed, tt); shows = law.after allowed ∙ ap (λ (v : View). view_acted snapshot_length v act) e; are = refl }

opens_so : (w : World) (view : View) (left : Vault) → IsSound w → view_of w ≡ view → MayLeave view left → Leads w (opened_view left) IsACrash
opens_so w view left s e may =
    let found = left_is_recovered w left s (subst (λ (v : View). MayLeave v left) (sym e) may) in
    record { more = Crash found.0 ∷ []; is_run = (tt, tt); shows = crashed_view w found.0 ∙ ap opened_view (sym found.1); are = (found.0, refl) }

no_pump : (w : World) (view : View) → Leads w view IsACrash → Leads w view IsAtMostAPump
no_pump w view l = record { more = l.more; is_run = l.is_run; shows = l.shows; are = (l.are.0, inl l.are.1) }

one_pump : (w : World) (middle view : View) (first : Leads w middle (IsAct Pump)) → Leads (run snapshot_length w first.more) view IsACrash → Leads w view IsAtMostAPump
one_pump w middle view first second = record {
  more = first.more ++ second.more;
  is_run = both_parts w first.more second.more first.is_run second.is_run;
  shows = ap view_of (run-append snapshot_length w first.more second.more) ∙ second.shows;
  are = (second.are.0, inr (ap (λ l. l ++ second.more) first.are ∙ ap (λ l. Within Pump ∷ l) second.are.1));
}

-- what is found of a vault, where a gate may be open or not
abbrev pub IsFound : Bool → View → Vault → Type 0
IsFound open_gate v left = (left ≡ durable (view_at v v.settled)) ⊎ (IsTrue open_gate × (left ≡ durable (view_at v v.sealed)))

-- a crash inside a pump counts as that pump or as none, and then a crash
pump_or_none : (p : Phase) (v : View) (left : Vault) → IsFound (may_open p) (record v { phase = p }) left
    → MayLeave (record v { phase = p }) left ⊎ MayLeave (view_acted snapshot_length (record v { phase = p }) Pump) left
pump_or_none Idle v left found = inl found
pump_or_none Written v left found = inl found
pump_or_none Bodied v left found = inr found
pump_or_none Opening v left found = inl found
pump_or_none Start v left found = inl found
pump_or_none Closing v left found = inl found
pump_or_none (Writing bytes) v left found = inl found
pump_or_none Filled v left found = inl found
pump_or_none Ready v left found = inr found
pump_or_none SnapOpening v left found = inl found

found_so : (w : World) (view : View) (left : Vault) → IsSound w → view_of w ≡ view → view.broken ≡ false → IsFound (may_open view.phase) view left → Leads w (opened_view left) IsAtMostAPump
found_so w view left s e whole found = ⊎_elim
    (λ (may : MayLeave view left). no_pump w (opened_view left) (opens_so w view left s e may))
    (λ (may : MayLeave (view_acted snapshot_length view Pump) left).
    let first = acts_so w view Pump s e whole in
    one_pump w (view_acted snapshot_length view Pump) (opened_view left) first
    (opens_so (run snapshot_length w first.more) (view_acted snapshot_length view Pump) left (run_sound snapshot_length w first.more first.is_run s) first.shows may))
    (pump_or_none view.phase view left found)

-- what is found in two files
pub record IsFoundIn (open_gate : Bool) (v : View) (x y : List ℕ) : Type 0 where
  pub left : Vault
  pub found : IsFound open_gate v left
  pub stands : StandFor x y left

found_inside : {D : Type 0} (seen : VaultSeen D) (x y : List ℕ) → IsLeftInside seen.store (state_of seen.view) x y → IsFoundIn (may_open seen.view.phase) seen.view x y
found_inside seen x y left = elim left [
  | inl read ↦ record { left = (state_of seen.view).settled; found = inl refl; stands = (settled_reading seen.store (state_of seen.view), read, refl) }
  | inr opened ↦ record {
    left = (state_of seen.view).sealed;
    found = inr (opened.0, ap (λ b. durable (view_at seen.view (cond b seen.view.settled seen.view.sealed))) (may_open_is_busy seen.view.phase opened.0));
    stands = (sealed_reading seen.store (state_of seen.view), opened.1, refl);
  }
]

module _ {D : Type 0} (disk : D → Disk) (law : CrashLeavesWhatIsKept disk) (one_gate : OneGateIsOpened disk) (one_vault : OneVault) where
  -- a crash between two calls
  pub found_between : (seen : VaultSeen D) (x y : List ℕ) → IsOfAVault disk seen → IsCrash disk seen x y → IsFoundIn (is_opening seen.view.phase) seen.view x y
  found_between seen x y is crash =
      let left = (images_stand disk seen law one_gate is.stands).stands x y crash in
      record { left = left.0; found = left.1; stands = left.2 }

  -- a crash inside a pump
  pub found_by_stop : (seen : VaultSeen D) (x y : List ℕ) → IsStopInside disk seen x y → IsFoundIn (may_open seen.view.phase) seen.view x y
  found_by_stop seen x y stop = found_inside seen x y (stop.moments x y stop.honest stop.left)

  -- what is opened on files that stand for a vault
  pub opened_as : (x y : List ℕ) (left : Vault) (new : VaultSeen D) → StandFor x y left → IsOpenedOn x y new → opened_view left ≡ new.view
  opened_as x y left new stands opened =
      ap opened_view (one_vault x y left new.view.base stands (_, opened.read, refl)) ∙ sym opened.begins

  next_leads : (old new : VaultSeen D) (next : IsNext disk old new) → IsOfAVault disk old → (w : World) → IsSound w → view_of w ≡ old.view → Leads w new.view (AreOfNext next)
  next_leads old new (inl (inl same)) is w s e = stays_so w new.view (e ∙ ap (λ (x : VaultSeen D). x.view) (sym same))
  next_leads old new (inl (inr made)) is w s e = subst (λ (v : View). Leads w v (IsAct made.0)) (sym made.1.made) (acts_so w old.view made.0 s e made.1.allowed)
  next_leads old new (inr reopened) is w s e = by_stop reopened.left refl
    where
      by_stop : (stop : IsStop disk old reopened.first reopened.second) → stop ≡ reopened.left → Leads w new.view (AreOfStop reopened.left)
      by_stop (inl crash) same =
          let f = found_between old reopened.first reopened.second is crash in
          subst (λ (stop : IsStop disk old reopened.first reopened.second). Leads w new.view (AreOfStop stop)) same
          (subst (λ (v : View). Leads w v IsACrash) (opened_as reopened.first reopened.second f.left new f.stands reopened.opened) (opens_so w old.view f.left s e f.found))
      by_stop (inr stop) same =
          let f = found_by_stop old reopened.first reopened.second stop in
          subst (λ (stop : IsStop disk old reopened.first reopened.second). Leads w new.view (AreOfStop stop)) same
          (subst (λ (v : View). Leads w v IsAtMostAPump) (opened_as reopened.first reopened.second f.left new f.stands reopened.opened) (found_so w old.view f.left s e stop.whole f.found))

  pub of_a_vault : (now : VaultSeen D) (past : List (VaultSeen D)) → IsPast disk now past → IsOfAVault disk now
  of_a_vault now [] p = p.0
  of_a_vault now (old ∷ past) p = p.0

  begun : (now : VaultSeen D) (p : IsPast disk now []) → IsOneRun disk now [] p
  begun now p = record { events = []; is_run = tt; calls = refl; shown = shown }
    where
      shown : (n : ℕ) (seen : VaultSeen D) → slice_get (now ∷ []) n ≡ Some seen → view_of (world_after (beginning now []) (events_until disk now [] p [] refl n)) ≡ seen.view
      shown zero seen at = sym p.1 ∙ ap (λ (x : VaultSeen D). x.view) (same_Some now seen at)
      shown (suc n) seen at = absurd (none_there seen at)

  module _ (now old : VaultSeen D) (past : List (VaultSeen D)) (p : IsPast disk now (old ∷ past)) (one : IsOneRun disk old past p.2) (leads : Leads (world_after (beginning old past) one.events) now.view (AreOfNext p.1)) where
    reaches_on : view_of (world_after (beginning old past) (one.events ++ leads.more)) ≡ now.view
    reaches_on = ap view_of (run-append snapshot_length (world_of (beginning old past)) one.events leads.more) ∙ leads.shows

    abbrev calls_on : AreOfPast disk now (old ∷ past) p (one.events ++ leads.more)
    calls_on = record { before = one.events; last = leads.more; whole = refl; happened_before = one.calls; of_next = leads.are }

    shown_on : (n : ℕ) (seen : VaultSeen D) → slice_get (now ∷ old ∷ past) n ≡ Some seen → view_of (world_after (beginning old past) (events_until disk now (old ∷ past) p (one.events ++ leads.more) calls_on n)) ≡ seen.view
    shown_on zero seen at = reaches_on ∙ ap (λ (x : VaultSeen D). x.view) (same_Some now seen at)
    shown_on (suc n) seen at = one.shown n seen at

    goes_on : IsOneRun disk now (old ∷ past) p
    goes_on = record { events = one.events ++ leads.more; is_run = both_parts (world_of (beginning old past)) one.events leads.more one.is_run leads.is_run; calls = calls_on; shown = shown_on }

  pub reaches : (now : VaultSeen D) (past : List (VaultSeen D)) (p : IsPast disk now past) (one : IsOneRun disk now past p) → view_of (world_after (beginning now past) one.events) ≡ now.view
  reaches now past p one = one.shown 0 now refl

  -- the world with which a past begins
  pub begins_sound : (now : VaultSeen D) (past : List (VaultSeen D)) → IsPast disk now past → IsSound (world_of (beginning now past))
  begins_sound now [] p =
      let s = p.0.sound in
      first_sound now.view.base s.well_formed (subst (λ (v : View). CountsBelow (v.retired + 1) now.view.base) p.1 s.counts)
  begins_sound now (old ∷ past) p = begins_sound old past p.2

  -- and those that it reaches
  pub past_sound : (now : VaultSeen D) (past : List (VaultSeen D)) (p : IsPast disk now past) (one : IsOneRun disk now past p) → IsSound (world_after (beginning now past) one.events)
  past_sound now past p one = run_sound snapshot_length (world_of (beginning now past)) one.events one.is_run (begins_sound now past p)

  -- each past is one run
  pub one_run : (now : VaultSeen D) (past : List (VaultSeen D)) (p : IsPast disk now past) → IsOneRun disk now past p
  one_run now [] p = begun now p
  one_run now (old ∷ past) p =
      let one = one_run old past p.2 in
      goes_on now old past p one (next_leads old now p.1 (of_a_vault old past p.2) (world_after (beginning old past) one.events) (past_sound old past p.2 one) (reaches old past p.2 one))

-- what happened until something was seen is the first part of all
pub until_first : {D : Type 0} (disk : D → Disk) (now : VaultSeen D) (past : List (VaultSeen D)) (p : IsPast disk now past) (events : List Event) (are : AreOfPast disk now past p events) (n : ℕ)
    → (rest : List Event) × (events_until disk now past p events are n ++ rest ≡ events)
until_first disk now past p events are zero = ([], append-nil events)
until_first disk now [] p events are (suc n) = (events, refl)
until_first disk now (old ∷ past) p events are (suc n) =
    let q = until_first disk old past p.2 are.before are.happened_before n in
    (q.0 ++ are.last, sym (append_assoc (events_until disk old past p.2 are.before are.happened_before n) q.0 are.last) ∙ ap (λ l. l ++ are.last) q.1 ∙ sym are.whole)
