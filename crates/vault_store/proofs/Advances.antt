-- Each row of the phase table, made by one device call.
use Rattle.std.proofs.Common.{◌≡◌, ◌≢◌, ◌⊎◌, inl, inr, ℕ, ◌+◌, ◌<◌, ◌≤◌, IsTrue, Bool, true, false, not, ◌&&◌, cond, List, [], ◌∷◌, ◌++◌, length, get_or, set, refl, sym, ◌∙◌, ap, subst, arith, Result, Ok, Err, IsErr, rules, length-append}
use Rattle.std.proofs.lemmas.Bool.{cases_eq, cases_Bool}
use Rattle.std.proofs.lemmas.List.{nil_from_length}
use Rattle.vault_model.specs.Said.{Effect}
use Rattle.vault_device.specs.Disk.{Disk, IsLawful, IsOneCall, IsSync, IsWrite, LeavesSince}
use Rattle.vault_device.specs.declared.device.Fault.{Fault}
use Rattle.vault_journal.specs.Spelling.{record_of, records_of}
use Rattle.vault_journal.specs.Rows.{AreRecordsOf}
use Rattle.vault_journal.proofs.Sizes.{record_some}
use Rattle.vault_journal.specs.Gate.{body_of, frame_room, SameBut, IsBehind, IsOpening}
use Rattle.vault_store.specs.declared.phase.Phase.{Phase}
use Rattle.vault_store.specs.declared.phase.Phase.TheVariants.{Idle, Written, Bodied, Opening, Start, Closing, Writing, Filled, Ready, SnapOpening}
use Rattle.vault_store.specs.declared.phase.Advanced.{Advanced}
use Rattle.vault_store.specs.declared.phase.Advanced.TheVariants as answers
use Rattle.vault_format.specs.Files.{most_records, frame_bytes, EndsBehind, IsSpare}
use Rattle.vault_store.specs.Phases.{is_idle, is_snapshot, may_open}
use Rattle.vault_store.specs.State.{StoreState}
use Rattle.vault_store.specs.OnDisk.{IsEither, IsOnDisk}
use Rattle.vault_store.specs.Spares.{IsSpareOn}
use Rattle.vault_store.specs.Seen.{StoreSeen, of_file, other, first_of, second_of, Keeps, IsLeftInside, settled_reading}
use Rattle.vault_store.specs.Companions.{MayPrecede, IsOfOneVault}
use Rattle.vault_store.specs.TwoVaults.{AreOfTwoVaults}
use Rattle.vault_store.specs.Step.{renews, gained, IsAtMostOneCall, IsStep, AreNumbers, MayBeLeft, IsAdvance}
use Rattle.vault_store.proofs.Asides.{aside_of, aside_leaves, still_aside}
use Rattle.vault_store.proofs.Companions.{IsBegun, begun_ends, begun_either, begun_shorter, begun_on, front_based, beside_pass, one_in, pass_here}
use Rattle.vault_store.proofs.Disks.{to_written, to_bodied, to_gated, to_idle, behind_ends, opening_either}
use Rattle.vault_store.proofs.Kept.{IsMove, phase_kept, sealed_kept, settled_kept}
use Rattle.vault_store.proofs.Left.{IsLeftHere, left, inside_front, inside_either}
use Rattle.vault_store.proofs.Passes.{two_exchanged}
use Rattle.vault_store.proofs.Placed.{inside_exchanged, calls_placed, moments_placed}
use Rattle.vault_store.proofs.Rests.{still_numbers}
use Rattle.vault_format.specs.Snapshot.{current_version}

-- a state in a phase is the state with that phase
pub at_phase : (s : StoreState) (p : Phase) → s.phase ≡ p → s.broken ≡ false → record s { phase = p; broken = false } ≡ s
at_phase s p is unbroken = λ i. record s { phase = sym is i; broken = sym unbroken i }

-- what one call of the active device leaves of the counts of both
pub active_called : {A E : Type 0} (first second new : Disk) (made : Result A E) {B F : Type 0} (result : Result B F) → IsOneCall first new made → (IsErr result → IsErr made) → IsAtMostOneCall first second new second result
active_called first second new made result call failed = record {
  first_honest = call.same_honesty;
  second_honest = refl;
  calls = omega (arith, call.counted);
  faults = (call.no_fewer_faults, omega arith);
  cause = λ is. inl (call.cause (failed is));
}

-- no call
pub none_called : {B F : Type 0} (first second : Disk) (result : Result B F) → (IsErr result → ⊥) → IsAtMostOneCall first second first second result
none_called first second result never = record {
  first_honest = refl;
  second_honest = refl;
  calls = omega arith;
  faults = (omega arith, omega arith);
  cause = λ is. absurd (never is);
}

-- what is left between steps may be left inside one
inside_in : {D : Type 0} (store : StoreSeen D) (s : StoreState) (p : Phase) (x y : List ℕ) → IsLeftHere store (record s { phase = p }) x y → IsLeftInside store (record s { phase = p }) x y
inside_in store s Opening x y was = elim (cases_eq (get_or x store.tail 0) 1) [ inl is ↦ inr (refl, was.opened is) | inr other ↦ inl (was.shut other) ]
inside_in store s SnapOpening x y was = elim (cases_eq (get_or y 0 0) 1) [ inl is ↦ inr (refl, was.opened is) | inr other ↦ inl (was.shut other) ]
inside_in store s Idle x y was = inl was
inside_in store s Written x y was = inl was
inside_in store s Bodied x y was = inl was
inside_in store s Start x y was = inl was
inside_in store s Closing x y was = inl was
inside_in store s (Writing more) x y was = inl was
inside_in store s Filled x y was = inl was
inside_in store s Ready x y was = inl was

-- a step that makes no call leaves what was left before
pub unmoved : {D : Type 0} (disk : D → Disk) (store : StoreSeen D) → (IsTrue (disk store.active).honest → IsLawful (disk store.active)) → (IsTrue (disk store.spare).honest → IsLawful (disk store.spare))
    → (s : StoreState) (x y : List ℕ) → Keeps disk store s → IsTrue (disk (first_of store)).honest → IsTrue (disk (second_of store)).honest
    → MayBeLeft (disk (first_of store)) (disk (second_of store)) (disk (first_of store)) (disk (second_of store)) x y → IsLeftInside store s x y
unmoved disk store lawful lawful_spare s x y keeps =
    moments_placed disk store.which store.active store.spare store.active store.spare (IsLeftInside store s) (inside_exchanged store s)
    (λ v w one two may. inside_in store s s.phase v w (left disk store s keeps one two v w ((lawful one).only_now v may.0) ((lawful_spare two).only_now w may.1))) x y

-- of files of one vault, too
pub unmoved_passes : {D : Type 0} (disk : D → Disk) (store : StoreSeen D) → (IsTrue (disk store.active).honest → IsLawful (disk store.active)) → (IsTrue (disk store.spare).honest → IsLawful (disk store.spare))
    → (s : StoreState) (x y : List ℕ) → Keeps disk store s → IsOfOneVault disk store → IsTrue (disk (first_of store)).honest → IsTrue (disk (second_of store)).honest
    → MayBeLeft (disk (first_of store)) (disk (second_of store)) (disk (first_of store)) (disk (second_of store)) x y → AreOfTwoVaults x y → ⊥
unmoved_passes disk store lawful lawful_spare s x y keeps one_vault =
    moments_placed disk store.which store.active store.spare store.active store.spare (λ v w. AreOfTwoVaults v w → ⊥) (λ v w pass two. pass (two_exchanged w v two))
    (λ v w one two may. pass_here disk store s keeps one_vault one two v w ((lawful one).only_now v may.0) ((lawful_spare two).only_now w may.1)) x y

-- what a crash inside a step that makes this of the active device leaves is read
abbrev pub AreMoments : {D : Type 0} → (D → Disk) → StoreSeen D → D → StoreState → List ℕ → List ℕ → Type 0
AreMoments disk old active s x y =
    IsTrue (disk (first_of old)).honest → IsTrue (disk (second_of old)).honest → MayBeLeft (disk (first_of old)) (disk (second_of old)) (disk (of_file old.which active old.spare)) (disk (of_file old.which old.spare active)) x y → IsLeftInside old s x y

-- of files of one vault it leaves what isn't reported as two
abbrev pub ArePassed : {D : Type 0} → (D → Disk) → StoreSeen D → D → List ℕ → List ℕ → Type 0
ArePassed disk old active x y =
    IsTrue (disk (first_of old)).honest → IsTrue (disk (second_of old)).honest → MayBeLeft (disk (first_of old)) (disk (second_of old)) (disk (of_file old.which active old.spare)) (disk (of_file old.which old.spare active)) x y → AreOfTwoVaults x y → ⊥

pub record IsInside {D : Type 0} (disk : D → Disk) (old : StoreSeen D) (active : D) : Type 0 where
  pub moments : (s : StoreState) (x y : List ℕ) → Keeps disk old s → AreMoments disk old active s x y
  pub passes : (s : StoreState) (x y : List ℕ) → Keeps disk old s → IsOfOneVault disk old → ArePassed disk old active x y

-- what a disk in one phase may show, whatever the front and the records, where a crash leaves the front, or the gate open or closed
abbrev pub LeavesFront : Disk → Disk → ℕ → Phase → Type 0
LeavesFront old new tail p = (front records x : List ℕ) → length front ≡ tail → IsOnDisk old p false front records → new.WasImage old.moment x → EndsBehind front x

abbrev pub LeavesEither : Disk → Disk → ℕ → Phase → Type 0
LeavesEither old new tail p = (front records x : List ℕ) → length front ≡ tail → IsOnDisk old p false front records → new.WasImage old.moment x → IsEither front records x

module _ {D : Type 0} (disk : D → Disk) (old : StoreSeen D) (active : D) (p : Phase) (is : old.phase ≡ p) (unbroken : old.broken ≡ false) (lawful : IsTrue (disk old.active).honest → IsLawful (disk old.active)) (lawful_spare : IsTrue (disk old.spare).honest → IsLawful (disk old.spare)) where
  -- a state that the store keeps, as one in the phase
  pub in_phase : (s : StoreState) → Keeps disk old s → record s { phase = p; broken = false } ≡ s
  in_phase s keeps = at_phase s p (sym keeps.phase ∙ is) (sym keeps.broken ∙ unbroken)

  pub keeps_in : (s : StoreState) → Keeps disk old s → Keeps disk old (record s { phase = p; broken = false })
  keeps_in s keeps = subst (Keeps disk old) (sym (in_phase s keeps)) keeps

  -- the spare of a commit
  aside_left : (MayStand : List ℕ → Type 0) → is_snapshot p ≡ false → IsSpareOn MayStand (disk old.spare) p false old.shut old.rest → (y : List ℕ) → (disk old.spare).IsImage y → MayStand y
  aside_left MayStand commit is y image = aside_leaves MayStand (disk old.spare) old.shut old.rest (aside_of MayStand (disk old.spare) old.shut old.rest p commit is) y image

  -- a crash inside a step that leaves the front, whatever it leaves behind that
  passes_begun : is_snapshot p ≡ false → (IsTrue (disk old.active).honest → (front records x : List ℕ) → length front ≡ old.tail → IsOnDisk (disk old.active) p false front records → (disk active).WasImage (disk old.active).moment x → IsBegun front x)
      → (s : StoreState) (x y : List ℕ) → Keeps disk old s → IsOfOneVault disk old → ArePassed disk old active x y
  passes_begun commit move s x y keeps one_vault =
      moments_placed disk old.which old.active old.spare active old.spare (λ v w. AreOfTwoVaults v w → ⊥) (λ v w pass two. pass (two_exchanged w v two))
      (λ v w one two may.
      let files = (keeps_in s keeps).files one two in
      let are = one_in disk old p false is unbroken one_vault one two in
      beside_pass v w old.generation are.base
      (front_based (disk old.active) files.front (settled_reading old (record s { phase = p; broken = false })) files.is_front are.base (lawful one) (begun_on (disk old.active) p false files.front (records_of s.sealing) files.active) are.based v
      (move one files.front (records_of s.sealing) v (sym files.is_front.tail_is) files.active may.0)) (aside_left (MayPrecede old.generation are.base) commit are.beside w ((lawful_spare two).only_now w may.1))) x y

  -- a crash inside a step that leaves the front
  pub leaves_front : is_snapshot p ≡ false → (IsTrue (disk old.active).honest → LeavesFront (disk old.active) (disk active) old.tail p) → IsInside disk old active
  leaves_front commit move = record {
    moments = λ s x y keeps.
        moments_placed disk old.which old.active old.spare active old.spare (IsLeftInside old s) (inside_exchanged old s)
        (λ v w one two may.
        let here = keeps_in s keeps in
        let files = here.files one two in
        subst (λ (t : StoreState). IsLeftInside old t v w) (in_phase s keeps)
        (inside_front disk old (record s { phase = p; broken = false }) here files.front files.is_front v w
        (move one files.front (records_of s.sealing) v (sym files.is_front.tail_is) files.active may.0) (aside_left (IsSpare old.generation) commit files.spare w ((lawful_spare two).only_now w may.1)))) x y;
    passes = passes_begun commit (λ honest front records x stands on was. begun_ends front x (move honest front records x stands on was));
  }

  -- a crash inside a step that leaves the gate open or closed
  pub leaves_either : is_idle p ≡ false → is_snapshot p ≡ false → may_open p ≡ true → (IsTrue (disk old.active).honest → LeavesEither (disk old.active) (disk active) old.tail p) → IsInside disk old active
  leaves_either busy commit opens move = record {
    moments = λ s x y keeps.
        moments_placed disk old.which old.active old.spare active old.spare (IsLeftInside old s) (inside_exchanged old s)
        (λ v w one two may.
        let here = keeps_in s keeps in
        let files = here.files one two in
        subst (λ (t : StoreState). IsLeftInside old t v w) (in_phase s keeps)
        (inside_either disk old (record s { phase = p; broken = false }) here files.front files.is_front v w busy commit opens
        (move one files.front (records_of s.sealing) v (sym files.is_front.tail_is) files.active may.0) (aside_left (IsSpare old.generation) commit files.spare w ((lawful_spare two).only_now w may.1)))) x y;
    passes = passes_begun commit (λ honest front records x stands on was. begun_either front records x (move honest front records x stands on was));
  }

  -- a step that leaves the front keeps files of one vault so
  pub commit_one : (disk active).honest ≡ (disk old.active).honest → is_snapshot p ≡ false → (q : Phase) (broken : Bool) → is_snapshot q ≡ false
      → (IsTrue (disk old.active).honest → (front records : List ℕ) → length front ≡ old.tail → length records ≡ old.sealed → IsOnDisk (disk old.active) p false front records → (x : List ℕ) → (disk active).IsImage x → IsBegun front x)
      → (s : StoreState) → Keeps disk old s → IsOfOneVault disk old → IsOfOneVault disk (record old { active = active; phase = q; broken = broken })
  commit_one same commit q broken of_q begun s keeps one_vault one two =
      let here = keeps_in s keeps in
      let was = subst IsTrue same one in
      let files = here.files was two in
      let are = one_in disk old p false is unbroken one_vault was two in
      let size : old.sealed ≡ length (records_of s.sealing) = here.sealed_bytes ∙ ap (λ (b : Bool). cond b 0 (length (records_of s.sealing))) commit in record {
        base = are.base;
        based = λ x image.
            front_based (disk old.active) files.front (settled_reading old (record s { phase = p; broken = false })) files.is_front are.base (lawful was) (begun_on (disk old.active) p false files.front (records_of s.sealing) files.active) are.based x
            (begun was files.front (records_of s.sealing) (sym files.is_front.tail_is) (sym size) files.active x image);
        beside = still_aside (MayPrecede old.generation are.base) (disk old.spare) old.shut old.rest p q broken commit of_q are.beside;
      }

  -- a step that changes the phase alone, by a call that was counted
  pub phase_advance : {A E : Type 0} (q : Phase) (broken : Bool) (made : Result A E) (result : Result Advanced Fault) → is_idle p ≡ false → is_snapshot p ≡ false → is_idle q ≡ false → is_snapshot q ≡ false → renews old result ≡ false → gained old result ≡ 0
      → ((result ≡ Ok answers.Idle) ⊎ (result ≡ Ok answers.Broken) → ⊥)
      → IsOneCall (disk old.active) (disk active) made → (IsErr result → IsErr made)
      → (IsTrue (disk old.active).honest → IsMove (disk old.active) (disk active) old.tail old.sealed p q broken)
      → ((s : StoreState) → Keeps disk (record old { active = active; phase = q; broken = broken }) (record s { phase = q; broken = broken }) → IsStep disk old (record old { active = active; phase = q; broken = broken }) result (record s { phase = p; broken = false }))
      → IsInside disk old active
      → IsAdvance disk old (record old { active = active; phase = q; broken = broken }) result
  phase_advance q broken made result busy commit quiet of_q still none moved call failed move step inside = record {
    step = λ s keeps.
        subst (λ (t : StoreState). IsStep disk old (record old { active = active; phase = q; broken = broken }) result t) (in_phase s keeps)
        (step s (phase_kept disk old active call.same_honesty s p q broken busy quiet commit of_q move (keeps_in s keeps)));
    numbers = still_numbers old active old.spare old.buffer old.sealed q broken result still none (ap (λ (b : Bool). cond (b && not old.broken) [] old.buffer) (sym (ap is_idle is ∙ busy)));
    rests = λ idle. absurd (moved idle);
    calls = calls_placed disk old.which old.active old.spare active old.spare result (active_called (disk old.active) (disk old.spare) (disk active) made result call failed);
    moments = inside.moments;
    one_vault = commit_one call.same_honesty commit q broken of_q (λ honest front records stands size on. begun_on (disk active) q broken front records (move honest front records stands size on));
    passes = inside.passes;
  }

-- an answer that is neither of these
pub moved_on : (answer : Advanced) → (answer ≡ answers.Idle → ⊥) → (answer ≡ answers.Broken → ⊥) → (◌≡◌ {A = Result Advanced Fault} (Ok answer) (Ok answers.Idle)) ⊎ (◌≡◌ {A = Result Advanced Fault} (Ok answer) (Ok answers.Broken)) → ⊥
moved_on answer not_idle not_broken = elim [ inl is ↦ not_idle cc | inr is ↦ not_broken cc ]

pub failed_on : (fault : Fault) → (◌≡◌ {A = Result Advanced Fault} (Err fault) (Ok answers.Idle)) ⊎ (◌≡◌ {A = Result Advanced Fault} (Err fault) (Ok answers.Broken)) → ⊥
failed_on fault = elim [ inl is ↦ cc | inr is ↦ cc ]

module _ {D : Type 0} (disk : D → Disk) (old : StoreSeen D) (active : D) (unbroken : old.broken ≡ false) (lawful : IsTrue (disk old.active).honest → IsLawful (disk old.active)) (lawful_spare : IsTrue (disk old.spare).honest → IsLawful (disk old.spare)) where
  -- the moves of the rows

  pub settles_body : IsTrue (disk old.active).honest → IsSync {E = Fault} (Ok tt) (disk old.active) (disk active) → IsMove (disk old.active) (disk active) old.tail old.sealed Written Bodied false
  settles_body honest sync front records stands size on = to_bodied (disk old.active) (disk active) front records on (lawful honest) sync

  pub body_unsettled : (fault : Fault) → IsSync (Err fault) (disk old.active) (disk active) → IsMove (disk old.active) (disk active) old.tail old.sealed Written Written true
  body_unsettled fault sync front records stands size on = λ x image. on.images x (sync.images x image)

  -- the body is synced
  pub body_settled : old.phase ≡ Written → IsOneCall {A = Unit {0}} {E = Fault} (disk old.active) (disk active) (Ok tt) → (IsTrue (disk old.active).honest → IsSync {E = Fault} (Ok tt) (disk old.active) (disk active))
      → (IsTrue (disk old.active).honest → LeavesSince (disk old.active) (disk active) (disk old.active).IsImage) → IsAdvance disk old (record old { active = active; phase = Bodied }) (Ok answers.Moved)
  body_settled is call sync moments =
      subst (λ (b : Bool). IsAdvance disk old (record old { active = active; phase = Bodied; broken = b }) (Ok answers.Moved)) (sym unbroken)
      (phase_advance disk old active Written is unbroken lawful lawful_spare Bodied false (Ok tt) (Ok answers.Moved) refl refl refl refl refl refl (moved_on answers.Moved (λ e. cc) (λ e. cc)) call (λ err. err) (λ honest. settles_body honest (sync honest))
      (λ s keeps. (refl, keeps))
      (leaves_front disk old active Written is unbroken lawful lawful_spare refl (λ honest front records x stands on was. on.images x ((moments honest).each x was))))

  -- the body's sync failed
  pub body_left : (fault : Fault) → old.phase ≡ Written → IsOneCall {A = Unit {0}} {E = Fault} (disk old.active) (disk active) (Err fault) → (IsTrue (disk old.active).honest → IsSync (Err fault) (disk old.active) (disk active))
      → (IsTrue (disk old.active).honest → LeavesSince (disk old.active) (disk active) (disk old.active).IsImage) → IsAdvance disk old (record old { active = active; broken = true }) (Err fault)
  body_left fault is call sync moments =
      subst (λ (q : Phase). IsAdvance disk old (record old { active = active; phase = q; broken = true }) (Err fault)) (sym is)
      (phase_advance disk old active Written is unbroken lawful lawful_spare Written true (Err fault) (Err fault) refl refl refl refl refl refl (failed_on fault) call (λ err. err) (λ honest. body_unsettled fault (sync honest))
      (λ s keeps. (refl, λ e. cc, keeps))
      (leaves_front disk old active Written is unbroken lawful lawful_spare refl (λ honest front records x stands on was. on.images x ((moments honest).each x was))))

  pub opens_gate : IsWrite {E = Fault} old.tail (1 ∷ []) (Ok tt) (disk old.active) (disk active) → (disk active).shown ≡ set (disk old.active).shown old.tail 1
      → ((x : List ℕ) → (disk active).IsImage x → IsOpening old.tail (disk old.active).shown x) → ((x : List ℕ) → (disk active).IsImage x → SameBut old.tail (disk active).shown x)
      → IsMove (disk old.active) (disk active) old.tail old.sealed Bodied Opening false
  opens_gate wrote shown images same front records stands size on =
      to_gated (disk old.active) (disk active) front records on (subst (λ (n : ℕ). IsWrite {E = Fault} n (1 ∷ []) (Ok tt) (disk old.active) (disk active)) (sym stands) wrote)
      (subst (λ (n : ℕ). (disk active).shown ≡ set (disk old.active).shown n 1) (sym stands) shown)
      (λ x image. subst (λ (n : ℕ). IsOpening n (disk old.active).shown x) (sym stands) (images x image)) (λ x image. subst (λ (n : ℕ). SameBut n (disk active).shown x) (sym stands) (same x image))

  pub gate_torn : ((x : List ℕ) → (disk active).IsImage x → IsOpening old.tail (disk old.active).shown x) → IsMove (disk old.active) (disk active) old.tail old.sealed Bodied Opening true
  gate_torn images front records stands size on = λ x image. opening_either (disk old.active) front records x on (subst (λ (n : ℕ). IsOpening n (disk old.active).shown x) (sym stands) (images x image))

  opening_inside : (IsTrue (disk old.active).honest → LeavesSince (disk old.active) (disk active) (IsOpening old.tail (disk old.active).shown)) → IsTrue (disk old.active).honest → LeavesEither (disk old.active) (disk active) old.tail Bodied
  opening_inside moments honest front records x stands on was = opening_either (disk old.active) front records x on (subst (λ (n : ℕ). IsOpening n (disk old.active).shown x) (sym stands) ((moments honest).each x was))

  -- the gate is written
  pub gate_opened : old.phase ≡ Bodied → IsOneCall {A = Unit {0}} {E = Fault} (disk old.active) (disk active) (Ok tt) → (IsTrue (disk old.active).honest → IsWrite {E = Fault} old.tail (1 ∷ []) (Ok tt) (disk old.active) (disk active))
      → (IsTrue (disk old.active).honest → (disk active).shown ≡ set (disk old.active).shown old.tail 1) → (IsTrue (disk old.active).honest → (x : List ℕ) → (disk active).IsImage x → IsOpening old.tail (disk old.active).shown x)
      → (IsTrue (disk old.active).honest → (x : List ℕ) → (disk active).IsImage x → SameBut old.tail (disk active).shown x) → (IsTrue (disk old.active).honest → LeavesSince (disk old.active) (disk active) (IsOpening old.tail (disk old.active).shown))
      → IsAdvance disk old (record old { active = active; phase = Opening }) (Ok answers.Moved)
  gate_opened is call wrote shown images same moments =
      subst (λ (b : Bool). IsAdvance disk old (record old { active = active; phase = Opening; broken = b }) (Ok answers.Moved)) (sym unbroken)
      (phase_advance disk old active Bodied is unbroken lawful lawful_spare Opening false (Ok tt) (Ok answers.Moved) refl refl refl refl refl refl (moved_on answers.Moved (λ e. cc) (λ e. cc)) call (λ err. err) (λ honest. opens_gate (wrote honest) (shown honest) (images honest) (same honest))
      (λ s keeps. (refl, keeps))
      (leaves_either disk old active Bodied is unbroken lawful lawful_spare refl refl refl (opening_inside moments)))

  -- the gate's write failed
  pub gate_left : (fault : Fault) → old.phase ≡ Bodied → IsOneCall {A = Unit {0}} {E = Fault} (disk old.active) (disk active) (Err fault) → (IsTrue (disk old.active).honest → (x : List ℕ) → (disk active).IsImage x → IsOpening old.tail (disk old.active).shown x)
      → (IsTrue (disk old.active).honest → LeavesSince (disk old.active) (disk active) (IsOpening old.tail (disk old.active).shown)) → IsAdvance disk old (record old { active = active; phase = Opening; broken = true }) (Err fault)
  gate_left fault is call images moments =
      phase_advance disk old active Bodied is unbroken lawful lawful_spare Opening true (Err fault) (Err fault) refl refl refl refl refl refl (failed_on fault) call (λ err. err) (λ honest. gate_torn (images honest))
      (λ s keeps. (refl, λ e. cc, keeps))
      (leaves_either disk old active Bodied is unbroken lawful lawful_spare refl refl refl (opening_inside moments))

  pub gate_unsettled : (fault : Fault) → IsSync (Err fault) (disk old.active) (disk active) → IsMove (disk old.active) (disk active) old.tail old.sealed Opening Opening true
  gate_unsettled fault sync front records stands size on = λ x image. on.images x (sync.images x image)

  gate_inside : (IsTrue (disk old.active).honest → LeavesSince (disk old.active) (disk active) (disk old.active).IsImage) → IsTrue (disk old.active).honest → LeavesEither (disk old.active) (disk active) old.tail Opening
  gate_inside moments honest front records x stands on was = on.images x ((moments honest).each x was)

  -- the gate's sync failed
  pub gate_still_open : (fault : Fault) → old.phase ≡ Opening → IsOneCall {A = Unit {0}} {E = Fault} (disk old.active) (disk active) (Err fault) → (IsTrue (disk old.active).honest → IsSync (Err fault) (disk old.active) (disk active))
      → (IsTrue (disk old.active).honest → LeavesSince (disk old.active) (disk active) (disk old.active).IsImage) → IsAdvance disk old (record old { active = active; broken = true }) (Err fault)
  gate_still_open fault is call sync moments =
      subst (λ (q : Phase). IsAdvance disk old (record old { active = active; phase = q; broken = true }) (Err fault)) (sym is)
      (phase_advance disk old active Opening is unbroken lawful lawful_spare Opening true (Err fault) (Err fault) refl refl refl refl refl refl (failed_on fault) call (λ err. err) (λ honest. gate_unsettled fault (sync honest))
      (λ s keeps. (refl, λ e. cc, keeps))
      (leaves_either disk old active Opening is unbroken lawful lawful_spare refl refl refl (gate_inside moments)))

  -- what the sync of the gate makes of the disk
  abbrev pub Settles : Type 0
  Settles = (front records : List ℕ) → length front ≡ old.tail → IsOnDisk (disk old.active) Opening false front records → IsOnDisk (disk active) Idle false (front ++ frame_bytes records) []

  pub settles_gate : IsTrue (disk old.active).honest → IsSync {E = Fault} (Ok tt) (disk old.active) (disk active) → Settles
  settles_gate honest sync front records stands on = to_idle (disk old.active) (disk active) front records on (lawful honest) sync

  -- the gate is synced, and the frame belongs to the file
  pub gate_settled : (tail journal_length : ℕ) → tail ≡ old.tail + (old.sealed + 5) → journal_length ≡ old.journal_length + (old.sealed + 5) → old.phase ≡ Opening → IsOneCall {A = Unit {0}} {E = Fault} (disk old.active) (disk active) (Ok tt)
      → (IsTrue (disk old.active).honest → IsSync {E = Fault} (Ok tt) (disk old.active) (disk active)) → (IsTrue (disk old.active).honest → LeavesSince (disk old.active) (disk active) (disk old.active).IsImage)
      → IsAdvance disk old (record old { active = active; tail = tail; journal_length = journal_length; sealed = 0; phase = Idle }) (Ok answers.Settled)
  gate_settled tail journal_length tail_is journal_is is call sync moments =
      subst (λ (b : Bool). IsAdvance disk old (record old { active = active; tail = tail; journal_length = journal_length; sealed = 0; phase = Idle; broken = b }) (Ok answers.Settled)) (sym unbroken) (record {
        step = λ s keeps.
            subst (λ (t : StoreState). IsStep disk old (record old { active = active; tail = tail; journal_length = journal_length; sealed = 0; phase = Idle; broken = false }) (Ok answers.Settled) t) (in_phase disk old active Opening is unbroken lawful lawful_spare s keeps)
            (refl, settled_kept disk old active call.same_honesty s tail journal_length tail_is journal_is (λ honest. settles_gate honest (sync honest)) (keeps_in disk old active Opening is unbroken lawful lawful_spare s keeps));
        numbers = record {
          which = ap (λ (p : Phase). cond (is_snapshot p) (other old.which) old.which) (sym is);
          version = ap (λ (p : Phase). cond (is_snapshot p) current_version old.version) (sym is);
          generation = ap (λ (p : Phase). cond (is_snapshot p) (old.generation + 1) old.generation) (sym is);
          tail = let same : tail ≡ old.tail + (5 + old.sealed) = omega (arith, tail_is) in same ∙ ap (λ (p : Phase). cond (is_snapshot p) (length old.rest) (old.tail + (5 + old.sealed))) (sym is);
          journal_length = let same : journal_length ≡ old.journal_length + (5 + old.sealed) = omega (arith, journal_is) in same ∙ ap (λ (p : Phase). cond (is_snapshot p) 0 (old.journal_length + (5 + old.sealed))) (sym is);
          buffer = ap (λ (b : Bool). cond (b && not old.broken) [] old.buffer) (sym (ap is_idle is));
        };
        rests = λ idle. absurd (moved_on answers.Settled (λ e. cc) (λ e. cc) idle);
        calls = calls_placed disk old.which old.active old.spare active old.spare (Ok answers.Settled) (active_called (disk old.active) (disk old.spare) (disk active) (Ok tt) (Ok answers.Settled) call (λ err. err));
        moments = (inside moments).moments;
        one_vault =
            commit_one disk old active Opening is unbroken lawful lawful_spare call.same_honesty refl Idle false refl
            (λ honest front records stands size on x image. begun_shorter front (frame_bytes records) x (begun_on (disk active) Idle false (front ++ frame_bytes records) [] (settles_gate honest (sync honest) front records stands on) x image));
        passes = (inside moments).passes;
      })
    where
      inside : (IsTrue (disk old.active).honest → LeavesSince (disk old.active) (disk active) (disk old.active).IsImage) → IsInside disk old active
      inside moments = leaves_either disk old active Opening is unbroken lawful lawful_spare refl refl refl (gate_inside moments)

  -- what the write of the body makes of the disk
  abbrev pub Writes : Bool → Type 0
  Writes broken = (front : List ℕ) → length front ≡ old.tail → IsOnDisk (disk old.active) Idle false front [] → IsOnDisk (disk active) Written broken front old.buffer

  pub writes_body : IsWrite {E = Fault} (old.tail + 1) (body_of old.buffer) (Ok tt) (disk old.active) (disk active) → ((x : List ℕ) → (disk active).IsImage x → IsBehind old.tail (disk old.active) x) → Writes false
  writes_body wrote images front stands on =
      to_written (disk old.active) (disk active) front old.buffer on (subst (λ (n : ℕ). IsWrite {E = Fault} (n + 1) (body_of old.buffer) (Ok tt) (disk old.active) (disk active)) (sym stands) wrote)
      (λ x image. subst (λ (n : ℕ). IsBehind n (disk old.active) x) (sym stands) (images x image))

  pub body_torn : ((x : List ℕ) → (disk active).IsImage x → IsBehind old.tail (disk old.active) x) → Writes true
  body_torn images front stands on = λ x image. behind_ends (disk old.active) front x on (subst (λ (n : ℕ). IsBehind n (disk old.active) x) (sym stands) (images x image))

  body_inside : (IsTrue (disk old.active).honest → LeavesSince (disk old.active) (disk active) (IsBehind old.tail (disk old.active))) → IsTrue (disk old.active).honest → LeavesFront (disk old.active) (disk active) old.tail Idle
  body_inside moments honest front records x stands on was = behind_ends (disk old.active) front x on (subst (λ (n : ℕ). IsBehind n (disk old.active) x) (sym stands) ((moments honest).each x was))

  body_left_inside : old.phase ≡ Idle → (IsTrue (disk old.active).honest → LeavesSince (disk old.active) (disk active) (IsBehind old.tail (disk old.active))) → IsInside disk old active
  body_left_inside is moments = leaves_front disk old active Idle is unbroken lawful lawful_spare refl (body_inside moments)

  body_one : (is : old.phase ≡ Idle) (broken : Bool) → (disk active).honest ≡ (disk old.active).honest → (IsTrue (disk old.active).honest → Writes broken) → (s : StoreState) → Keeps disk old s → IsOfOneVault disk old
      → IsOfOneVault disk (record old { active = active; phase = Written; broken = broken })
  body_one is broken same writes =
      commit_one disk old active Idle is unbroken lawful lawful_spare same refl Written broken refl (λ honest front records stands size on. begun_on (disk active) Written broken front old.buffer (writes honest front stands on))

  abbrev sealed_seen : Bool → StoreSeen D
  sealed_seen broken = record old { active = active; buffer = []; sealed = length old.buffer; phase = Written; broken = broken }

  -- a state with effects in its buffer
  some_effects : (s : StoreState) → Keeps disk old s → 0 < length old.buffer → s.buffer ≢ []
  some_effects s keeps some none = absurd (omega (arith, some, ap length (keeps.buffer.whole ∙ ap records_of none)))

  seal_ok : (s : StoreState) (buffer : List Effect) → buffer ≢ [] → length old.buffer ≤ most_records → (IsTrue (disk old.active).honest → Writes false) → (disk active).honest ≡ (disk old.active).honest
      → Keeps disk old (record s { phase = Idle; broken = false; buffer = buffer }) → IsStep disk old (sealed_seen false) (Ok answers.Moved) (record s { phase = Idle; broken = false; buffer = buffer })
  seal_ok s [] some few move same keeps = absurd (some refl)
  seal_ok s (e ∷ es) some few move same keeps = (refl, sealed_kept disk old active same (record s { buffer = e ∷ es }) false some few move keeps)

  seal_err : (fault : Fault) (s : StoreState) (buffer : List Effect) → buffer ≢ [] → length old.buffer ≤ most_records → (IsTrue (disk old.active).honest → Writes true) → (disk active).honest ≡ (disk old.active).honest
      → Keeps disk old (record s { phase = Idle; broken = false; buffer = buffer }) → IsStep disk old (sealed_seen true) (Err fault) (record s { phase = Idle; broken = false; buffer = buffer })
  seal_err fault s [] some few move same keeps = absurd (some refl)
  seal_err fault s (e ∷ es) some few move same keeps = (refl, λ e. cc, sealed_kept disk old active same (record s { buffer = e ∷ es }) true some few move keeps)

  seal_numbers : (broken : Bool) (result : Result Advanced Fault) → old.phase ≡ Idle → renews old result ≡ false → gained old result ≡ 0 → AreNumbers old (sealed_seen broken) result
  seal_numbers broken result is still none =
      still_numbers old active old.spare [] (length old.buffer) Written broken result still none
      (ap (λ (b : Bool). cond b [] old.buffer) (sym (ap (λ (q : Phase). is_idle q && not old.broken) is ∙ ap (λ (b : Bool). not b) unbroken)))

  -- the body is written
  pub body_behind : old.phase ≡ Idle → 0 < length old.buffer → length old.buffer + 5 ≤ frame_room → IsOneCall {A = Unit {0}} {E = Fault} (disk old.active) (disk active) (Ok tt)
      → (IsTrue (disk old.active).honest → IsWrite {E = Fault} (old.tail + 1) (body_of old.buffer) (Ok tt) (disk old.active) (disk active)) → (IsTrue (disk old.active).honest → (x : List ℕ) → (disk active).IsImage x → IsBehind old.tail (disk old.active) x)
      → (IsTrue (disk old.active).honest → LeavesSince (disk old.active) (disk active) (IsBehind old.tail (disk old.active))) → IsAdvance disk old (record old { active = active; buffer = []; sealed = length old.buffer; phase = Written }) (Ok answers.Moved)
  body_behind is some room call wrote images moments =
      subst (λ (b : Bool). IsAdvance disk old (sealed_seen b) (Ok answers.Moved)) (sym unbroken) (record {
        step = λ s keeps.
            subst (λ (t : StoreState). IsStep disk old (sealed_seen false) (Ok answers.Moved) t) (in_phase disk old active Idle is unbroken lawful lawful_spare s keeps)
            (seal_ok s s.buffer (some_effects s keeps some) (omega (arith, room)) (λ honest. writes_body (wrote honest) (images honest)) call.same_honesty (keeps_in disk old active Idle is unbroken lawful lawful_spare s keeps));
        numbers = seal_numbers false (Ok answers.Moved) is refl refl;
        rests = λ idle. absurd (moved_on answers.Moved (λ e. cc) (λ e. cc) idle);
        calls = calls_placed disk old.which old.active old.spare active old.spare (Ok answers.Moved) (active_called (disk old.active) (disk old.spare) (disk active) (Ok tt) (Ok answers.Moved) call (λ err. err));
        moments = (body_left_inside is moments).moments;
        one_vault = body_one is false call.same_honesty (λ honest. writes_body (wrote honest) (images honest));
        passes = (body_left_inside is moments).passes;
      })

  -- the body's write failed
  pub body_failed : (fault : Fault) → old.phase ≡ Idle → 0 < length old.buffer → length old.buffer + 5 ≤ frame_room → IsOneCall {A = Unit {0}} {E = Fault} (disk old.active) (disk active) (Err fault)
      → (IsTrue (disk old.active).honest → (x : List ℕ) → (disk active).IsImage x → IsBehind old.tail (disk old.active) x)
      → (IsTrue (disk old.active).honest → LeavesSince (disk old.active) (disk active) (IsBehind old.tail (disk old.active))) → IsAdvance disk old (sealed_seen true) (Err fault)
  body_failed fault is some room call images moments = record {
    step = λ s keeps.
        subst (λ (t : StoreState). IsStep disk old (sealed_seen true) (Err fault) t) (in_phase disk old active Idle is unbroken lawful lawful_spare s keeps)
        (seal_err fault s s.buffer (some_effects s keeps some) (omega (arith, room)) (λ honest. body_torn (images honest)) call.same_honesty (keeps_in disk old active Idle is unbroken lawful lawful_spare s keeps));
    numbers = seal_numbers true (Err fault) is refl refl;
    rests = λ idle. absurd (failed_on fault idle);
    calls = calls_placed disk old.which old.active old.spare active old.spare (Err fault) (active_called (disk old.active) (disk old.spare) (disk active) (Err fault) (Err fault) call (λ err. err));
    moments = (body_left_inside is moments).moments;
    one_vault = body_one is true call.same_honesty (λ honest. body_torn (images honest));
    passes = (body_left_inside is moments).passes;
  }

no_effects : (effects : List Effect) (bytes : List ℕ) → AreRecordsOf effects bytes → length bytes ≡ 0 → effects ≡ []
no_effects [] bytes records none = refl
no_effects (effect ∷ rest) bytes records none = absurd (omega (arith, none, ap length records.whole, length-append (record_of effect) (records_of rest), record_some effect))

module _ {D : Type 0} (disk : D → Disk) (store : StoreSeen D) (is : store.phase ≡ Idle) (unbroken : store.broken ≡ false) (none : length store.buffer ≡ 0) where
  rest_step : (s : StoreState) (buffer : List Effect) → buffer ≡ [] → Keeps disk store (record s { phase = Idle; broken = false; buffer = buffer }) → IsStep disk store store (Ok answers.Idle) (record s { phase = Idle; broken = false; buffer = buffer })
  rest_step s [] empty keeps = (refl, keeps)
  rest_step s (e ∷ es) empty keeps = absurd (cc)

  -- nothing is to be done
  pub nothing_to_do : (IsTrue (disk store.active).honest → IsLawful (disk store.active)) → (IsTrue (disk store.spare).honest → IsLawful (disk store.spare)) → IsAdvance disk store store (Ok answers.Idle)
  nothing_to_do lawful lawful_spare = record {
    step = λ s keeps.
        subst (λ (t : StoreState). IsStep disk store store (Ok answers.Idle) t) (in_phase disk store store.active Idle is unbroken lawful lawful_spare s keeps)
        (rest_step s s.buffer (no_effects s.buffer store.buffer keeps.buffer none) (keeps_in disk store store.active Idle is unbroken lawful lawful_spare s keeps));
    numbers = record { which = refl; version = refl; generation = refl; tail = omega arith; journal_length = omega arith; buffer = still };
    rests = λ idle. refl;
    calls = none_called (disk (first_of store)) (disk (second_of store)) (Ok answers.Idle) (λ err. absurd (search rules));
    moments = unmoved disk store lawful lawful_spare;
    one_vault = λ s keeps one_vault. one_vault;
    passes = unmoved_passes disk store lawful lawful_spare;
  }
    where
      empty : store.buffer ≡ []
      empty = nil_from_length store.buffer none

      still : store.buffer ≡ (cond (is_idle store.phase && not store.broken) [] store.buffer)
      still = elim (cases_Bool (is_idle store.phase && not store.broken)) [ inl seals ↦ rw seals empty | inr stays ↦ rw stays refl ]
