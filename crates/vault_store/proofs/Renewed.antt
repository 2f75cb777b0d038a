-- Each step of a snapshot but the last, made by at most one call of the spare's device.
use Rattle.std.proofs.Common.{◌≡◌, ◌⊎◌, inr, ℕ, ◌+◌, ◌-◌, ◌≤◌, IsTrue, Bool, true, false, not, ◌&&◌, cond, List, [], ◌∷◌, length, set, take, drop, refl, sym, ◌∙◌, ap, subst, arith, Result, Ok, Err, IsErr, rules}
use Rattle.std.specs.Prelude.{nat_le}
use Rattle.std.proofs.lemmas.Bool.{false≢true}
use Rattle.vault_device.specs.Disk.{Disk, IsLawful, IsOneCall, IsSync, IsTornImage, IsWrite, LeavesSince}
use Rattle.vault_device.specs.declared.device.Fault.{Fault}
use Rattle.vault_device.proofs.Moments.{one_call}
use Rattle.vault_journal.specs.Spelling.{records_of}
use Rattle.vault_journal.specs.Gate.{SameBut, IsClosed, IsOpening}
use Rattle.vault_store.specs.declared.phase.Phase.{Phase}
use Rattle.vault_store.specs.declared.phase.Phase.TheVariants.{Idle, Written, Bodied, Opening, Start, Closing, Writing, Filled, Ready, SnapOpening}
use Rattle.vault_store.specs.declared.phase.Advanced.{Advanced}
use Rattle.vault_store.specs.declared.phase.Advanced.TheVariants as answers
use Rattle.vault_format.specs.Snapshot.{snapshot_of}
use Rattle.vault_format.specs.Files.{header, IsSpare}
use Rattle.vault_store.specs.Phases.{is_idle, is_snapshot, may_open, most_piece, piece_size, behind_piece}
use Rattle.vault_store.specs.State.{StoreState}
use Rattle.vault_store.specs.Spares.{ClosedMayStand, HasFirst, IsAside, IsFilling, IsSpareIn, IsSpareOn}
use Rattle.vault_store.specs.Seen.{StoreSeen, of_file, first_of, second_of, Keeps, IsLeftInside}
use Rattle.vault_store.specs.Sound.{IsReached, IsBounded, IsActive, IsSoundStore}
use Rattle.vault_store.specs.Companions.{MayPrecede, IsOfOneVault}
use Rattle.vault_store.specs.TwoVaults.{AreOfTwoVaults}
use Rattle.vault_store.specs.Step.{renews, gained, IsAtMostOneCall, IsStep, AreNumbers, MayBeLeft, IsAdvance}
use Rattle.vault_store.proofs.Advances.{at_phase, moved_on, failed_on, none_called}
use Rattle.vault_store.proofs.Asides.{closed_spare, spare_leaves, length-behind}
use Rattle.vault_store.proofs.Companions.{shut_precedes, beside_pass, one_in}
use Rattle.vault_store.proofs.Passes.{two_exchanged, renewed_pass}
use Rattle.vault_store.proofs.Left.{inside_front, inside_renewed}
use Rattle.vault_store.proofs.Placed.{inside_exchanged, calls_placed, moments_placed}
use Rattle.vault_store.proofs.Rests.{still_numbers}
use Rattle.vault_store.proofs.Busy.{snapshot_is_busy}
use Rattle.vault_store.proofs.Renewals.{idle_of, idle_leaves, idle_in, shut_torn, to_shutting, still_shut, to_filling, piece_closed, to_longer, to_ready, head_torn, to_renewing, piece_within, piece_ends, piece_leaves, piece_snapshot, leaves_less}

-- what one call of the spare's device leaves of the counts of both
pub spare_called : {A E : Type 0} (first second new : Disk) (made : Result A E) {B F : Type 0} (result : Result B F) → IsOneCall second new made → (IsErr result → IsErr made) → IsAtMostOneCall first second first new result
spare_called first second new made result call failed = record {
  first_honest = refl;
  second_honest = call.same_honesty;
  calls = omega (arith, call.counted);
  faults = (omega arith, call.no_fewer_faults);
  cause = λ is. inr (call.cause (failed is));
}

bounded_snapshot : (p : Phase) (n tail : ℕ) → is_snapshot p ≡ true → IsBounded p n tail
bounded_snapshot Start n tail is = tt
bounded_snapshot Closing n tail is = tt
bounded_snapshot (Writing left) n tail is = tt
bounded_snapshot Filled n tail is = tt
bounded_snapshot Ready n tail is = tt
bounded_snapshot SnapOpening n tail is = tt
bounded_snapshot Idle n tail is = absurd (cc)
bounded_snapshot Written n tail is = absurd (cc)
bounded_snapshot Bodied n tail is = absurd (cc)
bounded_snapshot Opening n tail is = absurd (cc)

-- what a step makes of the spare's disk, whatever may stand there
abbrev pub IsSpareMove : (List ℕ → Type 0) → Disk → Disk → Phase → Phase → Bool → Bool → List ℕ → Type 0
IsSpareMove MayStand old new p q broken shut rest = IsSpareIn MayStand old p shut rest → IsSpareOn MayStand new q broken shut rest

-- for both kinds of what may stand there
abbrev pub IsAnyMove : Disk → Disk → Phase → Phase → Bool → Bool → List ℕ → Type 1
IsAnyMove old new p q broken shut rest = (MayStand : List ℕ → Type 0) → ClosedMayStand MayStand → IsSpareMove MayStand old new p q broken shut rest

module _ {D : Type 0} (disk : D → Disk) (old : StoreSeen D) (spare : D) (same : (disk spare).honest ≡ (disk old.spare).honest) where
  was_honest : IsTrue (disk spare).honest → IsTrue (disk old.spare).honest
  was_honest honest = subst IsTrue same honest

  pub spare_kept : (s : StoreState) (p q : Phase) (broken : Bool) → is_snapshot p ≡ true → is_snapshot q ≡ true → (IsTrue (disk old.spare).honest → IsSpareMove (IsSpare old.generation) (disk old.spare) (disk spare) p q broken old.shut old.rest)
      → Keeps disk old (record s { phase = p; broken = false }) → Keeps disk (record old { spare = spare; phase = q; broken = broken }) (record s { phase = q; broken = broken })
  spare_kept s p q broken of_p of_q move keeps = record {
    phase = refl;
    broken = refl;
    spelled = keeps.spelled;
    sealing = keeps.sealing;
    few = λ commit. absurd (false≢true (sym commit ∙ of_q));
    sealed_bytes = keeps.sealed_bytes ∙ ap (λ (b : Bool). cond b 0 (length (records_of s.sealing))) (of_p ∙ sym of_q);
    under_way = λ busy commit. absurd (false≢true (sym commit ∙ of_q));
    none = λ idle. absurd (false≢true (sym (snapshot_is_busy q of_q) ∙ idle));
    sealed = keeps.sealed;
    buffer = keeps.buffer;
    noted = keeps.noted;
    renewal = λ snapshot. keeps.renewal of_p;
    files = λ one two.
        let files = keeps.files one (was_honest two) in record {
          front = files.front;
          is_front = files.is_front;
          active = idle_in (disk old.active) files.front (records_of s.sealing) q broken of_q (idle_of (disk old.active) files.front (records_of s.sealing) p of_p files.active);
          spare = move (was_honest two) files.spare;
        };
  }

  pub spare_sound : IsSoundStore disk old → old.broken ≡ false → (p q : Phase) (broken : Bool) → old.phase ≡ p → is_snapshot p ≡ true → is_snapshot q ≡ true → IsReached q old.generation old.rest
      → (IsTrue (disk old.spare).honest → IsSpareMove (λ x. Unit {0}) (disk old.spare) (disk spare) p q broken old.shut old.rest) → IsSoundStore disk (record old { spare = spare; phase = q; broken = broken })
  spare_sound sound unbroken p q broken is of_p of_q reached move = record {
    reached = reached;
    sealed_fits = sound.sealed_fits;
    bounded = bounded_snapshot q (length old.buffer) old.tail of_q;
    inside = sound.inside;
    short = sound.short;
    active = λ honest.
        let was : IsActive (disk old.active) old.tail old.sealed p false =
        subst (λ (r : Phase). IsActive (disk old.active) old.tail old.sealed r false) is (subst (λ (b : Bool). IsActive (disk old.active) old.tail old.sealed old.phase b) unbroken (sound.active honest)) in record {
          front = was.front;
          records = was.records;
          stands = was.stands;
          size = was.size;
          on_disk = idle_in (disk old.active) was.front was.records q broken of_q (idle_of (disk old.active) was.front was.records p of_p was.on_disk);
        };
    spare = λ honest.
        move (was_honest honest)
        (subst (λ (r : Phase). IsSpareIn (λ x. Unit {0}) (disk old.spare) r old.shut old.rest) is
        (subst (λ (b : Bool). IsSpareOn (λ x. Unit {0}) (disk old.spare) old.phase b old.shut old.rest) unbroken (sound.spare (was_honest honest))));
  }

-- what a crash inside a step that makes this of the spare's device leaves is read
abbrev pub AreSpareMoments : {D : Type 0} → (D → Disk) → StoreSeen D → D → StoreState → List ℕ → List ℕ → Type 0
AreSpareMoments disk old spare s x y =
    IsTrue (disk (first_of old)).honest → IsTrue (disk (second_of old)).honest → MayBeLeft (disk (first_of old)) (disk (second_of old)) (disk (of_file old.which old.active spare)) (disk (of_file old.which spare old.active)) x y → IsLeftInside old s x y

-- of files of one vault it leaves what isn't reported as two
abbrev pub IsSparePassed : {D : Type 0} → (D → Disk) → StoreSeen D → D → List ℕ → List ℕ → Type 0
IsSparePassed disk old spare x y =
    IsTrue (disk (first_of old)).honest → IsTrue (disk (second_of old)).honest → MayBeLeft (disk (first_of old)) (disk (second_of old)) (disk (of_file old.which old.active spare)) (disk (of_file old.which spare old.active)) x y → AreOfTwoVaults x y → ⊥

-- a crash inside such a step
pub record IsInsideSpare {D : Type 0} (disk : D → Disk) (old : StoreSeen D) (spare : D) : Type 0 where
  pub moments : (s : StoreState) (x y : List ℕ) → Keeps disk old s → AreSpareMoments disk old spare s x y
  pub passes : (s : StoreState) (x y : List ℕ) → Keeps disk old s → IsOfOneVault disk old → IsSparePassed disk old spare x y

-- a crash leaves what may stand there, whatever that is
abbrev pub LeavesStanding : Disk → Disk → Phase → Bool → List ℕ → Type 1
LeavesStanding old new p shut rest = (MayStand : List ℕ → Type 0) → ClosedMayStand MayStand → (y : List ℕ) → IsSpareIn MayStand old p shut rest → new.WasImage old.moment y → MayStand y

module _ {D : Type 0} (disk : D → Disk) (old : StoreSeen D) (spare : D) (p : Phase) (is : old.phase ≡ p) (of_p : is_snapshot p ≡ true) (unbroken : old.broken ≡ false) (lawful : IsTrue (disk old.active).honest → IsLawful (disk old.active)) where
  pub snap_phase : (s : StoreState) → Keeps disk old s → record s { phase = p; broken = false } ≡ s
  snap_phase s keeps = at_phase s p (sym keeps.phase ∙ is) (sym keeps.broken ∙ unbroken)

  pub snap_keeps : (s : StoreState) → Keeps disk old s → Keeps disk old (record s { phase = p; broken = false })
  snap_keeps s keeps = subst (Keeps disk old) (sym (snap_phase s keeps)) keeps

  -- a crash that leaves a spare
  pub leaves_spare : (IsTrue (disk old.spare).honest → LeavesStanding (disk old.spare) (disk spare) p old.shut old.rest) → IsInsideSpare disk old spare
  leaves_spare move = record {
    moments = λ s x y keeps.
        moments_placed disk old.which old.active old.spare old.active spare (IsLeftInside old s) (inside_exchanged old s)
        (λ v w one two may.
        let here = snap_keeps s keeps in
        let files = here.files one two in
        subst (λ (t : StoreState). IsLeftInside old t v w) (snap_phase s keeps)
        (inside_front disk old (record s { phase = p; broken = false }) here files.front files.is_front v w
        (idle_leaves (disk old.active) files.front (records_of s.sealing) (idle_of (disk old.active) files.front (records_of s.sealing) p of_p files.active) v ((lawful one).only_now v may.0))
        (move two (IsSpare old.generation) (closed_spare old.generation) w files.spare may.1))) x y;
    passes = λ s x y keeps one_vault.
        moments_placed disk old.which old.active old.spare old.active spare (λ v w. AreOfTwoVaults v w → ⊥) (λ v w pass two. pass (two_exchanged w v two))
        (λ v w one two may.
        let are = one_in disk old p false is unbroken one_vault one two in
        beside_pass v w old.generation are.base (are.based v ((lawful one).only_now v may.0)) (move two (MayPrecede old.generation are.base) (shut_precedes old.generation are.base) w are.beside may.1)) x y;
  }

  -- a crash that leaves the head gate open or closed over the whole file
  pub leaves_renewed : may_open p ≡ true → (IsTrue (disk old.spare).honest → (y : List ℕ) → IsSpareIn (IsSpare old.generation) (disk old.spare) p old.shut old.rest → (disk spare).WasImage (disk old.spare).moment y → HasFirst (length old.rest) old.rest y)
      → IsInsideSpare disk old spare
  leaves_renewed opens move = record {
    moments = λ s x y keeps.
        moments_placed disk old.which old.active old.spare old.active spare (IsLeftInside old s) (inside_exchanged old s)
        (λ v w one two may.
        let here = snap_keeps s keeps in
        let files = here.files one two in
        subst (λ (t : StoreState). IsLeftInside old t v w) (snap_phase s keeps)
        (inside_renewed disk old (record s { phase = p; broken = false }) here files.front files.is_front v w of_p opens
        (idle_leaves (disk old.active) files.front (records_of s.sealing) (idle_of (disk old.active) files.front (records_of s.sealing) p of_p files.active) v ((lawful one).only_now v may.0)) (move two w files.spare may.1))) x y;
    passes = λ s x y keeps one_vault.
        moments_placed disk old.which old.active old.spare old.active spare (λ v w. AreOfTwoVaults v w → ⊥) (λ v w pass two. pass (two_exchanged w v two))
        (λ v w one two may.
        let here = snap_keeps s keeps in
        let files = here.files one two in
        renewed_pass disk old (record s { phase = p; broken = false }) files.front v w files.is_front
        (idle_leaves (disk old.active) files.front (records_of s.sealing) (idle_of (disk old.active) files.front (records_of s.sealing) p of_p files.active) v ((lawful one).only_now v may.0)) here of_p (move two w files.spare may.1)) x y;
  }

  -- a step of the spare's keeps files of one vault so
  pub spare_one : (disk spare).honest ≡ (disk old.spare).honest → (q : Phase) (broken : Bool) → (IsTrue (disk old.spare).honest → IsAnyMove (disk old.spare) (disk spare) p q broken old.shut old.rest)
      → IsOfOneVault disk old → IsOfOneVault disk (record old { spare = spare; phase = q; broken = broken })
  spare_one same q broken move one_vault one two =
      let was = subst IsTrue same two in
      let are = one_in disk old p false is unbroken one_vault one was in record {
        base = are.base;
        based = are.based;
        beside = move was (MayPrecede old.generation are.base) (shut_precedes old.generation are.base) are.beside;
      }

  -- the numbers of a step that isn't the last
  spare_numbers : (q : Phase) (broken : Bool) (result : Result Advanced Fault) → renews old result ≡ false → gained old result ≡ 0 → AreNumbers old (record old { spare = spare; phase = q; broken = broken }) result
  spare_numbers q broken result still none =
      still_numbers old old.active spare old.buffer old.sealed q broken result still none (ap (λ (b : Bool). cond (b && not old.broken) [] old.buffer) (sym (ap is_idle is ∙ snapshot_is_busy p of_p)))

  -- such a step
  pub spare_advance : (q : Phase) (broken : Bool) (result : Result Advanced Fault) → renews old result ≡ false → gained old result ≡ 0 → ((result ≡ Ok answers.Idle) ⊎ (result ≡ Ok answers.Broken) → ⊥)
      → (disk spare).honest ≡ (disk old.spare).honest
      → IsAtMostOneCall (disk old.active) (disk old.spare) (disk old.active) (disk spare) result
      → (IsTrue (disk old.spare).honest → IsAnyMove (disk old.spare) (disk spare) p q broken old.shut old.rest)
      → ((s : StoreState) → (IsTrue (disk old.spare).honest → IsSpareMove (IsSpare old.generation) (disk old.spare) (disk spare) p q broken old.shut old.rest) → Keeps disk old (record s { phase = p; broken = false })
      → IsStep disk old (record old { spare = spare; phase = q; broken = broken }) result (record s { phase = p; broken = false }))
      → IsInsideSpare disk old spare
      → IsAdvance disk old (record old { spare = spare; phase = q; broken = broken }) result
  spare_advance q broken result still none moved same call move step inside = record {
    step = λ s keeps.
        subst (λ (t : StoreState). IsStep disk old (record old { spare = spare; phase = q; broken = broken }) result t) (snap_phase s keeps)
        (step s (λ honest. move honest (IsSpare old.generation) (closed_spare old.generation)) (snap_keeps s keeps));
    numbers = spare_numbers q broken result still none;
    rests = λ idle. absurd (moved idle);
    calls = calls_placed disk old.which old.active old.spare old.active spare result call;
    moments = inside.moments;
    one_vault = λ s keeps. spare_one same q broken move;
    passes = inside.passes;
  }

pub stays_shut : {D : Type 0} (disk : D → Disk) (old : StoreSeen D) → old.shut ≡ true → (MayStand : List ℕ → Type 0) → IsSpareMove MayStand (disk old.spare) (disk old.spare) Start Closing false old.shut old.rest
stays_shut disk old shut MayStand aside = still_shut MayStand (disk old.spare) (disk old.spare) (subst (IsAside MayStand (disk old.spare)) shut aside)

-- one step of each row that isn't the last
module _ {D : Type 0} (disk : D → Disk) (old : StoreSeen D) (spare : D) (unbroken : old.broken ≡ false) (lawful : IsTrue (disk old.active).honest → IsLawful (disk old.active)) (lawful_spare : IsTrue (disk old.spare).honest → IsLawful (disk old.spare)) where
  -- the old phase and a new one, the answer Moved, or a fault
  moved : (p q : Phase) → old.phase ≡ p → is_snapshot p ≡ true → IsOneCall {A = Unit {0}} {E = Fault} (disk old.spare) (disk spare) (Ok tt)
      → (IsTrue (disk old.spare).honest → IsAnyMove (disk old.spare) (disk spare) p q false old.shut old.rest)
      → ((s : StoreState) → (IsTrue (disk old.spare).honest → IsSpareMove (IsSpare old.generation) (disk old.spare) (disk spare) p q false old.shut old.rest) → Keeps disk old (record s { phase = p; broken = false })
      → IsStep disk old (record old { spare = spare; phase = q; broken = false }) (Ok answers.Moved) (record s { phase = p; broken = false }))
      → IsInsideSpare disk old spare
      → IsAdvance disk old (record old { spare = spare; phase = q }) (Ok answers.Moved)
  moved p q is of_p call move step inside =
      subst (λ (b : Bool). IsAdvance disk old (record old { spare = spare; phase = q; broken = b }) (Ok answers.Moved)) (sym unbroken)
      (spare_advance disk old spare p is of_p unbroken lawful q false (Ok answers.Moved) refl refl (moved_on answers.Moved (λ e. cc) (λ e. cc)) call.same_honesty
      (spare_called (disk old.active) (disk old.spare) (disk spare) (Ok tt) (Ok answers.Moved) call (λ err. err)) move step inside)

  faulted : (fault : Fault) (p q : Phase) → old.phase ≡ p → is_snapshot p ≡ true → IsOneCall {A = Unit {0}} (disk old.spare) (disk spare) (Err fault)
      → (IsTrue (disk old.spare).honest → IsAnyMove (disk old.spare) (disk spare) p q true old.shut old.rest)
      → ((s : StoreState) → (IsTrue (disk old.spare).honest → IsSpareMove (IsSpare old.generation) (disk old.spare) (disk spare) p q true old.shut old.rest) → Keeps disk old (record s { phase = p; broken = false })
      → IsStep disk old (record old { spare = spare; phase = q; broken = true }) (Err fault) (record s { phase = p; broken = false }))
      → IsInsideSpare disk old spare
      → IsAdvance disk old (record old { spare = spare; phase = q; broken = true }) (Err fault)
  faulted fault p q is of_p call move step inside =
      spare_advance disk old spare p is of_p unbroken lawful q true (Err fault) refl refl (failed_on fault) call.same_honesty (spare_called (disk old.active) (disk old.spare) (disk spare) (Err fault) (Err fault) call (λ err. err)) move step inside

  -- Start

  aside_open : (MayStand : List ℕ → Type 0) → old.shut ≡ false → IsAside MayStand (disk old.spare) old.shut → IsAside MayStand (disk old.spare) false
  aside_open MayStand unshut aside = subst (IsAside MayStand (disk old.spare)) unshut aside

  pub closes_head : old.shut ≡ false → IsWrite {E = Fault} 0 (0 ∷ []) (Ok tt) (disk old.spare) (disk spare) → IsAnyMove (disk old.spare) (disk spare) Start Closing false old.shut old.rest
  closes_head unshut wrote MayStand closed aside = to_shutting MayStand (disk old.spare) (disk spare) (aside_open MayStand unshut aside) wrote

  pub head_half_closed : (fault : Fault) → old.shut ≡ false → IsWrite 0 (0 ∷ []) (Err fault) (disk old.spare) (disk spare) → IsAnyMove (disk old.spare) (disk spare) Start Closing true old.shut old.rest
  head_half_closed fault unshut wrote MayStand closed aside = λ x image. shut_torn MayStand (disk old.spare) (disk spare) (aside_open MayStand unshut aside) x (wrote.images x image)

  closing_inside : {E : Type 0} (made : Result (Unit {0}) E) → old.shut ≡ false → (IsTrue (disk old.spare).honest → IsWrite 0 (0 ∷ []) made (disk old.spare) (disk spare))
      → IsTrue (disk old.spare).honest → LeavesStanding (disk old.spare) (disk spare) Start old.shut old.rest
  closing_inside made unshut wrote honest MayStand closed y aside was =
      (one_call (disk old.spare) (disk spare) _ MayStand (lawful_spare honest) (wrote honest).time
      (spare_leaves MayStand (disk old.spare) old.shut old.rest closed Start false aside)
      (λ x torn. shut_torn MayStand (disk old.spare) (disk spare) (aside_open MayStand unshut aside) x torn)).each y was

  pub head_closed : old.phase ≡ Start → old.shut ≡ false → IsOneCall {A = Unit {0}} {E = Fault} (disk old.spare) (disk spare) (Ok tt) → (IsTrue (disk old.spare).honest → IsWrite {E = Fault} 0 (0 ∷ []) (Ok tt) (disk old.spare) (disk spare))
      → IsAdvance disk old (record old { spare = spare; phase = Closing }) (Ok answers.Moved)
  head_closed is unshut call wrote =
      moved Start Closing is refl call
      (λ honest. closes_head unshut (wrote honest))
      (λ s move keeps. (refl, spare_kept disk old spare call.same_honesty s Start Closing false refl refl move keeps))
      (leaves_spare disk old spare Start is refl unbroken lawful (closing_inside (Ok tt) unshut wrote))

  pub head_failed : (fault : Fault) → old.phase ≡ Start → old.shut ≡ false → IsOneCall {A = Unit {0}} (disk old.spare) (disk spare) (Err fault) → (IsTrue (disk old.spare).honest → IsWrite 0 (0 ∷ []) (Err fault) (disk old.spare) (disk spare))
      → IsAdvance disk old (record old { spare = spare; phase = Closing; broken = true }) (Err fault)
  head_failed fault is unshut call wrote =
      faulted fault Start Closing is refl call
      (λ honest. head_half_closed fault unshut (wrote honest))
      (λ s move keeps. (refl, λ e. cc, spare_kept disk old spare call.same_honesty s Start Closing true refl refl move keeps))
      (leaves_spare disk old spare Start is refl unbroken lawful (closing_inside (Err fault) unshut wrote))

  -- Closing

  pub settles_shut : IsSync {E = Fault} (Ok tt) (disk old.spare) (disk spare) → IsAnyMove (disk old.spare) (disk spare) Closing (Writing (length old.rest)) false old.shut old.rest
  settles_shut sync MayStand closed shutting = subst (λ (n : ℕ). IsFilling (disk spare) n old.rest) none (to_filling MayStand (disk old.spare) (disk spare) old.rest shutting sync)
    where
      none : 0 ≡ length old.rest - length old.rest
      none = omega arith

  pub shut_settled : old.phase ≡ Closing → IsOneCall {A = Unit {0}} {E = Fault} (disk old.spare) (disk spare) (Ok tt) → (IsTrue (disk old.spare).honest → IsSync {E = Fault} (Ok tt) (disk old.spare) (disk spare))
      → (IsTrue (disk old.spare).honest → LeavesSince (disk old.spare) (disk spare) (disk old.spare).IsImage) → IsAdvance disk old (record old { spare = spare; phase = Writing (length old.rest) }) (Ok answers.Moved)
  shut_settled is call sync moments =
      moved Closing (Writing (length old.rest)) is refl call (λ honest. settles_shut (sync honest))
      (λ s move keeps.
      let size : length old.rest ≡ header + length (snapshot_of s.sealed) = let r = keeps.renewal refl in ap length r.bytes ∙ length-behind (old.generation + 1) s.sealed in (
        refl,
        subst (λ (n : ℕ). Keeps disk (record old { spare = spare; phase = Writing n; broken = false }) (record s { phase = Writing (header + length (snapshot_of s.sealed)); broken = false })) (sym size)
            (spare_kept disk old spare call.same_honesty s Closing (Writing (header + length (snapshot_of s.sealed))) false refl refl
            (λ honest. subst (λ (n : ℕ). IsSpareMove (IsSpare old.generation) (disk old.spare) (disk spare) Closing (Writing n) false old.shut old.rest) size (move honest)) keeps),
      ))
      (leaves_spare disk old spare Closing is refl unbroken lawful (λ honest MayStand closed y shutting was. shutting.images y ((moments honest).each y was)))

  -- a sync that failed: no more is left than before
  unsettled : (fault : Fault) (p : Phase) → IsSync (Err fault) (disk old.spare) (disk spare) → IsAnyMove (disk old.spare) (disk spare) p p true old.shut old.rest
  unsettled fault p sync MayStand closed is = leaves_less MayStand (disk old.spare) (disk spare) old.rest p sync.images (spare_leaves MayStand (disk old.spare) old.shut old.rest closed p false is)

  still_there : (fault : Fault) (p : Phase) → old.phase ≡ p → is_snapshot p ≡ true → IsOneCall {A = Unit {0}} (disk old.spare) (disk spare) (Err fault) → (IsTrue (disk old.spare).honest → IsSync (Err fault) (disk old.spare) (disk spare))
      → ((s : StoreState) → Keeps disk (record old { spare = spare; phase = p; broken = true }) (record s { phase = p; broken = true }) → IsStep disk old (record old { spare = spare; phase = p; broken = true }) (Err fault) (record s { phase = p; broken = false }))
      → IsInsideSpare disk old spare → IsAdvance disk old (record old { spare = spare; broken = true }) (Err fault)
  still_there fault p is of_p call sync step inside =
      subst (λ (q : Phase). IsAdvance disk old (record old { spare = spare; phase = q; broken = true }) (Err fault)) (sym is)
      (faulted fault p p is of_p call (λ honest. unsettled fault p (sync honest)) (λ s move keeps. step s (spare_kept disk old spare call.same_honesty s p p true of_p of_p move keeps)) inside)

  pub shut_unsettled : (fault : Fault) → old.phase ≡ Closing → IsOneCall {A = Unit {0}} (disk old.spare) (disk spare) (Err fault) → (IsTrue (disk old.spare).honest → IsSync (Err fault) (disk old.spare) (disk spare))
      → (IsTrue (disk old.spare).honest → LeavesSince (disk old.spare) (disk spare) (disk old.spare).IsImage) → IsAdvance disk old (record old { spare = spare; broken = true }) (Err fault)
  shut_unsettled fault is call sync moments =
      still_there fault Closing is refl call sync (λ s keeps. (refl, λ e. cc, keeps)) (leaves_spare disk old spare Closing is refl unbroken lawful (λ honest MayStand closed y shutting was. shutting.images y ((moments honest).each y was)))

  -- Writing

  module _ (left : ℕ) (within : left ≤ length old.rest) where
    abbrev pub piece : List ℕ
    piece = take (piece_size left) (drop (length old.rest - left) old.rest)

    whole : length old.rest - left + piece_size left ≤ length old.rest
    whole = omega (arith, within, piece_within left)

    pub writes_piece : IsWrite {E = Fault} (length old.rest - left + 1) piece (Ok tt) (disk old.spare) (disk spare) → IsAnyMove (disk old.spare) (disk spare) (Writing left) (behind_piece left) false old.shut old.rest
    writes_piece wrote MayStand closed filling =
        piece_ends MayStand (disk spare) old.shut old.rest left within (to_longer (disk old.spare) (disk spare) (length old.rest - left) (piece_size left) old.rest whole filling wrote)

    closed_behind : (k : ℕ) → IsFilling (disk old.spare) (length old.rest - left) old.rest → (x : List ℕ) → IsTornImage (disk old.spare) (length old.rest - left + 1) k x → IsClosed 0 x
    closed_behind k filling x torn = piece_closed (disk old.spare) (disk spare) (length old.rest - left) (piece_size left) old.rest whole k filling x torn

    pub piece_half_written : (fault : Fault) → IsWrite (length old.rest - left + 1) piece (Err fault) (disk old.spare) (disk spare) → IsAnyMove (disk old.spare) (disk spare) (Writing left) (behind_piece left) true old.shut old.rest
    piece_half_written fault wrote MayStand closed filling = piece_leaves MayStand (disk spare) old.rest left (λ x image. closed x (closed_behind (length piece) filling x (wrote.images x image)))

    writing_inside : {E : Type 0} (made : Result (Unit {0}) E) → (IsTrue (disk old.spare).honest → IsWrite (length old.rest - left + 1) piece made (disk old.spare) (disk spare))
        → IsTrue (disk old.spare).honest → LeavesStanding (disk old.spare) (disk spare) (Writing left) old.shut old.rest
    writing_inside made wrote honest MayStand closed y filling was =
        (one_call (disk old.spare) (disk spare) _ MayStand (lawful_spare honest) (wrote honest).time (λ x image. closed x (filling.closed x image)) (λ x torn. closed x (closed_behind (length piece) filling x torn))).each y was

    pub piece_written : old.phase ≡ Writing left → IsOneCall {A = Unit {0}} {E = Fault} (disk old.spare) (disk spare) (Ok tt) → (IsTrue (disk old.spare).honest → IsWrite {E = Fault} (length old.rest - left + 1) piece (Ok tt) (disk old.spare) (disk spare))
        → IsAdvance disk old (record old { spare = spare; phase = behind_piece left }) (Ok answers.Moved)
    piece_written is call wrote =
        moved (Writing left) (behind_piece left) is refl call
        (λ honest. writes_piece (wrote honest))
        (λ s move keeps. (refl, spare_kept disk old spare call.same_honesty s (Writing left) (behind_piece left) false refl (piece_snapshot left) move keeps))
        (leaves_spare disk old spare (Writing left) is refl unbroken lawful (writing_inside (Ok tt) wrote))

    pub piece_failed : (fault : Fault) → old.phase ≡ Writing left → IsOneCall {A = Unit {0}} (disk old.spare) (disk spare) (Err fault) → (IsTrue (disk old.spare).honest → IsWrite (length old.rest - left + 1) piece (Err fault) (disk old.spare) (disk spare))
        → IsAdvance disk old (record old { spare = spare; phase = behind_piece left; broken = true }) (Err fault)
    piece_failed fault is call wrote =
        faulted fault (Writing left) (behind_piece left) is refl call
        (λ honest. piece_half_written fault (wrote honest))
        (λ s move keeps. (refl, λ e. cc, spare_kept disk old spare call.same_honesty s (Writing left) (behind_piece left) true refl (piece_snapshot left) move keeps))
        (leaves_spare disk old spare (Writing left) is refl unbroken lawful (writing_inside (Err fault) wrote))

  -- Filled

  pub settles_all : IsTrue (disk old.spare).honest → IsSync {E = Fault} (Ok tt) (disk old.spare) (disk spare) → IsAnyMove (disk old.spare) (disk spare) Filled Ready false old.shut old.rest
  settles_all honest sync MayStand closed filling = to_ready (disk old.spare) (disk spare) old.rest (lawful_spare honest) filling sync

  pub all_settled : old.phase ≡ Filled → IsOneCall {A = Unit {0}} {E = Fault} (disk old.spare) (disk spare) (Ok tt) → (IsTrue (disk old.spare).honest → IsSync {E = Fault} (Ok tt) (disk old.spare) (disk spare))
      → (IsTrue (disk old.spare).honest → LeavesSince (disk old.spare) (disk spare) (disk old.spare).IsImage) → IsAdvance disk old (record old { spare = spare; phase = Ready }) (Ok answers.Moved)
  all_settled is call sync moments =
      moved Filled Ready is refl call
      (λ honest. settles_all honest (sync honest))
      (λ s move keeps. (refl, spare_kept disk old spare call.same_honesty s Filled Ready false refl refl move keeps))
      (leaves_spare disk old spare Filled is refl unbroken lawful (λ honest MayStand closed y filling was. closed y (filling.closed y ((moments honest).each y was))))

  pub all_unsettled : (fault : Fault) → old.phase ≡ Filled → IsOneCall {A = Unit {0}} (disk old.spare) (disk spare) (Err fault) → (IsTrue (disk old.spare).honest → IsSync (Err fault) (disk old.spare) (disk spare))
      → (IsTrue (disk old.spare).honest → LeavesSince (disk old.spare) (disk spare) (disk old.spare).IsImage) → IsAdvance disk old (record old { spare = spare; broken = true }) (Err fault)
  all_unsettled fault is call sync moments =
      still_there fault Filled is refl call sync (λ s keeps. (refl, λ e. cc, keeps))
      (leaves_spare disk old spare Filled is refl unbroken lawful (λ honest MayStand closed y filling was. closed y (filling.closed y ((moments honest).each y was))))

  -- Ready

  pub opens_head : IsWrite {E = Fault} 0 (1 ∷ []) (Ok tt) (disk old.spare) (disk spare) → (disk spare).shown ≡ set (disk old.spare).shown 0 1 → ((x : List ℕ) → (disk spare).IsImage x → IsOpening 0 (disk old.spare).shown x)
      → ((x : List ℕ) → (disk spare).IsImage x → SameBut 0 (disk spare).shown x) → IsAnyMove (disk old.spare) (disk spare) Ready SnapOpening false old.shut old.rest
  opens_head wrote shown images same_but MayStand closed ready = to_renewing (disk old.spare) (disk spare) old.rest ready wrote shown images same_but

  pub head_half_open : ((x : List ℕ) → (disk spare).IsImage x → IsOpening 0 (disk old.spare).shown x) → IsAnyMove (disk old.spare) (disk spare) Ready SnapOpening true old.shut old.rest
  head_half_open images MayStand closed ready = λ x image. head_torn (disk old.spare) (disk spare) old.rest ready x (images x image)

  pub head_opened : old.phase ≡ Ready → IsOneCall {A = Unit {0}} {E = Fault} (disk old.spare) (disk spare) (Ok tt) → (IsTrue (disk old.spare).honest → IsWrite {E = Fault} 0 (1 ∷ []) (Ok tt) (disk old.spare) (disk spare))
      → (IsTrue (disk old.spare).honest → (disk spare).shown ≡ set (disk old.spare).shown 0 1) → (IsTrue (disk old.spare).honest → (x : List ℕ) → (disk spare).IsImage x → IsOpening 0 (disk old.spare).shown x)
      → (IsTrue (disk old.spare).honest → (x : List ℕ) → (disk spare).IsImage x → SameBut 0 (disk spare).shown x) → (IsTrue (disk old.spare).honest → LeavesSince (disk old.spare) (disk spare) (IsOpening 0 (disk old.spare).shown))
      → IsAdvance disk old (record old { spare = spare; phase = SnapOpening }) (Ok answers.Moved)
  head_opened is call wrote shown images same_but moments =
      moved Ready SnapOpening is refl call
      (λ honest. opens_head (wrote honest) (shown honest) (images honest) (same_but honest))
      (λ s move keeps. (refl, spare_kept disk old spare call.same_honesty s Ready SnapOpening false refl refl move keeps))
      (leaves_renewed disk old spare Ready is refl unbroken lawful refl (λ honest y ready was. head_torn (disk old.spare) (disk spare) old.rest ready y ((moments honest).each y was)))

  pub head_unopened : (fault : Fault) → old.phase ≡ Ready → IsOneCall {A = Unit {0}} (disk old.spare) (disk spare) (Err fault) → (IsTrue (disk old.spare).honest → (x : List ℕ) → (disk spare).IsImage x → IsOpening 0 (disk old.spare).shown x)
      → (IsTrue (disk old.spare).honest → LeavesSince (disk old.spare) (disk spare) (IsOpening 0 (disk old.spare).shown)) → IsAdvance disk old (record old { spare = spare; phase = SnapOpening; broken = true }) (Err fault)
  head_unopened fault is call images moments =
      faulted fault Ready SnapOpening is refl call
      (λ honest. head_half_open (images honest))
      (λ s move keeps. (refl, λ e. cc, spare_kept disk old spare call.same_honesty s Ready SnapOpening true refl refl move keeps))
      (leaves_renewed disk old spare Ready is refl unbroken lawful refl (λ honest y ready was. head_torn (disk old.spare) (disk spare) old.rest ready y ((moments honest).each y was)))

  -- SnapOpening

  pub head_unsettled : (fault : Fault) → old.phase ≡ SnapOpening → IsOneCall {A = Unit {0}} (disk old.spare) (disk spare) (Err fault) → (IsTrue (disk old.spare).honest → IsSync (Err fault) (disk old.spare) (disk spare))
      → (IsTrue (disk old.spare).honest → LeavesSince (disk old.spare) (disk spare) (disk old.spare).IsImage) → IsAdvance disk old (record old { spare = spare; broken = true }) (Err fault)
  head_unsettled fault is call sync moments =
      still_there fault SnapOpening is refl call sync (λ s keeps. (refl, λ e. cc, keeps))
      (leaves_renewed disk old spare SnapOpening is refl unbroken lawful refl (λ honest y renewing was. renewing.images y ((moments honest).each y was)))

-- after a piece there are as many bytes as before, and no more are left
pub piece_reached : (generation : ℕ) (rest : List ℕ) (left : ℕ) → IsReached (Writing left) generation rest → IsReached (behind_piece left) generation rest
piece_reached generation rest left reached = by_test (nat_le left most_piece)
  where
    by_test : (b : Bool) → IsReached (cond b Filled (Writing (left - most_piece))) generation rest
    by_test true = reached.0
    by_test false = (reached.0, omega (arith, reached.1))

-- the head gate is closed already, and no call is made
pub head_shut : {D : Type 0} (disk : D → Disk) (old : StoreSeen D) → old.broken ≡ false → old.phase ≡ Start → old.shut ≡ true → (IsTrue (disk old.active).honest → IsLawful (disk old.active)) → (IsTrue (disk old.spare).honest → IsLawful (disk old.spare))
    → IsAdvance disk old (record old { phase = Closing }) (Ok answers.Moved)
head_shut disk old unbroken is shut lawful lawful_spare =
    subst (λ (b : Bool). IsAdvance disk old (record old { phase = Closing; broken = b }) (Ok answers.Moved)) (sym unbroken)
    (spare_advance disk old old.spare Start is refl unbroken lawful Closing false (Ok answers.Moved) refl refl (moved_on answers.Moved (λ e. cc) (λ e. cc)) refl
    (none_called (disk old.active) (disk old.spare) (Ok answers.Moved) (λ err. absurd (search rules)))
    (λ honest MayStand closed. stays_shut disk old shut MayStand)
    (λ s move keeps. (refl, spare_kept disk old old.spare refl s Start Closing false refl refl move keeps))
    (leaves_spare disk old old.spare Start is refl unbroken lawful
    (λ honest MayStand closed y aside was. spare_leaves MayStand (disk old.spare) old.shut old.rest closed Start false aside y ((lawful_spare honest).only_now y was))))
