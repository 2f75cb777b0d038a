-- What every store keeps, from step to step.
use Rattle.std.proofs.Common.{◌≡◌, ℕ, ◌+◌, ◌<◌, ◌≤◌, IsTrue, Bool, false, List, [], ◌++◌, length, refl, sym, subst, arith, length-append}
use Rattle.std.proofs.lemmas.Bool.{false≢true}
use Rattle.std.proofs.lemmas.Bool.Decides.{nat_tests}
use Rattle.vault_device.specs.Disk.{Disk}
use Rattle.vault_journal.specs.Gate.{frame_room}
use Rattle.vault_store.specs.declared.phase.Phase.{Phase}
use Rattle.vault_store.specs.declared.phase.Phase.TheVariants.{Idle, Written, Bodied, Opening, Start, Closing, Writing, Filled, Ready, SnapOpening}
use Rattle.vault_format.specs.Files.{frame_bytes}
use Rattle.vault_store.specs.Phases.{is_idle, is_snapshot}
use Rattle.vault_store.specs.OnDisk.{IsOnDisk}
use Rattle.vault_store.specs.Spares.{IsSpareIn, IsSpareOn}
use Rattle.vault_store.specs.Seen.{StoreSeen, has_room, most_noted, last_tail}
use Rattle.vault_store.specs.Sound.{IsReached, IsBusy, IsBounded, IsActive, IsSoundStore}
use Rattle.vault_store.proofs.Asides.{still_aside}
use Rattle.vault_store.proofs.Kept.{IsMove}
use Rattle.vault_format.proofs.Frames.{length-frame}

busy_in : (p : Phase) (n tail : ℕ) → is_idle p ≡ false → is_snapshot p ≡ false → IsBounded p n tail → IsBusy n tail
busy_in Idle n tail busy commit bounded = absurd (false≢true (sym busy))
busy_in Written n tail busy commit bounded = bounded
busy_in Bodied n tail busy commit bounded = bounded
busy_in Opening n tail busy commit bounded = bounded
busy_in Start n tail busy commit bounded = absurd (false≢true (sym commit))
busy_in Closing n tail busy commit bounded = absurd (false≢true (sym commit))
busy_in (Writing left) n tail busy commit bounded = absurd (false≢true (sym commit))
busy_in Filled n tail busy commit bounded = absurd (false≢true (sym commit))
busy_in Ready n tail busy commit bounded = absurd (false≢true (sym commit))
busy_in SnapOpening n tail busy commit bounded = absurd (false≢true (sym commit))

bounded_in : (p : Phase) (n tail : ℕ) → is_idle p ≡ false → IsBusy n tail → IsBounded p n tail
bounded_in Idle n tail busy bounded = absurd (false≢true (sym busy))
bounded_in Written n tail busy bounded = bounded
bounded_in Bodied n tail busy bounded = bounded
bounded_in Opening n tail busy bounded = bounded
bounded_in Start n tail busy bounded = tt
bounded_in Closing n tail busy bounded = tt
bounded_in (Writing left) n tail busy bounded = tt
bounded_in Filled n tail busy bounded = tt
bounded_in Ready n tail busy bounded = tt
bounded_in SnapOpening n tail busy bounded = tt

-- where a frame may begin, any number of records may wait
bounded_more : (p : Phase) (n m tail : ℕ) → tail < last_tail → IsBounded p n tail → IsBounded p m tail
bounded_more Idle n m tail below bounded = λ some. omega (arith, below)
bounded_more Written n m tail below bounded = (bounded.0, λ some. below)
bounded_more Bodied n m tail below bounded = (bounded.0, λ some. below)
bounded_more Opening n m tail below bounded = (bounded.0, λ some. below)
bounded_more Start n m tail below bounded = tt
bounded_more Closing n m tail below bounded = tt
bounded_more (Writing left) n m tail below bounded = tt
bounded_more Filled n m tail below bounded = tt
bounded_more Ready n m tail below bounded = tt
bounded_more SnapOpening n m tail below bounded = tt

pub note_sound : {D : Type 0} (disk : D → Disk) (store : StoreSeen D) (bytes : List ℕ) → store.tail < last_tail → IsSoundStore disk store → IsSoundStore disk (record store { buffer = bytes })
note_sound disk store bytes below sound = record {
  reached = sound.reached;
  sealed_fits = sound.sealed_fits;
  bounded = bounded_more store.phase (length store.buffer) (length bytes) store.tail below sound.bounded;
  inside = sound.inside;
  short = sound.short;
  active = sound.active;
  spare = sound.spare;
}

module _ {D : Type 0} (disk : D → Disk) (old : StoreSeen D) (active : D) (same : (disk active).honest ≡ (disk old.active).honest) (sound : IsSoundStore disk old) (unbroken : old.broken ≡ false) where
  -- what is on the active disk before the step
  before : (p : Phase) → old.phase ≡ p → IsTrue (disk active).honest → IsActive (disk old.active) old.tail old.sealed p false
  before p is honest = subst (λ (q : Phase). IsActive (disk old.active) old.tail old.sealed q false) is (subst (λ (b : Bool). IsActive (disk old.active) old.tail old.sealed old.phase b) unbroken (sound.active (subst IsTrue same honest)))

  spare_before : (p : Phase) → old.phase ≡ p → IsTrue (disk old.spare).honest → IsSpareIn (λ x. Unit {0}) (disk old.spare) p old.shut old.rest
  spare_before p is honest =
      subst (λ (q : Phase). IsSpareIn (λ x. Unit {0}) (disk old.spare) q old.shut old.rest) is
      (subst (λ (b : Bool). IsSpareOn (λ x. Unit {0}) (disk old.spare) old.phase b old.shut old.rest) unbroken (sound.spare honest))

  -- a step that changes the phase alone
  pub phase_sound : (p q : Phase) (broken : Bool) → old.phase ≡ p → is_idle p ≡ false → is_idle q ≡ false → is_snapshot p ≡ false → is_snapshot q ≡ false → IsReached q old.generation old.rest → (IsTrue (disk old.active).honest → IsMove (disk old.active) (disk active) old.tail old.sealed p q broken)
      → IsSoundStore disk (record old { active = active; phase = q; broken = broken })
  phase_sound p q broken is busy still of_p of_q reached move = record {
    reached = reached;
    sealed_fits = sound.sealed_fits;
    bounded = bounded_in q (length old.buffer) old.tail still (busy_in p (length old.buffer) old.tail busy of_p (subst (λ (r : Phase). IsBounded r (length old.buffer) old.tail) is sound.bounded));
    inside = sound.inside;
    active = λ honest.
        let was = before p is honest in record {
          front = was.front;
          records = was.records;
          stands = was.stands;
          size = was.size;
          on_disk = move (subst IsTrue same honest) was.front was.records was.stands was.size was.on_disk;
        };
    short = sound.short;
    spare = λ honest. still_aside (λ x. Unit {0}) (disk old.spare) old.shut old.rest p q broken of_p of_q (spare_before p is honest);
  }

  -- the first step of a commit
  pub sealed_sound : (broken : Bool) → old.phase ≡ Idle → 0 < length old.buffer → length old.buffer + 5 ≤ frame_room
      → (IsTrue (disk old.active).honest → (front : List ℕ) → length front ≡ old.tail → IsOnDisk (disk old.active) Idle false front [] → IsOnDisk (disk active) Written broken front old.buffer)
      → IsSoundStore disk (record old { active = active; buffer = []; sealed = length old.buffer; phase = Written; broken = broken })
  sealed_sound broken is some room move = record {
    reached = tt;
    sealed_fits = room;
    bounded = (let bound = subst (λ (r : Phase). IsBounded r (length old.buffer) old.tail) is sound.bounded in bound some, λ none. absurd (omega (arith, none)));
    inside = sound.inside;
    active = λ honest.
        let was = before Idle is honest in record {
          front = was.front;
          records = old.buffer;
          stands = was.stands;
          size = refl;
          on_disk = move (subst IsTrue same honest) was.front was.stands was.on_disk;
        };
    short = sound.short;
    spare = λ honest. still_aside (λ x. Unit {0}) (disk old.spare) old.shut old.rest Idle Written broken refl refl (spare_before Idle is honest);
  }

  -- the last step of a commit
  pub settled_sound : (tail journal_length : ℕ) → tail ≡ old.tail + (old.sealed + 5) → journal_length ≡ old.journal_length + (old.sealed + 5) → old.phase ≡ Opening
      → (IsTrue (disk old.active).honest → (front records : List ℕ) → length front ≡ old.tail → IsOnDisk (disk old.active) Opening false front records → IsOnDisk (disk active) Idle false (front ++ frame_bytes records) [])
      → IsSoundStore disk (record old { active = active; tail = tail; journal_length = journal_length; sealed = 0; phase = Idle; broken = false })
  settled_sound tail journal_length tail_is journal_is is move = record {
    reached = tt;
    sealed_fits = omega arith;
    bounded = λ some.
        let bound = subst (λ (r : Phase). IsBounded r (length old.buffer) old.tail) is sound.bounded in
        let below : old.tail < last_tail = bound.1 some in
        omega (arith, tail_is, below, sound.sealed_fits);
    inside = omega (arith, tail_is, journal_is, sound.inside);
    active = λ honest.
        let was = before Opening is honest in record {
          front = was.front ++ frame_bytes was.records;
          records = [];
          stands = omega (arith, tail_is, was.stands, was.size, length-append was.front (frame_bytes was.records), length-frame was.records);
          size = refl;
          on_disk = move (subst IsTrue same honest) was.front was.records was.stands was.on_disk;
        };
    short = sound.short;
    spare = λ honest. still_aside (λ x. Unit {0}) (disk old.spare) old.shut old.rest Opening Idle false refl refl (spare_before Opening is honest);
  }

-- what the test of room says
pub room_is : {D : Type 0} (store : StoreSeen D) → IsTrue (has_room store) → (length store.buffer ≤ most_noted) × (store.tail < last_tail)
room_is store room = (grind (arith, nat_tests), grind (arith, nat_tests))
