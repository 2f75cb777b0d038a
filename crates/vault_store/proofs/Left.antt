-- What a crash leaves of the two files of a store, and what a crash inside a step leaves.
use Rattle.std.proofs.Common.{◌≡◌, inl, inr, ℕ, ◌+◌, IsTrue, Bool, true, false, cond, List, ◌∷◌, ◌++◌, length, get_or, refl, sym, ◌∙◌, ap, subst, arith}
use Rattle.std.proofs.lemmas.Bool.{cases_eq}
use Rattle.vault_device.specs.Disk.{Disk}
use Rattle.vault_journal.specs.Spelling.{records_of}
use Rattle.vault_store.specs.declared.phase.Phase.{Phase}
use Rattle.vault_store.specs.declared.phase.Phase.TheVariants.{Idle, Written, Bodied, Opening, Start, Closing, Writing, Filled, Ready, SnapOpening}
use Rattle.vault_format.specs.Snapshot.{current_version}
use Rattle.vault_format.specs.Files.{frame_bytes, current_head, snapshot_bytes, Reading, IsFront, EndsBehind, IsSpare, AreRead}
use Rattle.vault_store.specs.Phases.{is_idle, is_snapshot, is_opening, may_open}
use Rattle.vault_store.specs.State.{StoreState}
use Rattle.vault_store.specs.OnDisk.{IsEither, LeavesInPhase, IsOnDisk}
use Rattle.vault_store.specs.Spares.{HasFirst, LeavesSpareIn}
use Rattle.vault_store.specs.Seen.{StoreSeen, Keeps, IsRenewal, settled_reading, counted_reading, sealed_reading, gate_at, gated, IsByGate, IsLeftWhile, IsLeftInside}
use Rattle.vault_store.specs.Laws.{AreHonest, CrashLeavesWhatIsKept, IsOneGate, OneGateIsOpened}
use Rattle.vault_store.proofs.Asides.{closed_spare, spare_leaves, file_opened, renewed_front}
use Rattle.vault_format.proofs.Frames.{longer_front}
use Rattle.vault_store.proofs.Placed.{both_honest, left_placed}
use Rattle.vault_format.proofs.Rights.{holds_head}

-- a file that ends behind the front is read as that, beside a spare
pub reads_front : (front x y : List ℕ) (r : Reading) → IsFront front r → EndsBehind front x → IsSpare r.generation y → AreRead x y r
reads_front front x y r is_front ends spare = inl (record { front = front; is_front = is_front; ends = ends }, spare)

module _ {D : Type 0} (disk : D → Disk) (store : StoreSeen D) (s : StoreState) (keeps : Keeps disk store s) (front : List ℕ) (is_front : IsFront front (settled_reading store s)) where
  -- with the frame's gate open, or not
  pub reads_either : (x y : List ℕ) → is_idle s.phase ≡ false → is_snapshot s.phase ≡ false → IsEither front (records_of s.sealing) x → IsSpare store.generation y → IsByGate store.tail (settled_reading store s) (counted_reading false store s) x x y
  reads_either x y busy commit either spare = record {
    opened = λ is. reads_front (front ++ frame_bytes (records_of s.sealing)) x y (counted_reading false store s) longer (either.opened (subst (λ (n : ℕ). get_or x n 0 ≡ 1) is_front.tail_is is)) spare;
    shut = λ is. reads_front front x y (settled_reading store s) is_front (either.shut (λ one. is (subst (λ (n : ℕ). get_or x n 0 ≡ 1) (sym is_front.tail_is) one))) spare;
  }
    where
      size : store.sealed ≡ length (records_of s.sealing)
      size = keeps.sealed_bytes ∙ ap (λ (b : Bool). cond b 0 (length (records_of s.sealing))) commit

      longer : IsFront (front ++ frame_bytes (records_of s.sealing)) (counted_reading false store s)
      longer =
          longer_front front (settled_reading store s) s.sealing s.sealed (store.tail + 5 + store.sealed) (store.journal_length + 5 + store.sealed) is_front
          (record { some = keeps.under_way busy commit; each = keeps.sealing; few = keeps.few commit }) keeps.sealed (omega (arith, size)) (omega (arith, size))

  -- with the head gate of the spare open, or not
  pub reads_renewed : (x y : List ℕ) → is_snapshot s.phase ≡ true → EndsBehind front x → HasFirst (length store.rest) store.rest y → IsByGate 0 (settled_reading store s) (counted_reading true store s) y x y
  reads_renewed x y snapshot ends has = record {
    opened = λ one. inr (
      record {
        front = current_head (store.generation + 1) ++ snapshot_bytes current_version s.sealed;
        is_front = renewed_front (store.generation + 1) s.sealed renewal.spelled (omega arith) renewal.fits;
        ends = file_opened (current_head (store.generation + 1) ++ snapshot_bytes current_version s.sealed) store.rest y (ap (λ (l : List ℕ). 1 ∷ l) (sym renewal.bytes)) has one;
      },
      inr (store.generation, omega arith, (store.version, holds_head x (settled_reading store s) (record { front = front; is_front = is_front; ends = ends }))),
    );
    shut = λ other. reads_front front x y (settled_reading store s) is_front ends (inl (inr other));
  }
    where
      renewal : IsRenewal store.generation s.sealed store.rest
      renewal = keeps.renewal snapshot

  -- a crash that leaves the front leaves the durable vault
  pub inside_front : (x y : List ℕ) → EndsBehind front x → IsSpare store.generation y → IsLeftInside store s x y
  inside_front x y ends spare = inl (reads_front front x y (settled_reading store s) is_front ends spare)

  -- one that leaves the gate open or closed leaves the sealed vault or the durable one
  pub inside_either : (x y : List ℕ) → is_idle s.phase ≡ false → is_snapshot s.phase ≡ false → may_open s.phase ≡ true → IsEither front (records_of s.sealing) x → IsSpare store.generation y → IsLeftInside store s x y
  inside_either x y busy commit may either spare =
      let by_gate = reads_either x y busy commit either spare in
      elim (cases_eq (get_or x store.tail 0) 1) [
        | inl is ↦ inr (may, subst (λ (b : Bool). AreRead x y (counted_reading b store s)) (sym commit) (by_gate.opened is))
        | inr other ↦ inl (by_gate.shut other)
      ]

  -- one that leaves the head gate of the spare open or closed leaves the sealed vault or the durable one
  pub inside_renewed : (x y : List ℕ) → is_snapshot s.phase ≡ true → may_open s.phase ≡ true → EndsBehind front x → HasFirst (length store.rest) store.rest y → IsLeftInside store s x y
  inside_renewed x y snapshot may ends has =
      let by_gate = reads_renewed x y snapshot ends has in
      elim (cases_eq (get_or y 0 0) 1) [
        | inl is ↦ inr (may, subst (λ (b : Bool). AreRead x y (counted_reading b store s)) (sym snapshot) (by_gate.opened is))
        | inr other ↦ inl (by_gate.shut other)
      ]

-- what a crash leaves, of what the disk holds
pub leaves_in : (disk : Disk) (p : Phase) (broken : Bool) (front records : List ℕ) → IsOnDisk disk p broken front records → LeavesInPhase disk p front records
leaves_in disk p true front records on = on
leaves_in disk Idle false front records on = λ x image. subst (EndsBehind front) (sym (on.settled.only x image)) on.ends
leaves_in disk Written false front records on = on.images
leaves_in disk Bodied false front records on = λ x image. subst (EndsBehind front) (sym (on.settled.only x image)) on.ends
leaves_in disk Opening false front records on = on.images
leaves_in disk Start false front records on = λ x image. subst (EndsBehind front) (sym (on.settled.only x image)) on.ends
leaves_in disk Closing false front records on = λ x image. subst (EndsBehind front) (sym (on.settled.only x image)) on.ends
leaves_in disk (Writing left) false front records on = λ x image. subst (EndsBehind front) (sym (on.settled.only x image)) on.ends
leaves_in disk Filled false front records on = λ x image. subst (EndsBehind front) (sym (on.settled.only x image)) on.ends
leaves_in disk Ready false front records on = λ x image. subst (EndsBehind front) (sym (on.settled.only x image)) on.ends
leaves_in disk SnapOpening false front records on = λ x image. subst (EndsBehind front) (sym (on.settled.only x image)) on.ends

-- what is left, where the first of two files is the active one's
abbrev pub IsLeftHere : {D : Type 0} → StoreSeen D → StoreState → List ℕ → List ℕ → Type 0
IsLeftHere store s x y = IsLeftWhile (is_opening s.phase) (gate_at store s.phase) (settled_reading store s) (sealed_reading store s) (gated s.phase x y) x y

-- what is left in each phase
left_in : {D : Type 0} (disk : D → Disk) (store : StoreSeen D) (s : StoreState) (p : Phase) → Keeps disk store (record s { phase = p }) → (front x y : List ℕ) → IsFront front (settled_reading store s)
    → LeavesInPhase (disk store.active) p front (records_of s.sealing) → (disk store.active).IsImage x → LeavesSpareIn (IsSpare store.generation) (disk store.spare) p store.rest → (disk store.spare).IsImage y → IsLeftHere store (record s { phase = p }) x y
left_in disk store s Idle keeps front x y is_front leaves image spare other = reads_front front x y (settled_reading store s) is_front (leaves x image) (spare y other)
left_in disk store s Written keeps front x y is_front leaves image spare other = reads_front front x y (settled_reading store s) is_front (leaves x image) (spare y other)
left_in disk store s Bodied keeps front x y is_front leaves image spare other = reads_front front x y (settled_reading store s) is_front (leaves x image) (spare y other)
left_in disk store s Start keeps front x y is_front leaves image spare other = reads_front front x y (settled_reading store s) is_front (leaves x image) (spare y other)
left_in disk store s Closing keeps front x y is_front leaves image spare other = reads_front front x y (settled_reading store s) is_front (leaves x image) (spare y other)
left_in disk store s (Writing more) keeps front x y is_front leaves image spare other = reads_front front x y (settled_reading store s) is_front (leaves x image) (spare y other)
left_in disk store s Filled keeps front x y is_front leaves image spare other = reads_front front x y (settled_reading store s) is_front (leaves x image) (spare y other)
left_in disk store s Ready keeps front x y is_front leaves image spare other = reads_front front x y (settled_reading store s) is_front (leaves x image) (spare y other)
left_in disk store s Opening keeps front x y is_front leaves image spare other = reads_either disk store (record s { phase = Opening }) keeps front is_front x y refl refl (leaves x image) (spare y other)
left_in disk store s SnapOpening keeps front x y is_front leaves image spare other = reads_renewed disk store (record s { phase = SnapOpening }) keeps front is_front x y refl (leaves x image) (spare y other)

-- What a crash leaves of a store.
pub left : {D : Type 0} (disk : D → Disk) (store : StoreSeen D) (s : StoreState) → Keeps disk store s → IsTrue (disk store.active).honest → IsTrue (disk store.spare).honest
    → (x y : List ℕ) → (disk store.active).IsImage x → (disk store.spare).IsImage y → IsLeftHere store s x y
left disk store s keeps one two x y image other =
    let files = keeps.files one two in
    left_in disk store s s.phase keeps files.front x y files.is_front (leaves_in (disk store.active) s.phase s.broken files.front (records_of s.sealing) files.active) image
    (spare_leaves (IsSpare store.generation) (disk store.spare) store.shut store.rest (closed_spare store.generation) s.phase s.broken files.spare) other

-- while a gate is being opened, only that byte isn't durable
gated_in : {D : Type 0} (disk : D → Disk) (store : StoreSeen D) (s : StoreState) (p : Phase) → is_opening p ≡ true → Keeps disk store (record s { phase = p; broken = false }) → AreHonest disk store → IsOneGate (disk (gated p store.active store.spare)) (gate_at store p)
gated_in disk store s Opening is keeps honest =
    let both = both_honest disk store.which store.active store.spare honest.first honest.second in
    let files = keeps.files both.0 both.1 in
    subst (λ (n : ℕ). IsOneGate (disk store.active) n) (sym files.is_front.tail_is) (record { same = files.active.same; opened = files.active.opened; was_shut = files.active.was_shut })
gated_in disk store s SnapOpening is keeps honest =
    let both = both_honest disk store.which store.active store.spare honest.first honest.second in
    let files = keeps.files both.0 both.1 in
    record { same = files.spare.same; opened = files.spare.opened; was_shut = files.spare.was_shut }
gated_in disk store s Idle is keeps honest = absurd (cc)
gated_in disk store s Written is keeps honest = absurd (cc)
gated_in disk store s Bodied is keeps honest = absurd (cc)
gated_in disk store s Start is keeps honest = absurd (cc)
gated_in disk store s Closing is keeps honest = absurd (cc)
gated_in disk store s (Writing left) is keeps honest = absurd (cc)
gated_in disk store s Filled is keeps honest = absurd (cc)
gated_in disk store s Ready is keeps honest = absurd (cc)

pub crash_leaves : {D : Type 0} (disk : D → Disk) → CrashLeavesWhatIsKept disk
crash_leaves disk store s x y keeps honest image other =
    let both = both_honest disk store.which store.active store.spare honest.first honest.second in
    left_placed disk store.which store.active store.spare (is_opening s.phase) (gate_at store s.phase) (settled_reading store s) (sealed_reading store s) (λ active spare. gated s.phase active spare) (left disk store s keeps both.0 both.1) x y image other

pub one_gate : {D : Type 0} (disk : D → Disk) → OneGateIsOpened disk
one_gate disk store s keeps honest is unbroken = gated_in disk store s s.phase is (subst (λ (b : Bool). Keeps disk store (record s { broken = b })) unbroken keeps) honest
