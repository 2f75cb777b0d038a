-- The disks of both files, from step to step of a snapshot.
use Rattle.std.proofs.Common.{◌≡◌, ◌≢◌, inl, inr, ℕ, ◌+◌, ◌-◌, ◌<◌, ◌≤◌, Bool, true, false, cond, List, [], ◌∷◌, ◌++◌, length, get_or, set, take, drop, refl, sym, ◌∙◌, ap, subst, arith, Ok, append_assoc, length-drop, take-add}
use Rattle.std.specs.Prelude.{nat_le}
use Rattle.std.proofs.lemmas.Bool.{cases_Bool}
use Rattle.std.proofs.lemmas.Bool.Decides.{nat_tests}
use Rattle.std.proofs.lemmas.List.{drop-take, drop-append-le, drop-set-lt, length-set, length-take-le, get_or-set_same, take_at}
use Rattle.vault_device.specs.Disk.{Disk, IsLawful, IsSync, IsTorn, IsTornImage, IsWrite, overwritten}
use Rattle.vault_device.proofs.Torn.{length-overwritten}
use Rattle.vault_journal.specs.Gate.{IsClosed, SameBut, IsOpening}
use Rattle.vault_store.specs.declared.phase.Phase.{Phase}
use Rattle.vault_store.specs.declared.phase.Phase.TheVariants.{Idle, Written, Bodied, Opening, Start, Closing, Writing, Filled, Ready, SnapOpening}
use Rattle.vault_format.specs.Files.{EndsBehind}
use Rattle.vault_store.specs.Phases.{is_snapshot, most_piece, piece_size, behind_piece}
use Rattle.vault_store.specs.OnDisk.{IsIdle, IsOnDisk}
use Rattle.vault_store.specs.Spares.{HasFirst, IsAside, IsShutting, IsFilling, IsReady, IsRenewing, IsSpareIn, LeavesSpareIn}
use Rattle.vault_store.proofs.Asides.{file_opened}
use Rattle.vault_store.proofs.Disks.{settled_by_sync}

-- a snapshot leaves the active file
module _ (disk : Disk) (front records : List ℕ) where
  pub idle_of : (p : Phase) → is_snapshot p ≡ true → IsOnDisk disk p false front records → IsIdle disk front
  idle_of Idle is on = on
  idle_of Written is on = absurd (cc)
  idle_of Bodied is on = absurd (cc)
  idle_of Opening is on = absurd (cc)
  idle_of Start is on = on
  idle_of Closing is on = on
  idle_of (Writing left) is on = on
  idle_of Filled is on = on
  idle_of Ready is on = on
  idle_of SnapOpening is on = on

  pub idle_leaves : IsIdle disk front → (x : List ℕ) → disk.IsImage x → EndsBehind front x
  idle_leaves idle x image = subst (EndsBehind front) (sym (idle.settled.only x image)) idle.ends

  pub idle_in : (q : Phase) (broken : Bool) → is_snapshot q ≡ true → IsIdle disk front → IsOnDisk disk q broken front records
  idle_in Idle broken is idle = absurd (cc)
  idle_in Written broken is idle = absurd (cc)
  idle_in Bodied broken is idle = absurd (cc)
  idle_in Opening broken is idle = absurd (cc)
  idle_in Start false is idle = idle
  idle_in Closing false is idle = idle
  idle_in (Writing left) false is idle = idle
  idle_in Filled false is idle = idle
  idle_in Ready false is idle = idle
  idle_in SnapOpening false is idle = idle
  idle_in Start true is idle = idle_leaves idle
  idle_in Closing true is idle = idle_leaves idle
  idle_in (Writing left) true is idle = idle_leaves idle
  idle_in Filled true is idle = idle_leaves idle
  idle_in Ready true is idle = idle_leaves idle
  idle_in SnapOpening true is idle = idle_leaves idle

-- the head gate is written closed
module _ (MayStand : List ℕ → Type 0) (old new : Disk) where
  -- what a torn write of it leaves
  pub shut_torn : IsAside MayStand old false → (x : List ℕ) → IsTornImage old 0 1 x → MayStand x
  shut_torn aside x from = aside.torn refl x (subst (λ (l : List ℕ). IsTorn 0 1 l x) (aside.settled.only from.0 from.1) from.2)

  pub to_shutting : {E : Type 0} → IsAside MayStand old false → IsWrite {E = E} 0 (0 ∷ []) (Ok tt) old new → IsShutting MayStand new
  to_shutting aside wrote = record {
    images = λ x image. shut_torn aside x (wrote.images x image);
    shut = subst (IsClosed 0) (sym wrote.shown) (record { stands = omega arith; shut = λ e. cc });
  }

  -- it is closed already
  pub still_shut : IsAside MayStand old true → IsShutting MayStand old
  still_shut aside = record { images = λ x image. subst MayStand (sym (aside.settled.only x image)) aside.stands; shut = aside.closed refl }

  -- it is synced
  pub to_filling : {E : Type 0} (rest : List ℕ) → IsShutting MayStand old → IsSync {E = E} (Ok tt) old new → IsFilling new 0 rest
  to_filling rest shutting sync = record {
    closed = λ x image. subst (IsClosed 0) (sym (sync.durable x image)) shutting.shut;
    written = record { within = omega (arith, ap length sync.shown, shutting.shut.stands); same = refl };
  }

-- bytes are written behind those that stand there
module _ (old new : Disk) (n m : ℕ) (rest : List ℕ) (within : n + m ≤ length rest) where
  -- the head gate stays closed
  pub piece_closed : (k : ℕ) → IsFilling old n rest → (x : List ℕ) → IsTornImage old (n + 1) k x → IsClosed 0 x
  piece_closed k filling x from =
      let was = filling.closed from.0 from.1 in
      let same : get_or x 0 0 ≡ get_or from.0 0 0 = from.2.before 0 was.stands (omega arith) in record {
        stands = omega (arith, was.stands, from.2.no_shorter);
        shut = subst (λ (b : ℕ). b ≢ 1) (sym same) was.shut;
      }

  pub to_longer : {E : Type 0} → IsFilling old n rest → IsWrite {E = E} (n + 1) (take m (drop n rest)) (Ok tt) old new → IsFilling new (n + m) rest
  to_longer filling wrote = record {
    closed = λ x image. piece_closed (length piece) filling x (wrote.images x image);
    written = subst (HasFirst (n + m) rest) (sym wrote.shown) (record { within = long; same = same });
  }
    where
      piece : List ℕ
      piece = take m (drop n rest)

      size : length (take m (drop n rest)) ≡ m
      size = length-take-le m (drop n rest) (omega (arith, within, length-drop n rest))

      tail : List ℕ
      tail = drop (n + 1 + length (take m (drop n rest))) old.shown

      long : n + m < length (overwritten old.shown (n + 1) (take m (drop n rest)))
      long = omega (arith, size, length-overwritten old.shown (n + 1) (take m (drop n rest)) (omega (arith, filling.written.within)))

      head : length (take (n + 1) old.shown) ≡ n + 1
      head = length-take-le (n + 1) old.shown (omega (arith, filling.written.within))

      front : drop 1 (take (n + 1) old.shown) ≡ take n rest
      front = let swap : n + 1 ≡ 1 + n = omega arith in ap (λ (k : ℕ). drop 1 (take k old.shown)) swap ∙ drop-take 1 n old.shown ∙ filling.written.same

      behind : drop 1 (overwritten old.shown (n + 1) (take m (drop n rest))) ≡ take (n + m) rest ++ tail
      behind =
          ap (λ (l : List ℕ). drop 1 l) (append_assoc (take (n + 1) old.shown) (take m (drop n rest)) tail)
          ∙ drop-append-le 1 (take (n + 1) old.shown) (take m (drop n rest) ++ tail) (omega (arith, head))
          ∙ ap (λ (l : List ℕ). l ++ (take m (drop n rest) ++ tail)) front
          ∙ sym (append_assoc (take n rest) (take m (drop n rest)) tail)
          ∙ ap (λ (l : List ℕ). l ++ tail) (sym (take-add n m rest))

      same : take (n + m) (drop 1 (overwritten old.shown (n + 1) (take m (drop n rest)))) ≡ take (n + m) rest
      same = ap (λ (l : List ℕ). take (n + m) l) behind ∙ take_at (take (n + m) rest) tail (n + m) (length-take-le (n + m) rest within)

module _ (old new : Disk) (rest : List ℕ) where
  -- all bytes are synced
  pub to_ready : {E : Type 0} → IsLawful old → IsFilling old (length rest) rest → IsSync {E = E} (Ok tt) old new → IsReady new rest
  to_ready lawful filling sync = record {
    settled = settled_by_sync old new sync;
    closed = subst (IsClosed 0) (sym sync.shown) (filling.closed old.shown lawful.read);
    written = subst (HasFirst (length rest) rest) (sym sync.shown) filling.written;
  }

  -- the head gate is written open
  pub head_torn : IsReady old rest → (x : List ℕ) → IsOpening 0 old.shown x → HasFirst (length rest) rest x
  head_torn ready x opening = record {
    within = omega (arith, ap length opening.same, length-set old.shown 0 (get_or x 0 0), ready.written.within);
    same = ap (λ (l : List ℕ). take (length rest) (drop 1 l)) opening.same ∙ ap (λ (l : List ℕ). take (length rest) l) (drop-set-lt 1 old.shown 0 (get_or x 0 0) (omega arith)) ∙ ready.written.same;
  }

  pub to_renewing : {E : Type 0} → IsReady old rest → IsWrite {E = E} 0 (1 ∷ []) (Ok tt) old new → new.shown ≡ set old.shown 0 1 → ((x : List ℕ) → new.IsImage x → IsOpening 0 old.shown x)
      → ((x : List ℕ) → new.IsImage x → SameBut 0 new.shown x) → IsRenewing new rest
  to_renewing ready wrote shown images same = record {
    images = λ x image. head_torn ready x (images x image);
    same = same;
    opened = ap (λ (l : List ℕ). get_or l 0 0) shown ∙ get_or-set_same old.shown 0 1 0 ready.closed.stands;
    was_shut = λ one. ready.closed.shut (ap (λ (l : List ℕ). get_or l 0 0) (sym (wrote.settled ∙ ready.settled.bytes)) ∙ one);
  }

  -- the open head gate is synced: the file is whole
  pub to_active : {E : Type 0} (front : List ℕ) → front ++ 0 ∷ [] ≡ 1 ∷ rest → IsLawful old → IsRenewing old rest → IsSync {E = E} (Ok tt) old new → IsIdle new front
  to_active front is lawful renewing sync = record {
    settled = settled_by_sync old new sync;
    ends = subst (EndsBehind front) (sym sync.shown) (file_opened front rest old.shown is (renewing.images old.shown lawful.read) renewing.opened);
  }

-- a piece is of what is left
pub piece_within : (left : ℕ) → piece_size left ≤ left
piece_within left = by_test (nat_le left most_piece) refl
  where
    by_test : (b : Bool) → nat_le left most_piece ≡ b → cond b left most_piece ≤ left
    by_test true e = omega arith
    by_test false e = grind (arith, nat_tests, e)

pub piece_ends : (MayStand : List ℕ → Type 0) (disk : Disk) (shut : Bool) (rest : List ℕ) (left : ℕ) → left ≤ length rest → IsFilling disk (length rest - left + piece_size left) rest → IsSpareIn MayStand disk (behind_piece left) shut rest
piece_ends MayStand disk shut rest left within = by_test (nat_le left most_piece) refl
  where
    by_test : (b : Bool) → nat_le left most_piece ≡ b → IsFilling disk (length rest - left + cond b left most_piece) rest → IsSpareIn MayStand disk (cond b Filled (Writing (left - most_piece))) shut rest
    by_test true e filling = let all : length rest - left + left ≡ length rest = omega (arith, within) in subst (λ (n : ℕ). IsFilling disk n rest) all filling
    by_test false e filling =
        let more : most_piece ≤ left = grind (arith, nat_tests, e) in
        let all : length rest - left + most_piece ≡ length rest - (left - most_piece) = omega (arith, within, more) in
        subst (λ (n : ℕ). IsFilling disk n rest) all filling

pub piece_snapshot : (left : ℕ) → is_snapshot (behind_piece left) ≡ true
piece_snapshot left = elim (cases_Bool (nat_le left most_piece)) [ inl is ↦ ap (λ (b : Bool). is_snapshot (cond b Filled (Writing (left - most_piece)))) is | inr isnt ↦ ap (λ (b : Bool). is_snapshot (cond b Filled (Writing (left - most_piece)))) isnt ]

pub piece_leaves : (MayStand : List ℕ → Type 0) (disk : Disk) (rest : List ℕ) (left : ℕ) → ((x : List ℕ) → disk.IsImage x → MayStand x) → LeavesSpareIn MayStand disk (behind_piece left) rest
piece_leaves MayStand disk rest left leaves = by_test (nat_le left most_piece)
  where
    by_test : (b : Bool) → LeavesSpareIn MayStand disk (cond b Filled (Writing (left - most_piece))) rest
    by_test true = leaves
    by_test false = leaves

-- what leaves no more
pub leaves_less : (MayStand : List ℕ → Type 0) (old new : Disk) (rest : List ℕ) (p : Phase) → ((x : List ℕ) → new.IsImage x → old.IsImage x) → LeavesSpareIn MayStand old p rest → LeavesSpareIn MayStand new p rest
leaves_less MayStand old new rest Idle less leaves = λ x image. leaves x (less x image)
leaves_less MayStand old new rest Written less leaves = λ x image. leaves x (less x image)
leaves_less MayStand old new rest Bodied less leaves = λ x image. leaves x (less x image)
leaves_less MayStand old new rest Opening less leaves = λ x image. leaves x (less x image)
leaves_less MayStand old new rest Start less leaves = λ x image. leaves x (less x image)
leaves_less MayStand old new rest Closing less leaves = λ x image. leaves x (less x image)
leaves_less MayStand old new rest (Writing left) less leaves = λ x image. leaves x (less x image)
leaves_less MayStand old new rest Filled less leaves = λ x image. leaves x (less x image)
leaves_less MayStand old new rest Ready less leaves = λ x image. leaves x (less x image)
leaves_less MayStand old new rest SnapOpening less leaves = λ x image. leaves x (less x image)
