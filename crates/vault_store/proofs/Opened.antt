-- What opening reads is kept.
use Rattle.std.proofs.Common.{◌≡◌, inl, inr, ℕ, Option, Some, None, Result, Ok, Err, IfErr, IsTrue, Bool, true, false, List, [], take, refl, sym, ◌∙◌, ap, subst, arith}
use Rattle.std.specs.Prelude.{◌↔◌}
use Rattle.std.specs.Result.{IsErrAnd}
use Rattle.std.proofs.lemmas.Bool.{false≢true}
use Rattle.std.proofs.lemmas.List.{length-take-le}
use Rattle.vault_state.specs.Vault.{Vault}
use Rattle.vault_device.specs.Disk.{Disk, IsLawful, IsTorn}
use Rattle.vault_journal.specs.Gate.{IsClosed}
use Rattle.vault_store.specs.declared.opening.OpenError.{OpenError}
use Rattle.vault_store.specs.declared.opening.OpenError.TheVariants.{NoVault, Damaged, Device, NoMemory}
use Rattle.vault_store.specs.declared.phase.Phase.TheVariants.{Idle}
use Rattle.vault_store.specs.declared.opening.File.{File}
use Rattle.vault_store.specs.declared.opening.File.TheVariants.{First, Second}
use Rattle.vault_store.specs.Calls.{IsQuiet, AreQuiet}
use Rattle.vault_format.specs.declared.version.FileVersion.{FileVersion}
use Rattle.vault_format.specs.Files.{Reading, Holds, EndsBehind, IsSpare, AreRead, HasHead, HasRightHead}
use Rattle.vault_format.specs.Faults.{IsDamagedHead, IsBodyFault}
use Rattle.vault_store.specs.OnDisk.{IsSettled}
use Rattle.vault_store.specs.Spares.{IsAside}
use Rattle.vault_store.specs.Opening.{HasNoHeadFault, IsNewer, IsNotOpened, IsHandedOn, AreSettled}
use Rattle.vault_store.specs.Read.{AreReads, AreContents, IsFaultBehindHead, IsGenerationRead, IsWhyNot, IsNewerIn}
use Rattle.vault_store.specs.State.{at_rest}
use Rattle.vault_store.specs.Seen.{StoreSeen, of_file, Keeps}
use Rattle.vault_store.specs.Sound.{IsSoundStore}
use Rattle.vault_store.specs.Companions.{MayPrecede, IsOfOneVault}
use Rattle.vault_store.specs.TwoVaults.{IsBasedOn, AreOfTwoVaults}
use Rattle.vault_store.proofs.Asides.{torn_spare}
use Rattle.vault_store.proofs.Companions.{begun_ends, based_front, torn_precedes, precedes_beside}
use Rattle.vault_store.proofs.Passes.{two_exchanged}
use Rattle.vault_store.proofs.Behind.{quiet_then}
use Rattle.vault_store.proofs.Bodies.{holds_read}
use Rattle.vault_format.proofs.Named.{frames_spelled}
use Rattle.vault_store.proofs.HandedOn.{handed_behind, settled_reads}
use Rattle.vault_store.proofs.Placed.{both_honest}
use Rattle.vault_store.proofs.Rests.{rest_kept}

-- what is known of the head gates of both files, of the spare's
pub shut_placed : {D : Type 0} (disk : D → Disk) (which : File) (first second : D) (shut one other : Bool) → shut ≡ of_file which other one
    → (IsTrue (disk first).honest → (one ≡ true) ↔ IsClosed 0 (disk first).shown) → (IsTrue (disk second).honest → (other ≡ true) ↔ IsClosed 0 (disk second).shown)
    → IsTrue (disk (of_file which second first)).honest → (shut ≡ true) ↔ IsClosed 0 (disk (of_file which second first)).shown
shut_placed disk First first second shut one other is of_first of_second honest = subst (λ (b : Bool). (b ≡ true) ↔ IsClosed 0 (disk second).shown) (sym is) (of_second honest)
shut_placed disk Second first second shut one other is of_first of_second honest = subst (λ (b : Bool). (b ≡ true) ↔ IsClosed 0 (disk first).shown) (sym is) (of_first honest)

-- two files are read so, whichever is the active one
pub read_placed : (which : File) (first second : List ℕ) (r : Reading) → Holds (of_file which first second) r → IsSpare r.generation (of_file which second first) → AreRead first second r
read_placed First first second r holds spare = inl (holds, spare)
read_placed Second first second r holds spare = inr (holds, spare)

-- what is said of each file, said of the active one
pub placed : {D : Type 0} (P : D → D → Type 0) (which : File) (first second one two : D) → P first one → P second two → P (of_file which first second) (of_file which one two)
placed P First first second one two h k = h
placed P Second first second one two h k = k

-- what is said of the active file and its spare, said of each
unplaced : {D : Type 0} (P : D → D → Type 0) (which : File) (first second active spare : D) → P (of_file which first second) active → P (of_file which second first) spare → P first (of_file which active spare) × P second (of_file which spare active)
unplaced P First first second active spare h k = (h, k)
unplaced P Second first second active spare h k = (k, h)

shown_placed : {D : Type 0} (disk : D → Disk) (which : File) (first second : D) → (disk (of_file which first second)).shown ≡ of_file which (disk first).shown (disk second).shown
shown_placed disk First first second = refl
shown_placed disk Second first second = refl

-- a damaged active file
active_fault : (which : File) (first second : List ℕ) (v : FileVersion) (g at : ℕ) → HasHead v g (of_file which first second) → IsSpare g (of_file which second first) → IsBodyFault v (of_file which first second) at
    → IsNotOpened first second (Damaged which at)
active_fault First first second v g at head spare fault = inr (record { version = v; generation = g; head = head; spare = spare; fault = fault })
active_fault Second first second v g at head spare fault = inr (inr (record { version = v; generation = g; head = head; spare = spare; fault = fault }))

-- a head that was read has no fault
no_head_fault : (file : List ℕ) (generation : Option ℕ) → IsGenerationRead file generation → HasNoHeadFault file
no_head_fault file None closed = inl closed
no_head_fault file (Some g) right = inr (g, right)

-- what a `?` hands on
handed : {T : Type 0} (result : Result T OpenError) (why : OpenError) (P : OpenError → Type 0) → IsErrAnd result (λ (e : OpenError). e ≡ why) → P why → IfErr result P
handed (Ok x) why P is holds = tt
handed (Err e) why P is holds = subst P (sym is) holds

-- the first fault stands in the second file's head
pub second_wrong : {T : Type 0} (first second one two new : Disk) (result : Result T OpenError) (why : OpenError) (generation : Option ℕ) → one.honest ≡ first.honest → two.honest ≡ second.honest
    → (IsTrue first.honest → one.shown ≡ first.shown) → (IsTrue second.honest → two.shown ≡ second.shown) → (IsTrue one.honest → IsGenerationRead one.shown generation) → IsWhyNot two new Second (IsDamagedHead two.shown) why
    → IsErrAnd result (λ (e : OpenError). e ≡ why) → IsTrue first.honest → IsTrue second.honest → IfErr result (λ (e : OpenError). IsNotOpened first.shown second.shown e)
second_wrong first second one two new result why generation same same_two shown shown_two read refused is honest other =
    handed result why (λ (e : OpenError). IsNotOpened first.shown second.shown e) is (by_why why refused)
  where
    sound : HasNoHeadFault first.shown
    sound = no_head_fault first.shown generation (subst (λ (file : List ℕ). IsGenerationRead file generation) (shown honest) (read (subst IsTrue (sym same) honest)))

    by_why : (e : OpenError) → IsWhyNot two new Second (IsDamagedHead two.shown) e → IsNotOpened first.shown second.shown e
    by_why NoVault wrong = absurd wrong
    by_why (Damaged file at) wrong =
        subst (λ (f : File). IsNotOpened first.shown second.shown (Damaged f at)) (sym wrong.0)
        (inl (sound, subst (λ (bytes : List ℕ). IsDamagedHead bytes at) (shown_two other) (wrong.1 (subst IsTrue (sym same_two) other))))
    by_why Device wrong = tt
    by_why NoMemory wrong = tt

pub settled_each : {D : Type 0} (disk : D → Disk) (which : File) (active spare : D) → (IsTrue (disk active).honest → IsSettled (disk active)) → (IsTrue (disk spare).honest → IsSettled (disk spare))
    → AreSettled (disk (of_file which active spare)) (disk (of_file which spare active))
settled_each disk First active spare h k = λ one two. (h one, k two)
settled_each disk Second active spare h k = λ one two. (k one, h two)

-- two files that aren't of two vaults, whichever is the active one
pass_placed : (which : File) (first second : List ℕ) → (AreOfTwoVaults first second → ⊥) → AreOfTwoVaults (of_file which first second) (of_file which second first) → ⊥
pass_placed First first second pass two = pass two
pass_placed Second first second pass two = pass (two_exchanged second first two)

-- two devices whose heads are read, of which one is read on
module _ {D : Type 0} (disk : D → Disk) (which : File) (first second one two active spare active_new : D) (g : ℕ) (handed_first : IsHandedOn (disk first) (disk one)) (handed_second : IsHandedOn (disk second) (disk two))
    (lawful : IsTrue (disk active).honest → IsLawful (disk active)) (active_is : active ≡ of_file which one two) (spare_is : spare ≡ of_file which two one) (reads : AreReads (disk active) (disk active_new))
    (found : IsTrue (disk first).honest → IsTrue (disk second).honest → IsNewerIn (disk first).shown (disk second).shown which g) where
  handed_active : IsHandedOn (disk (of_file which first second)) (disk active)
  handed_active = subst (λ (d : D). IsHandedOn (disk (of_file which first second)) (disk d)) (sym active_is) (placed (λ (a b : D). IsHandedOn (disk a) (disk b)) which first second one two handed_first handed_second)

  handed_spare : IsHandedOn (disk (of_file which second first)) (disk spare)
  handed_spare = subst (λ (d : D). IsHandedOn (disk (of_file which second first)) (disk d)) (sym spare_is) (placed (λ (a b : D). IsHandedOn (disk a) (disk b)) which second first two one handed_second handed_first)

  -- the devices are handed on
  pub opened_handed : IsHandedOn (disk first) (disk (of_file which active_new spare)) × IsHandedOn (disk second) (disk (of_file which spare active_new))
  opened_handed =
      unplaced (λ (a b : D). IsHandedOn (disk a) (disk b)) which first second active_new spare (handed_behind (disk (of_file which first second)) (disk active) (disk active_new) handed_active reads lawful) handed_spare

  -- the heads of the active file and of its spare
  newer_here : IsTrue (disk first).honest → IsTrue (disk second).honest → IsNewer g (disk (of_file which first second)).shown (disk (of_file which second first)).shown
  newer_here honest other = subst (λ (l : List ℕ). IsNewer g l (disk (of_file which second first)).shown) (sym (shown_placed disk which first second)) (subst (λ (l : List ℕ). IsNewer g (of_file which (disk first).shown (disk second).shown) l) (sym (shown_placed disk which second first)) (found honest other))

  active_honest : IsTrue (disk first).honest → IsTrue (disk second).honest → IsTrue (disk active).honest
  active_honest honest other = subst IsTrue (sym handed_active.called.same_honesty) (placed (λ (a b : D). IsTrue (disk a).honest) which first second first second honest other)

  -- the active file shows what it showed
  active_shown : IsTrue (disk first).honest → IsTrue (disk second).honest → (disk active).shown ≡ of_file which (disk first).shown (disk second).shown
  active_shown honest other = handed_active.shown (placed (λ (a b : D). IsTrue (disk a).honest) which first second first second honest other) ∙ shown_placed disk which first second

  -- a fault of the active file is the first
  pub opened_refused : (why : OpenError) → IsWhyNot (disk active) (disk active_new) which (IsFaultBehindHead (disk active).shown) why → IsTrue (disk first).honest → IsTrue (disk second).honest → IsNotOpened (disk first).shown (disk second).shown why
  opened_refused NoVault is honest other = absurd is
  opened_refused (Damaged file at) is honest other =
      let newer = found honest other in
      let shown = active_shown honest other in
      let v = newer.0.0 in
      let fault : IsBodyFault v (of_file which (disk first).shown (disk second).shown) at =
      subst (λ (l : List ℕ). IsBodyFault v l at) shown (is.1 (active_honest honest other) v g (subst (HasHead v g) (sym shown) newer.0.1)) in
      subst (λ (f : File). IsNotOpened (disk first).shown (disk second).shown (Damaged f at)) (sym is.0) (active_fault which (disk first).shown (disk second).shown v g at newer.0.1 newer.1 fault)
  opened_refused Device is honest other = tt
  opened_refused NoMemory is honest other = tt

  module _ (version : FileVersion) (v : Vault) (frames tail journal_length : ℕ) (contents : AreContents (disk active) version v frames tail journal_length) (shut : Bool) where
    abbrev pub opened_seen : StoreSeen D
    opened_seen = record { active = active_new; spare = spare; which = which; buffer = []; sealed = 0; version = version; generation = g; tail = tail; journal_length = journal_length; phase = Idle; broken = false; shut = shut; rest = [] }

    abbrev reading : Reading
    reading = record { vault = v; version = version; generation = g; tail = tail; journal_length = journal_length }

    active_holds : IsTrue (disk first).honest → IsTrue (disk second).honest → Holds (disk active).shown reading
    active_holds honest other =
        let newer = found honest other in
        holds_read (disk active) version v frames tail journal_length g contents (active_honest honest other) (subst (HasRightHead g) (sym (active_shown honest other)) newer.0)

    -- the files are read so
    pub opened_read : IsTrue (disk first).honest → IsTrue (disk second).honest → AreRead (disk first).shown (disk second).shown reading
    opened_read honest other = let newer = found honest other in read_placed which (disk first).shown (disk second).shown reading (subst (λ (l : List ℕ). Holds l reading) (active_shown honest other) (active_holds honest other)) newer.1

    module _ (settled_first : IsTrue (disk first).honest → IsSettled (disk one)) (settled_second : IsTrue (disk second).honest → IsSettled (disk two))
        (head : IsTrue (disk (of_file which second first)).honest → (shut ≡ true) ↔ IsClosed 0 (disk (of_file which second first)).shown) where
      settled_active : IsTrue (disk active_new).honest → IsSettled (disk active_new)
      settled_active honest =
          let here = subst IsTrue reads.called.same_honesty honest in
          let was = subst IsTrue handed_active.called.same_honesty here in
          settled_reads (disk active) (disk active_new) reads here
          (subst (λ (d : D). IsSettled (disk d)) (sym active_is) (placed (λ (a b : D). IsTrue (disk a).honest → IsSettled (disk b)) which first second one two settled_first settled_second was))

      settled_spare : IsTrue (disk spare).honest → IsSettled (disk spare)
      settled_spare honest =
          let was = subst IsTrue handed_spare.called.same_honesty honest in
          subst (λ (d : D). IsSettled (disk d)) (sym spare_is) (placed (λ (a b : D). IsTrue (disk a).honest → IsSettled (disk b)) which second first two one settled_second settled_first was)

      -- what both devices show is durable
      pub opened_settled : AreSettled (disk (of_file which active_new spare)) (disk (of_file which spare active_new))
      opened_settled = settled_each disk which active_new spare settled_active settled_spare

      still_shown : IsTrue (disk active_new).honest → (disk active_new).shown ≡ (disk active).shown
      still_shown honest = (reads.read (subst IsTrue reads.called.same_honesty honest)).shown

      spare_shown : IsTrue (disk spare).honest → (disk spare).shown ≡ (disk (of_file which second first)).shown
      spare_shown other = handed_spare.shown (subst IsTrue handed_spare.called.same_honesty other)

      spare_head : IsTrue (disk spare).honest → (shut ≡ true) ↔ IsClosed 0 (disk spare).shown
      spare_head other = subst (λ (l : List ℕ). (shut ≡ true) ↔ IsClosed 0 l) (sym (spare_shown other)) (head (subst IsTrue handed_spare.called.same_honesty other))

      opened_aside : (MayStand : List ℕ → Type 0) → IsTrue (disk spare).honest → MayStand (disk spare).shown → ((y : List ℕ) → (IsClosed 0 (disk spare).shown → ⊥) → IsTorn 0 1 (disk spare).shown y → MayStand y) → IsAside MayStand (disk spare) shut
      opened_aside MayStand other stands torn = record {
        settled = settled_spare other;
        stands = stands;
        closed = λ e. (spare_head other).0 e;
        torn = λ e y. torn y (λ closed. false≢true (sym e ∙ (spare_head other).1 closed));
      }

      pub opened_sound : IsSoundStore disk opened_seen
      opened_sound = record {
        reached = tt;
        sealed_fits = omega arith;
        bounded = λ some. absurd (omega (arith, some));
        inside = omega (arith, contents.tail_is);
        short = omega arith;
        spare = λ other. opened_aside (λ x. Unit {0}) other tt (λ y isnt torn. tt);
        active = λ honest.
            let closed = contents.closed (subst IsTrue reads.called.same_honesty honest) in
            let size = length-take-le tail (disk active).shown (omega (arith, closed.stands)) in record {
              front = take tail (disk active).shown;
              records = [];
              stands = size;
              size = refl;
              on_disk = record {
                settled = settled_active honest;
                ends = subst (EndsBehind (take tail (disk active).shown)) (sym (still_shown honest)) (record {
                  begins = ap (λ (n : ℕ). take n (disk active).shown) size;
                  closed = subst (λ (n : ℕ). IsClosed n (disk active).shown) (sym size) closed;
                });
              };
            };
      }

      pub opened_kept : Keeps disk opened_seen (at_rest v)
      opened_kept =
          rest_kept disk opened_seen v v [] refl refl refl (frames_spelled contents.base v contents.list contents.spelled.has contents.each contents.leads) (record { each = tt; whole = refl }) refl
          (λ honest other.
          let here = both_honest disk which first second (subst IsTrue handed_active.called.same_honesty (subst IsTrue reads.called.same_honesty honest)) (subst IsTrue handed_spare.called.same_honesty other) in
          let holds = active_holds here.0 here.1 in record {
            front = holds.front;
            is_front = holds.is_front;
            active = record { settled = settled_active honest; ends = subst (EndsBehind holds.front) (sym (still_shown honest)) holds.ends };
            spare = let stands = subst (IsSpare g) (sym (spare_shown other)) (newer_here here.0 here.1).1 in opened_aside (IsSpare g) other stands (λ y isnt torn. torn_spare g (disk spare).shown y stands isnt torn);
          })

      -- files that are not of two vaults are of one
      pub opened_one : (AreOfTwoVaults (disk first).shown (disk second).shown → ⊥) → IsOfOneVault disk opened_seen
      opened_one pass honest other =
          let here = both_honest disk which first second (subst IsTrue handed_active.called.same_honesty (subst IsTrue reads.called.same_honesty honest)) (subst IsTrue handed_spare.called.same_honesty other) in
          let holds = active_holds here.0 here.1 in
          let based = based_front holds.front (disk active).shown reading holds.is_front (begun_ends holds.front (disk active).shown holds.ends) in
          let beside : AreOfTwoVaults (disk active).shown (disk spare).shown → ⊥ =
          subst (λ (l : List ℕ). AreOfTwoVaults l (disk spare).shown → ⊥) (sym (active_shown here.0 here.1))
          (subst (λ (l : List ℕ). AreOfTwoVaults (of_file which (disk first).shown (disk second).shown) l → ⊥) (sym (spare_shown other ∙ shown_placed disk which second first))
          (pass_placed which (disk first).shown (disk second).shown pass)) in
          let spare_is = subst (IsSpare g) (sym (spare_shown other)) (newer_here here.0 here.1).1 in
          let stands = precedes_beside (disk active).shown (disk spare).shown g holds.is_front.base based spare_is beside in record {
            base = holds.is_front.base;
            based = λ x image.
                subst (λ (file : List ℕ). IsBasedOn g file holds.is_front.base) (sym ((settled_active honest).only x image ∙ still_shown honest)) based;
            beside = opened_aside (MayPrecede g holds.is_front.base) other stands (λ y isnt torn. torn_precedes g holds.is_front.base (disk spare).shown y stands isnt torn);
          }

-- where no fault was counted until the active file was read on, and none then, none was counted of either device
pub opened_quiet : {D : Type 0} (disk : D → Disk) (which : File) (first second one two active spare active_new : D) → AreQuiet (disk first) (disk second) (disk one) (disk two)
    → active ≡ of_file which one two → spare ≡ of_file which two one → IsQuiet (disk active) (disk active_new) → AreQuiet (disk first) (disk second) (disk (of_file which active_new spare)) (disk (of_file which spare active_new))
opened_quiet disk which first second one two active spare active_new quiet active_is spare_is still =
    unplaced (λ (a b : _). IsQuiet (disk a) (disk b)) which first second active_new spare
    (quiet_then (disk (of_file which first second)) (disk active) (disk active_new)
    (subst (λ (d : _). IsQuiet (disk (of_file which first second)) (disk d)) (sym active_is) (placed (λ (a b : _). IsQuiet (disk a) (disk b)) which first second one two quiet.0 quiet.1)) still)
    (subst (λ (d : _). IsQuiet (disk (of_file which second first)) (disk d)) (sym spare_is) (placed (λ (a b : _). IsQuiet (disk a) (disk b)) which second first two one quiet.1 quiet.0))

-- the same where an allocation was refused in reading on
pub opened_wanted : {D : Type 0} (disk : D → Disk) (which : File) (first second one two active spare active_new first_new second_new : D) → AreQuiet (disk first) (disk second) (disk one) (disk two)
    → active ≡ of_file which one two → spare ≡ of_file which two one → (why : OpenError) (IsWrong : ℕ → Type 0) → IsWhyNot (disk active) (disk active_new) which IsWrong why
    → first_new ≡ of_file which active_new spare → second_new ≡ of_file which spare active_new → why ≡ NoMemory → AreQuiet (disk first) (disk second) (disk first_new) (disk second_new)
opened_wanted disk which first second one two active spare active_new first_new second_new quiet active_is spare_is why IsWrong is first_is second_is wanted =
    subst (λ (d : _). AreQuiet (disk first) (disk second) (disk d) (disk second_new)) (sym first_is)
    (subst (λ (d : _). AreQuiet (disk first) (disk second) (disk (of_file which active_new spare)) (disk d)) (sym second_is)
    (opened_quiet disk which first second one two active spare active_new quiet active_is spare_is (subst (λ (w : OpenError). IsWhyNot (disk active) (disk active_new) which IsWrong w) wanted is)))
