-- Two files, synced and looked at one after the other: what is answered.
use Rattle.std.proofs.Common.{◌≡◌, ◌⊎◌, inl, inr, ℕ, ◌≤◌, Option, Result, Ok, Err, IfOk, IfErr, OnOk, IsTrue, Bool, true, List, sym, ◌∙◌, subst, arith}
use Rattle.std.specs.Prelude.{◌↔◌}
use Rattle.std.specs.Result.{IsErrAnd}
use Rattle.vault_device.specs.Disk.{Disk}
use Rattle.vault_journal.specs.Gate.{IsClosed}
use Rattle.vault_store.specs.declared.opening.Active.{Active}
use Rattle.vault_store.specs.declared.opening.File.{File}
use Rattle.vault_store.specs.declared.opening.File.TheVariants.{First, Second}
use Rattle.vault_store.specs.declared.opening.OpenError.{OpenError}
use Rattle.vault_store.specs.declared.opening.OpenError.TheVariants.{NoVault, Damaged, Device, NoMemory}
use Rattle.vault_store.specs.Calls.{HasCause, IsCalled, IsQuiet, AreQuiet}
use Rattle.vault_format.specs.Faults.{IsDamagedHead}
use Rattle.vault_store.specs.OnDisk.{IsSettled}
use Rattle.vault_store.specs.Opening.{IsNotOpened, IsHandedOn, AreSettled, AreLeftSettled}
use Rattle.vault_store.specs.Read.{AreReads, IsGenerationRead, IsWhyNot, IsNewerIn}
use Rattle.vault_store.specs.Seen.{of_file}
use Rattle.vault_store.proofs.HandedOn.{settled_reads}
use Rattle.vault_store.proofs.Opened.{shut_placed, placed, settled_each, opened_quiet}

-- what holds of the error that a `?` hands on
pub told_as : {T E : Type 0} (result : Result T E) (why : E) (P : E → Type 0) → IsErrAnd result (λ (e : E). e ≡ why) → P why → IfErr result P
told_as (Ok x) why P is holds = tt
told_as (Err e) why P is holds = subst P (sym is) holds

pub on_any : {T E : Type 0} (result : Result T E) (P : Type 0) → P → OnOk result P
on_any (Ok x) P holds = holds
on_any (Err e) P holds = tt

pub both_settled : (first second one two : Disk) → one.honest ≡ first.honest → two.honest ≡ second.honest → (IsTrue first.honest → IsSettled one) → (IsTrue second.honest → IsSettled two) → AreSettled one two
both_settled first second one two same same_two h k = λ honest other. (h (subst IsTrue same honest), k (subst IsTrue same_two other))

pub left_by : (why : OpenError) (first second : Disk) → AreSettled first second → AreLeftSettled first second why
left_by NoVault first second settled = settled
left_by (Damaged file at) first second settled = settled
left_by Device first second settled = tt
left_by NoMemory first second settled = settled

pub left_settled : {T : Type 0} (result : Result T OpenError) (first second : Disk) → AreSettled first second → IfErr result (λ (why : OpenError). AreLeftSettled first second why)
left_settled (Ok x) first second settled = tt
left_settled (Err why) first second settled = left_by why first second settled

-- a fault that looking at a file found was counted
pub why_caused : (old mid new : Disk) (which : File) (IsWrong : ℕ → Type 0) (why : OpenError) → old.faults ≤ mid.faults → IsWhyNot mid new which IsWrong why → why ≡ Device → HasCause old new
why_caused old mid new which IsWrong NoVault fewer is same = absurd is
why_caused old mid new which IsWrong (Damaged file at) fewer is same = cc
why_caused old mid new which IsWrong Device fewer (inl more) same = inl (omega (arith, more, fewer))
why_caused old mid new which IsWrong Device fewer (inr last) same = inr last
why_caused old mid new which IsWrong NoMemory fewer is same = cc

-- what a synced file was read as, it is
pub read_before : (old mid : Disk) (generation : Option ℕ) → mid.honest ≡ old.honest → (IsTrue old.honest → mid.shown ≡ old.shown) → (IsTrue mid.honest → IsGenerationRead mid.shown generation) → IsTrue old.honest
    → IsGenerationRead old.shown generation
read_before old mid generation same shown read honest = subst (λ (file : List ℕ). IsGenerationRead file generation) (shown honest) (read (subst IsTrue (sym same) honest))

pub shut_before : (old mid : Disk) (shut : Bool) → mid.honest ≡ old.honest → (IsTrue old.honest → mid.shown ≡ old.shown) → (IsTrue mid.honest → (shut ≡ true) ↔ IsClosed 0 mid.shown) → IsTrue old.honest → (shut ≡ true) ↔ IsClosed 0 old.shown
shut_before old mid shut same shown read honest = subst (λ (file : List ℕ). (shut ≡ true) ↔ IsClosed 0 file) (shown honest) (read (subst IsTrue (sym same) honest))

-- the first fault stands in the first file's head
pub first_wrong : (first one new : Disk) (second : List ℕ) (why : OpenError) → one.honest ≡ first.honest → (IsTrue first.honest → one.shown ≡ first.shown) → IsWhyNot one new First (IsDamagedHead one.shown) why → IsTrue first.honest
    → IsNotOpened first.shown second why
first_wrong first one new second NoVault same shown wrong honest = absurd wrong
first_wrong first one new second (Damaged file at) same shown wrong honest =
    subst (λ (f : File). IsNotOpened first.shown second (Damaged f at)) (sym wrong.0)
    (inl (subst (λ (bytes : List ℕ). IsDamagedHead bytes at) (shown honest) (wrong.1 (subst IsTrue (sym same) honest))))
first_wrong first one new second Device same shown wrong honest = tt
first_wrong first one new second NoMemory same shown wrong honest = tt

-- which of two files that were read is the active one, or why neither is
pub newer_found : (result : Result Active OpenError) (one other : Option ℕ) (first second : List ℕ) → IfOk result (λ (active : Active). (x y : List ℕ) → IsGenerationRead x one → IsGenerationRead y other → IsNewerIn x y active.which active.generation)
    → IsGenerationRead first one → IsGenerationRead second other → IfOk result (λ (active : Active). IsNewerIn first second active.which active.generation)
newer_found (Ok active) one other first second newer is is_other = newer first second is is_other
newer_found (Err why) one other first second newer is is_other = tt

pub none_found : (result : Result Active OpenError) (one other : Option ℕ) (first second : List ℕ) → IfErr result (λ (why : OpenError). (x y : List ℕ) → IsGenerationRead x one → IsGenerationRead y other → IsNotOpened x y why)
    → IsGenerationRead first one → IsGenerationRead second other → IfErr result (λ (why : OpenError). IsNotOpened first second why)
none_found (Ok active) one other first second refused is is_other = tt
none_found (Err why) one other first second refused is is_other = refused first second is is_other

pub shut_found : {D : Type 0} (disk : D → Disk) (first second : D) (result : Result Active OpenError) (one other : Bool) → IfOk result (λ (active : Active). active.spare_shut ≡ of_file active.which other one)
    → (IsTrue (disk first).honest → (one ≡ true) ↔ IsClosed 0 (disk first).shown) → (IsTrue (disk second).honest → (other ≡ true) ↔ IsClosed 0 (disk second).shown)
    → IfOk result (λ (active : Active). IsTrue (disk (of_file active.which second first)).honest → (active.spare_shut ≡ true) ↔ IsClosed 0 (disk (of_file active.which second first)).shown)
shut_found disk first second (Ok active) one other is of_first of_second = shut_placed disk active.which first second active.spare_shut one other is of_first of_second
shut_found disk first second (Err why) one other is of_first of_second = tt

-- no device failed where the heads were read
pub not_caused : {T : Type 0} (result : Result T OpenError) (P : Type 0) → IfErr result (λ (why : OpenError). why ≡ Device → ⊥) → IfErr result (λ (why : OpenError). why ≡ Device → P)
not_caused (Ok x) P none = tt
not_caused (Err why) P none = λ same. absurd (none same)

-- calls behind others
pub and_called : (old mid new : Disk) → IsCalled old mid → IsCalled mid new → IsCalled old new
and_called old mid new first second = record { same_honesty = second.same_honesty ∙ first.same_honesty; no_fewer_faults = omega (arith, first.no_fewer_faults, second.no_fewer_faults) }

pub caused_behind : (old mid new : Disk) → IsCalled old mid → HasCause mid new → HasCause old new
caused_behind old mid new first (inl more) = inl (omega (arith, more, first.no_fewer_faults))
caused_behind old mid new first (inr last) = inr last

-- the devices of an opening that is refused behind the heads, handed back in turn
module _ {D : Type 0} (disk : D → Disk) (which : File) (first second one two active spare active_new back other : D) (active_is : active ≡ of_file which one two) (spare_is : spare ≡ of_file which two one)
    (back_is : back ≡ of_file which active_new spare) (other_is : other ≡ of_file which spare active_new) where
  pub in_turn : (P : D → D → Type 0) → P (of_file which active_new spare) (of_file which spare active_new) → P back other
  in_turn P is = subst (λ (d : D). P d other) (sym back_is) (subst (λ (d : D). P (of_file which active_new spare) d) (sym other_is) is)

  pub turned_settled : AreReads (disk active) (disk active_new) → (IsTrue (disk one).honest → IsSettled (disk one)) → (IsTrue (disk two).honest → IsSettled (disk two)) → AreSettled (disk back) (disk other)
  turned_settled reads settled settled_two =
      in_turn (λ (a b : D). AreSettled (disk a) (disk b))
      (settled_each disk which active_new spare
      (λ honest. let here = subst IsTrue reads.called.same_honesty honest in settled_reads (disk active) (disk active_new) reads here (each which active one two active_is settled settled_two here))
      (each which spare two one spare_is settled_two settled))
    where
      each : (w : File) (d a b : D) → d ≡ of_file w a b → (IsTrue (disk a).honest → IsSettled (disk a)) → (IsTrue (disk b).honest → IsSettled (disk b)) → IsTrue (disk d).honest → IsSettled (disk d)
      each w d a b is h k = subst (λ (x : D). IsTrue (disk x).honest → IsSettled (disk x)) (sym is) (placed (λ (x y : D). IsTrue (disk y).honest → IsSettled (disk y)) w a b a b h k)

  pub turned_cause : (IsWrong : ℕ → Type 0) (why : OpenError) → IsHandedOn (disk first) (disk one) → IsHandedOn (disk second) (disk two) → IsWhyNot (disk active) (disk active_new) which IsWrong why → why ≡ Device
      → HasCause (disk first) (disk back) ⊎ HasCause (disk second) (disk other)
  turned_cause IsWrong why handed handed_two refused same =
      in_turn (λ (a b : D). HasCause (disk first) (disk a) ⊎ HasCause (disk second) (disk b))
      (either which (why_caused (disk (of_file which first second)) (disk active) (disk active_new) which IsWrong why was.called.no_fewer_faults refused same))
    where
      was : IsHandedOn (disk (of_file which first second)) (disk active)
      was = subst (λ (d : D). IsHandedOn (disk (of_file which first second)) (disk d)) (sym active_is) (placed (λ (a b : D). IsHandedOn (disk a) (disk b)) which first second one two handed handed_two)

      either : (w : File) → HasCause (disk (of_file w first second)) (disk active_new) → HasCause (disk first) (disk (of_file w active_new spare)) ⊎ HasCause (disk second) (disk (of_file w spare active_new))
      either First cause = inl cause
      either Second cause = inr cause

  pub turned_quiet : (IsWrong : ℕ → Type 0) (why : OpenError) → AreQuiet (disk first) (disk second) (disk one) (disk two) → IsWhyNot (disk active) (disk active_new) which IsWrong why → why ≡ NoMemory
      → AreQuiet (disk first) (disk second) (disk back) (disk other)
  turned_quiet IsWrong why quiet refused same =
      in_turn (λ (a b : D). AreQuiet (disk first) (disk second) (disk a) (disk b))
      (opened_quiet disk which first second one two active spare active_new quiet active_is spare_is (subst (λ (e : OpenError). IsWhyNot (disk active) (disk active_new) which IsWrong e) same refused))

-- what the last call leaves, whatever it answers
pub settled_on : {T E : Type 0} (result : Result T E) (first second one two : Disk) → one.honest ≡ first.honest → two.honest ≡ second.honest → (IsTrue first.honest → IsSettled one) → (IsTrue second.honest → OnOk result (IsSettled two))
    → OnOk result (AreSettled one two)
settled_on (Ok x) first second one two same same_two h k = both_settled first second one two same same_two h k
settled_on (Err e) first second one two same same_two h k = tt

pub quiet_on : {T E : Type 0} (result : Result T E) (first second one two : Disk) → IsQuiet first one → OnOk result (IsQuiet second two) → OnOk result (AreQuiet first second one two)
quiet_on (Ok x) first second one two quiet quiet_two = (quiet, quiet_two)
quiet_on (Err e) first second one two quiet quiet_two = tt

pub one_quiet : {T E : Type 0} (result : Result T E) (old mid new : Disk) → mid.faults ≡ old.faults → OnOk result (IsQuiet mid new) → OnOk result (IsQuiet old new)
one_quiet (Ok x) old mid new quiet more = record { same_faults = more.same_faults ∙ quiet }
one_quiet (Err e) old mid new quiet more = tt
