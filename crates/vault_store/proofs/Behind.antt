-- Calls that change nothing, one behind another, and why one failed.
use Rattle.std.proofs.Common.{◌≡◌, ◌≤◌, inl, inr, ℕ, IsTrue, length, sym, ◌∙◌, subst, arith, Result, Ok, Err, IfErr}
use Rattle.std.specs.Result.{IsErrAnd}
use Rattle.vault_device.specs.Disk.{Disk}
use Rattle.vault_device.proofs.Moments.{read_then}
use Rattle.vault_store.specs.declared.body.ReadError.{ReadError}
use Rattle.vault_store.specs.declared.body.ReadError.TheVariants.{Damaged, Device, NoMemory}
use Rattle.vault_store.specs.Calls.{HasCause, IsQuiet}
use Rattle.vault_store.specs.Read.{AreReads, IsWhy}

-- what is honest before is honest behind
pub honest_behind : (old mid : Disk) → AreReads old mid → IsTrue old.honest → IsTrue mid.honest
honest_behind old mid first honest = subst IsTrue (sym first.called.same_honesty) honest

pub and_reads : (old mid new : Disk) → AreReads old mid → AreReads mid new → AreReads old new
and_reads old mid new first second = record {
  called = record {
    same_honesty = second.called.same_honesty ∙ first.called.same_honesty;
    no_fewer_faults = omega (arith, first.called.no_fewer_faults, second.called.no_fewer_faults);
  };
  read = λ honest. read_then old mid new (first.read honest) (second.read (honest_behind old mid first honest));
}

pub cause_behind : (old mid new : Disk) → AreReads old mid → HasCause mid new → HasCause old new
cause_behind old mid new first cause = elim cause [ inl more ↦ inl (omega (arith, more, first.called.no_fewer_faults)) | inr last ↦ inr last ]

-- what a file is as long as, it is as long as behind reads
pub length_kept : (old mid : Disk) (end : ℕ) → AreReads old mid → (IsTrue old.honest → end ≤ length old.shown) → IsTrue mid.honest → end ≤ length mid.shown
length_kept old mid end first long honest =
    let was = subst IsTrue first.called.same_honesty honest in
    subst (λ bytes. end ≤ length bytes) (sym (first.read was).shown) (long was)

-- no fault was counted by calls one behind the other, if each counted none
pub quiet_then : (old mid new : Disk) → IsQuiet old mid → IsQuiet mid new → IsQuiet old new
quiet_then old mid new first second = record { same_faults = second.same_faults ∙ first.same_faults }

pub why_behind : (old mid new : Disk) (IsWrong WasWrong : ℕ → Type 0) → AreReads old mid → IsQuiet old mid → ((at : ℕ) → IsTrue old.honest → IsWrong at → WasWrong at) → (why : ReadError) → IsWhy mid new IsWrong why → IsWhy old new WasWrong why
why_behind old mid new IsWrong WasWrong first quiet wrong (Damaged at) is = λ honest. wrong at honest (is (honest_behind old mid first honest))
why_behind old mid new IsWrong WasWrong first quiet wrong Device is = cause_behind old mid new first is
why_behind old mid new IsWrong WasWrong first quiet wrong NoMemory is = quiet_then old mid new quiet is

-- what a `?` hands on
pub passed_on : {T : Type 0} (result : Result T ReadError) (why : ReadError) (P : ReadError → Type 0) → IsErrAnd result (λ (e : ReadError). e ≡ why) → P why → IfErr result P
passed_on (Ok x) why P is holds = tt
passed_on (Err e) why P is holds = subst P (sym is) holds
