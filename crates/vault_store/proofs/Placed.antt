-- What is said of the active file and its spare, said of the first file and the second.
use Rattle.std.proofs.Common.{inl, inr, IsTrue, Bool, true, false, ℕ, List, arith, Result}
use Rattle.vault_device.specs.Disk.{Disk}
use Rattle.vault_store.specs.declared.opening.File.{File}
use Rattle.vault_store.specs.declared.opening.File.TheVariants.{First, Second}
use Rattle.vault_format.specs.Files.{Reading, AreRead}
use Rattle.vault_store.specs.State.{StoreState}
use Rattle.vault_store.specs.Seen.{StoreSeen, of_file, IsLeftWhile, IsLeftInside}
use Rattle.vault_store.specs.Step.{IsAtMostOneCall, MayBeLeft}

pub read_exchanged : (x y : List ℕ) (r : Reading) → AreRead x y r → AreRead y x r
read_exchanged x y r read = elim read [ inl one ↦ inr one | inr other ↦ inl other ]

pub while_exchanged : (opens : Bool) (gate : ℕ) (settled sealed : Reading) (active x y : List ℕ) → IsLeftWhile opens gate settled sealed active x y → IsLeftWhile opens gate settled sealed active y x
while_exchanged true gate settled sealed active x y left = record { opened = λ is. read_exchanged x y sealed (left.opened is); shut = λ is. read_exchanged x y settled (left.shut is) }
while_exchanged false gate settled sealed active x y left = read_exchanged x y settled left

pub inside_exchanged : {D : Type 0} (store : StoreSeen D) (s : StoreState) (x y : List ℕ) → IsLeftInside store s x y → IsLeftInside store s y x
inside_exchanged store s x y left = elim left [ inl was ↦ inl (read_exchanged x y _ was) | inr opened ↦ inr (opened.0, read_exchanged x y _ opened.1) ]

-- both devices are honest, in whichever place
pub both_honest : {D : Type 0} (disk : D → Disk) (which : File) (active spare : D) → IsTrue (disk (of_file which active spare)).honest → IsTrue (disk (of_file which spare active)).honest → IsTrue (disk active).honest × IsTrue (disk spare).honest
both_honest disk First active spare one two = (one, two)
both_honest disk Second active spare one two = (two, one)

pub calls_placed : {D : Type 0} (disk : D → Disk) (which : File) (active spare active_new spare_new : D) {A E : Type 0} (result : Result A E) → IsAtMostOneCall (disk active) (disk spare) (disk active_new) (disk spare_new) result
    → IsAtMostOneCall (disk (of_file which active spare)) (disk (of_file which spare active)) (disk (of_file which active_new spare_new)) (disk (of_file which spare_new active_new)) result
calls_placed disk First active spare active_new spare_new result made = made
calls_placed disk Second active spare active_new spare_new result made = record {
  first_honest = made.second_honest;
  second_honest = made.first_honest;
  calls = omega (arith, made.calls);
  faults = (made.faults.1, made.faults.0);
  cause = λ err. elim (made.cause err) [ inl one ↦ inr one | inr two ↦ inl two ];
}

pub moments_placed : {D : Type 0} (disk : D → Disk) (which : File) (active spare active_new spare_new : D) (P : List ℕ → List ℕ → Type 0) → ((x y : List ℕ) → P x y → P y x)
    → ((x y : List ℕ) → IsTrue (disk active).honest → IsTrue (disk spare).honest → MayBeLeft (disk active) (disk spare) (disk active_new) (disk spare_new) x y → P x y)
    → (x y : List ℕ) → IsTrue (disk (of_file which active spare)).honest → IsTrue (disk (of_file which spare active)).honest
    → MayBeLeft (disk (of_file which active spare)) (disk (of_file which spare active)) (disk (of_file which active_new spare_new)) (disk (of_file which spare_new active_new)) x y → P x y
moments_placed disk First active spare active_new spare_new P exchanged moments x y one two may = moments x y one two may
moments_placed disk Second active spare active_new spare_new P exchanged moments x y one two may = exchanged y x (moments y x two one (may.1, may.0))

pub left_placed : {D : Type 0} (disk : D → Disk) (which : File) (active spare : D) (opens : Bool) (gate : ℕ) (settled sealed : Reading) (of : List ℕ → List ℕ → List ℕ) → ((x y : List ℕ) → (disk active).IsImage x → (disk spare).IsImage y → IsLeftWhile opens gate settled sealed (of x y) x y)
    → (x y : List ℕ) → (disk (of_file which active spare)).IsImage x → (disk (of_file which spare active)).IsImage y → IsLeftWhile opens gate settled sealed (of (of_file which x y) (of_file which y x)) x y
left_placed disk First active spare opens gate settled sealed of left x y one two = left x y one two
left_placed disk Second active spare opens gate settled sealed of left x y one two = while_exchanged opens gate settled sealed (of y x) y x (left y x two one)
