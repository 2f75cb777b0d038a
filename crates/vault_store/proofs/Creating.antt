-- What a crash inside a creation leaves.
use Rattle.std.proofs.Common.{◌≡◌, inl, inr, ℕ, List, [], ◌∷◌, length, set, get_or, refl, sym, ◌∙◌, ap, subst, arith, IsTrue}
use Rattle.std.proofs.lemmas.Bool.{cases_eq}
use Rattle.std.specs.Prelude.{slice_index}
use Rattle.vault_state.specs.Vault.{new_vault}
use Rattle.vault_device.specs.Disk.{Disk, IsLawful, IsTorn, IsTornImage, LeavesOnly, LeavesSince, overwritten}
use Rattle.vault_device.proofs.Moments.{and_then, stands_now}
use Rattle.vault_device.proofs.Torn.{torn_byte, torn_none}
use Rattle.vault_format.specs.Files.{IsClosedFile, StandFor}
use Rattle.vault_store.specs.OnDisk.{IsSettled}
use Rattle.vault_store.specs.Create.{new_front, new_file, IsClosedOrNew, StopsInCreation, PassesInCreation}
use Rattle.vault_store.proofs.Passes.{closed_pass}
use Rattle.vault_store.proofs.New.{new_reading, new_is_front, new_ends}

-- what is said of more is said of less
pub weaker : (old new : Disk) (P Q : List ℕ → Type 0) → ((x : List ℕ) → P x → Q x) → LeavesSince old new P → LeavesSince old new Q
weaker old new P Q turn since = record {
  later = since.later;
  each = λ x was. turn x (since.each x was);
  earlier = λ t x le was. elim (since.earlier t x le was) [
    | inl past ↦ inl past
    | inr now ↦ inr (turn x now)
  ];
}

-- a write that may be torn may leave what stood there
pub untorn : (disk : Disk) (at n : ℕ) (x : List ℕ) → disk.IsImage x → IsTornImage disk at n x
untorn disk at n x is = (x, is, torn_none at n x)

-- the closed head gate of an empty file
first_part : (disk : Disk) → LeavesOnly disk [] → (x : List ℕ) → IsTornImage disk 0 1 x → IsClosedOrNew x
first_part disk only x torn = inl (inl (let e = ap (λ (l : List ℕ). length l) (only torn.0 torn.1) in let long = torn.2.no_longer in omega (arith, e, long)))

-- what stands behind that gate
second_part : (disk : Disk) → LeavesOnly disk (0 ∷ []) → (x : List ℕ) → IsTornImage disk 1 34 x → IsClosedOrNew x
second_part disk only x torn =
    let e : torn.0 ≡ 0 ∷ [] = only torn.0 torn.1 in
    let same : slice_index x 0 ≡ 0 = torn.2.before 0 (omega (arith, ap (λ (l : List ℕ). length l) e)) (omega arith) ∙ ap (λ (l : List ℕ). slice_index l 0) e in
    inl (inr (not_one (slice_index x 0) same))
  where
    not_one : (n : ℕ) → n ≡ 0 → n ≡ 1 → ⊥
    not_one n none one = omega (arith, none, one)

-- a new vault's file with its head gate closed
abbrev pub shut_file : List ℕ
shut_file = set new_file 0 0

-- that gate is opened
third_part : (disk : Disk) → LeavesOnly disk shut_file → (x : List ℕ) → IsTornImage disk 0 1 x → IsClosedOrNew x
third_part disk only x torn =
    let t : IsTorn 0 1 shut_file x = subst (λ (l : List ℕ). IsTorn 0 1 l x) (only torn.0 torn.1) torn.2 in
    let byte : x ≡ set shut_file 0 (get_or x 0 0) = torn_byte 0 shut_file x (omega arith) t in
    elim (cases_eq (get_or x 0 0) 1) [
      | inl one ↦ inr (byte ∙ ap (λ (b : ℕ). set shut_file 0 b) one)
      | inr other ↦ inl (inr other)
    ]

-- the three writes of a creation, each synced
pub made_once : (a b : Disk) → LeavesOnly a [] → LeavesSince a b (IsTornImage a 0 1) → LeavesSince a b IsClosedOrNew
made_once a b empty one = weaker a b (IsTornImage a 0 1) IsClosedOrNew (first_part a empty) one

pub made_twice : (a b c : Disk) → LeavesOnly a [] → LeavesSince a b (IsTornImage a 0 1) → IsSettled b → b.shown ≡ 0 ∷ [] → LeavesSince b c (IsTornImage b 1 34) → LeavesSince a c IsClosedOrNew
made_twice a b c empty one settled shown two =
    and_then a b c IsClosedOrNew (made_once a b empty one) (weaker b c (IsTornImage b 1 34) IsClosedOrNew (second_part b (λ x is. settled.only x is ∙ shown)) two)

pub made_thrice : (a b c d : Disk) → LeavesOnly a [] → LeavesSince a b (IsTornImage a 0 1) → IsSettled b → b.shown ≡ 0 ∷ [] → LeavesSince b c (IsTornImage b 1 34) → IsSettled c → c.shown ≡ shut_file
    → LeavesSince c d (IsTornImage c 0 1) → LeavesSince a d IsClosedOrNew
made_thrice a b c d empty one settled shown two settled_again shown_again three =
    and_then a c d IsClosedOrNew (made_twice a b c empty one settled shown two)
    (weaker c d (IsTornImage c 0 1) IsClosedOrNew (third_part c (λ x is. settled_again.only x is ∙ shown_again)) three)

-- a file that stays empty is closed
pub stays_closed : (x : List ℕ) → x ≡ [] → IsClosedFile x
stays_closed x e = inl (omega (arith, ap (λ (l : List ℕ). length l) e))

pub left_empty : (a b : Disk) → LeavesOnly a [] → LeavesSince a b a.IsImage → LeavesSince a b IsClosedOrNew
left_empty a b empty since = weaker a b a.IsImage IsClosedOrNew (λ x is. inl (stays_closed x (empty x is))) since

pub then_made : (a b c : Disk) → (IsTrue b.honest → IsLawful b) → IsTrue b.honest → LeavesOnly a [] → LeavesSince a b a.IsImage → (LeavesOnly b [] → LeavesSince b c IsClosedOrNew) → LeavesSince a c IsClosedOrNew
then_made a b c lawful honest empty first second =
    and_then a b c IsClosedOrNew (left_empty a b empty first) (second (λ x is. empty x (stands_now a b a.IsImage (lawful honest) first x is)))

new_is_read : (y : List ℕ) → IsClosedFile y → StandFor new_file y new_vault
new_is_read y shut = (new_reading, inl (record { front = new_front; is_front = new_is_front; ends = new_ends }, inl shut), refl)

-- what a write behind others leaves
pub then_shown : (old new front : List ℕ) (at : ℕ) (bytes : List ℕ) → new ≡ overwritten old at bytes → old ≡ front → new ≡ overwritten front at bytes
then_shown old new front at bytes write was = write ∙ ap (λ (l : List ℕ). overwritten l at bytes) was

-- both files
pub stops_in_creation : (first second first_new second_new : Disk) → (IsTrue first.honest → LeavesOnly first [] → LeavesSince first first_new IsClosedOrNew) → (IsTrue second.honest → LeavesSince second second_new second.IsImage)
    → StopsInCreation first second first_new second_new
stops_in_creation first second first_new second_new made left = λ honest other none none_there x y was.
    let shut : IsClosedFile y = stays_closed y (none_there y ((left other).each y was.1)) in
    elim ((made honest none).each x was.0) [
      | inl closed ↦ inl (closed, shut)
      | inr new ↦ inr (subst (λ (l : List ℕ). StandFor l y new_vault) (sym new) (new_is_read y shut))
    ]

-- the second one stays closed, so they aren't reported as the files of two vaults
pub passes_in_creation : (first second first_new second_new : Disk) → (IsTrue second.honest → LeavesSince second second_new second.IsImage) → PassesInCreation first second first_new second_new
passes_in_creation first second first_new second_new left = λ honest other none none_there x y was. closed_pass x y (inr (stays_closed y (none_there y ((left other).each y was.1))))

-- devices without a call
pub none_made : (first second : Disk) → (IsTrue first.honest → IsLawful first) → (IsTrue second.honest → IsLawful second) → StopsInCreation first second first second
none_made first second lawful lawful_other = λ honest other none none_there x y was.
    inl (stays_closed x (none x ((lawful honest).only_now x was.0)), stays_closed y (none_there y ((lawful_other other).only_now y was.1)))
