-- Writing behind a byte that is shut, and opening it.
use Rattle.std.proofs.Common.{◌≡◌, ◌≢◌, inl, inr, refl, sym, ◌∙◌, ap, subst, ℕ, ◌+◌, ◌<◌, List, [], ◌∷◌, ◌++◌, length, take, drop, get_or, set, Result, Ok, Err, IsTrue, OnOk, arith, length-append, eq-eqb, cond, Bool}
use Rattle.std.proofs.lemmas.List.{append-nil, take_all, drop_all, drop_at, take-set-le, drop-set-lt, get_or-set_same, take-append-le}
use Rattle.std.proofs.lemmas.Bool.{cases_eq, ne_eqb}
use Rattle.vault_device.specs.Disk.{Disk, IsLawful, IsOneCall, IsTorn, IsTornImage, IsWrite, IsSync, LeavesOnly, LeavesSince, overwritten}
use Rattle.vault_device.specs.SettledByte.{stands_for, IsShut, IsOldOrNew}
use Rattle.vault_device.proofs.Torn.{torn_front, torn_byte, overwritten_byte}
use Rattle.vault_device.proofs.Moments.{one_call, and_then, no_more, stands_now}

shut : (gate : ℕ) (file : List ℕ) → get_or file gate 0 ≢ 1 → stands_for gate file ≡ take gate file
shut gate file other = ap (λ (b : Bool). take gate file ++ cond b (drop (gate + 1) file) []) (ne_eqb (get_or file gate 0) 1 other) ∙ append-nil (take gate file)

open_at : (gate : ℕ) (file : List ℕ) → get_or file gate 0 ≡ 1 → stands_for gate file ≡ take gate file ++ drop (gate + 1) file
open_at gate file one = ap (λ (b : Bool). take gate file ++ cond b (drop (gate + 1) file) []) (eq-eqb (get_or file gate 0) 1 one)

module _ (gate : ℕ) (old bytes : List ℕ) (last : length old ≡ gate + 1) (closed : get_or old gate 0 ≢ 1) where
  -- bytes written at the end stand behind the old ones
  behind : overwritten old (gate + 1) bytes ≡ old ++ bytes
  behind =
      ap (λ (l : List ℕ). l ++ bytes ++ drop (gate + 1 + length bytes) old) (take_all (gate + 1) old (omega (arith, last)))
      ∙ ap (λ (l : List ℕ). old ++ bytes ++ l) (drop_all (gate + 1 + length bytes) old (omega (arith, last))) ∙ append-nil (old ++ bytes)

  stands_old : stands_for gate old ≡ take gate old
  stands_old = shut gate old closed

  -- a torn write behind the byte leaves what the old file stands for
  torn_behind : (n : ℕ) (x : List ℕ) → IsTorn (gate + 1) n old x → IsOldOrNew gate old bytes x
  torn_behind n x torn =
      let front : take (gate + 1) x ≡ take (gate + 1) old = torn_front (gate + 1) n old x (omega (arith, last)) torn in
      let here : get_or x gate 0 ≡ get_or old gate 0 = torn.before gate (omega (arith, last)) (omega arith) in
      let before : take gate x ≡ take gate old = torn_front gate (n + 1) old x (omega (arith, last)) (record { no_shorter = torn.no_shorter; no_longer = omega (arith, torn.no_longer); before = λ i within below. torn.before i within (omega (arith, below)); behind = λ i within above. torn.behind i within (omega (arith, above)) }) in
      inl (shut gate x (λ one. closed (sym here ∙ one)) ∙ before ∙ sym stands_old)

  within : gate < length (old ++ bytes)
  within = omega (arith, length-append old bytes, last)

  -- with another byte in the gate
  with_byte : (b : ℕ) → IsOldOrNew gate old bytes (set (old ++ bytes) gate b) × (b ≡ 1 → stands_for gate (set (old ++ bytes) gate b) ≡ stands_for gate old ++ bytes)
  with_byte b = (elim (cases_eq b 1) [ inl one ↦ inr (opened one) | inr other ↦ inl (shut gate file (λ one. other (sym here ∙ one)) ∙ front ∙ sym stands_old) ], opened)
    where
      file : List ℕ
      file = set (old ++ bytes) gate b

      here : get_or (set (old ++ bytes) gate b) gate 0 ≡ b
      here = get_or-set_same (old ++ bytes) gate b 0 within

      front : take gate (set (old ++ bytes) gate b) ≡ take gate old
      front = take-set-le gate (old ++ bytes) gate b (omega arith) ∙ take-append-le gate old bytes (omega (arith, last))

      back : drop (gate + 1) (set (old ++ bytes) gate b) ≡ bytes
      back = drop-set-lt (gate + 1) (old ++ bytes) gate b (omega arith) ∙ drop_at old bytes (gate + 1) last

      opened : b ≡ 1 → stands_for gate (set (old ++ bytes) gate b) ≡ stands_for gate old ++ bytes
      opened one = open_at gate (set (old ++ bytes) gate b) (here ∙ one) ∙ ap (λ (l : List ℕ). l ++ drop (gate + 1) (set (old ++ bytes) gate b)) (front ∙ sym stands_old) ∙ ap (λ (l : List ℕ). stands_for gate old ++ l) back

  torn_gate : (x : List ℕ) → IsTorn gate 1 (old ++ bytes) x → IsOldOrNew gate old bytes x
  torn_gate x torn = subst (IsOldOrNew gate old bytes) (sym (torn_byte gate (old ++ bytes) x within torn)) (with_byte (get_or x gate 0)).0

  whole : stands_for gate (overwritten (old ++ bytes) gate (1 ∷ [])) ≡ stands_for gate old ++ bytes
  whole = ap (λ (l : List ℕ). stands_for gate l) (overwritten_byte gate 1 (old ++ bytes) within) ∙ (with_byte 1).1 refl

pub honest_on : {A E : Type 0} (old new : Disk) (result : Result A E) → IsOneCall old new result → IsTrue old.honest → IsTrue new.honest
honest_on old new result call honest = subst (λ (b : Bool). IsTrue b) (sym call.same_honesty) honest

-- the moments of the write behind the byte
pub to_behind : {E : Type 0} (gate : ℕ) (bytes : List ℕ) (result : Result (Unit {0}) E) (old new : Disk) → IsShut gate old → IsLawful old → IsWrite (gate + 1) bytes result old new → LeavesSince old new (IsOldOrNew gate old.shown bytes)
to_behind gate bytes result old new closed lawful wrote =
    one_call old new (IsTornImage old (gate + 1) (length bytes)) (IsOldOrNew gate old.shown bytes) lawful wrote.time (λ x is. subst (IsOldOrNew gate old.shown bytes) (sym (closed.settled x is)) (inl refl))
    (λ x torn. torn_behind gate old.shown bytes closed.last closed.shut (length bytes) x (subst (λ (y : List ℕ). IsTorn (gate + 1) (length bytes) y x) (closed.settled torn.0 torn.1) torn.2))

-- the moments of a sync after that
pub to_settled : {E : Type 0} (P : List ℕ → Type 0) (result : Result (Unit {0}) E) (old mid new : Disk) → IsLawful mid → LeavesSince old mid P → IsSync result mid new → LeavesSince old new P
to_settled P result old mid new lawful since synced = and_then old mid new P since (no_more mid new P lawful synced.time (stands_now old mid P lawful since))

-- what is durable before the byte is opened
pub settled_behind : {E : Type 0} (gate : ℕ) (bytes : List ℕ) (old mid new : Disk) → IsShut gate old → IsWrite {E = E} (gate + 1) bytes (Ok tt) old mid → IsSync {E = E} (Ok tt) mid new → (new.shown ≡ old.shown ++ bytes) × LeavesOnly new (old.shown ++ bytes)
settled_behind gate bytes old mid new closed wrote synced =
    let is : mid.shown ≡ old.shown ++ bytes = wrote.shown ∙ behind gate old.shown bytes closed.last closed.shut in
    (synced.shown ∙ is, λ x image. synced.durable x image ∙ is)

-- the moments of the write of the byte
pub to_opened : {E : Type 0} (gate : ℕ) (bytes : List ℕ) (result : Result (Unit {0}) E) (old mid new : Disk) → IsShut gate old → LeavesOnly mid (old.shown ++ bytes) → IsLawful mid → LeavesSince old mid (IsOldOrNew gate old.shown bytes)
    → IsWrite gate (1 ∷ []) result mid new → LeavesSince old new (IsOldOrNew gate old.shown bytes)
to_opened gate bytes result old mid new closed only lawful since wrote =
    and_then old mid new (IsOldOrNew gate old.shown bytes) since
    (one_call mid new (IsTornImage mid gate 1) (IsOldOrNew gate old.shown bytes) lawful wrote.time (stands_now old mid (IsOldOrNew gate old.shown bytes) lawful since)
    (λ x torn. torn_gate gate old.shown bytes closed.last closed.shut x (subst (λ (y : List ℕ). IsTorn gate 1 y x) (only torn.0 torn.1) torn.2)))

-- once the open byte is durable, all stands
pub all_whole : {E : Type 0} (gate : ℕ) (bytes : List ℕ) (result : Result (Unit {0}) E) (old settled opened new : Disk) → IsShut gate old → settled.shown ≡ old.shown ++ bytes → IsWrite {E = E} gate (1 ∷ []) (Ok tt) settled opened → IsSync result opened new
    → OnOk result ((x : List ℕ) → new.IsImage x → stands_for gate x ≡ stands_for gate old.shown ++ bytes)
all_whole gate bytes (Err e) old settled opened new closed is wrote synced = tt
all_whole gate bytes (Ok done) old settled opened new closed is wrote synced = λ x image.
    ap (λ (l : List ℕ). stands_for gate l) (synced.durable x image ∙ wrote.shown ∙ ap (λ (l : List ℕ). overwritten l gate (1 ∷ [])) is)
    ∙ whole gate old.shown bytes closed.last closed.shut
