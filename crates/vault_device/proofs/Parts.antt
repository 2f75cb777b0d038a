-- Parts of a write, one behind another.
use Rattle.std.proofs.Common.{◌≡◌, inr, ⊎_elim, sym, ◌∙◌, ap, subst, ℕ, ◌+◌, ◌-◌, ◌≤◌, List, ◌++◌, length, take, drop, Option, Result, Ok, Err, unwrap_or, slice_range, IsErr, rules, arith, length-append, length-drop}
use Rattle.std.proofs.lemmas.List.{drop-drop, length-take-le, take_all, take-append-le}
use Rattle.std.proofs.Math.Seq.{take-add, take-append-add}
use borrow.Rule.Slice.PartMut.{put_mid}
use Rattle.vault_device.specs.Disk.{Disk, Elapses, IsTornImage, IsWrite, overwritten}
use Rattle.vault_device.proofs.Torn.{torn_then, overwritten_twice}
use Rattle.vault_device.specs.RawFile.{IsPartWrite}

pub rest_is : (done : ℕ) (bytes : List ℕ) → take (length bytes - done) (drop done bytes) ≡ drop done bytes
rest_is done bytes = take_all (length bytes - done) (drop done bytes) (omega (arith, length-drop done bytes))

-- the first bytes were written, and what a crash leaves is the whole write torn
pub record HasPart (at done : ℕ) (bytes : List ℕ) (old new : Disk) : Type 0 where
  pub shown : new.shown ≡ overwritten old.shown at (take done bytes)
  pub settled : new.settled ≡ old.settled
  pub images : (x : List ℕ) → new.IsImage x → IsTornImage old at (length bytes) x
  pub time : Elapses old new (IsTornImage old at (length bytes))

-- what a crash leaves of a further part
inside : (at done : ℕ) (bytes : List ℕ) (old mid : Disk) → done ≤ length bytes → HasPart at done bytes old mid → (x : List ℕ) → IsTornImage mid (at + done) (length (drop done bytes)) x → IsTornImage old at (length bytes) x
inside at done bytes old mid le part x torn =
    let from = part.images torn.0 torn.1 in
    (from.0, from.1, torn_then at (length bytes) (at + done) (length (drop done bytes)) from.0 torn.0 x (omega arith) (omega (arith, length-drop done bytes)) from.2 torn.2)

onward : (at done : ℕ) (bytes : List ℕ) (old mid new : Disk) → done ≤ length bytes → HasPart at done bytes old mid → Elapses mid new (IsTornImage mid (at + done) (length (drop done bytes))) → Elapses old new (IsTornImage old at (length bytes))
onward at done bytes old mid new le part time = record {
  later = omega (arith, part.time.later, time.later);
  nothing_else = λ t x past was. ⊎_elim (λ (then : mid.WasImage t x). part.time.nothing_else t x past then) (λ (torn : IsTornImage mid (at + done) (length (drop done bytes)) x). inr (inside at done bytes old mid le part x torn))
      (time.nothing_else t x (omega (arith, past, part.time.later)) was);
  keeps = λ t x past was. time.keeps t x (omega (arith, past, part.time.later)) (part.time.keeps t x past was);
}

-- the place and the bytes of a further part, as they are computed
at_rest_of : {E : Type 0} (at done from : ℕ) (bytes rest : List ℕ) (result : Result (Option ℕ) E) (mid new : Disk) → from ≡ at + done → rest ≡ drop done bytes → IsPartWrite from rest result mid new → IsPartWrite (at + done) (drop done bytes) result mid new
at_rest_of at done from bytes rest result mid new place is-rest wrote =
    subst (λ (l : List ℕ). IsPartWrite (at + done) l result mid new) is-rest (subst (λ (k : ℕ). IsPartWrite k rest result mid new) place wrote)

pub part_more : {E : Type 0} (at done from : ℕ) (bytes rest : List ℕ) (moved : Option ℕ) (old mid new : Disk) → at ≤ length old.shown → done ≤ length bytes → from ≡ at + done → rest ≡ drop done bytes → HasPart at done bytes old mid
    → IsPartWrite {E = E} from rest (Ok moved) mid new → HasPart at (done + unwrap_or moved 0) bytes old new
part_more {E} at done from bytes rest moved old mid new within le place is-rest part wrote = record {
  shown =
      let n = unwrap_or moved 0 in
      let behind : at + done ≡ at + length (take done bytes) = omega (arith, length-take-le done bytes le) in
      more.shown ∙ ap (λ (l : List ℕ). overwritten l (at + done) (take n (drop done bytes))) part.shown
      ∙ ap (λ (k : ℕ). overwritten (overwritten old.shown at (take done bytes)) k (take n (drop done bytes))) behind
      ∙ overwritten_twice old.shown at (take done bytes) (take n (drop done bytes)) within
      ∙ ap (λ (l : List ℕ). overwritten old.shown at l) (sym (take-add done n bytes));
  settled = more.settled ∙ part.settled;
  images = λ x is. inside at done bytes old mid le part x (more.images x is);
  time = onward at done bytes old mid new le part more.time;
}
  where
    more : IsPartWrite {E = E} (at + done) (drop done bytes) (Ok moved) mid new
    more = at_rest_of at done from bytes rest (Ok moved) mid new place is-rest wrote

pub part_fails : {E F : Type 0} (at done from : ℕ) (bytes rest : List ℕ) (e : E) (result : Result (Unit {0}) F) (old mid new : Disk) → IsErr result → done ≤ length bytes → from ≡ at + done → rest ≡ drop done bytes → HasPart at done bytes old mid
    → IsPartWrite from rest (Err e) mid new → IsWrite at bytes result old new
part_fails at done from bytes rest e (Err f) old mid new failed le place is-rest part wrote = record {
  shown = tt;
  settled = more.settled ∙ part.settled;
  images = λ x is. inside at done bytes old mid le part x (more.images x is);
  time = onward at done bytes old mid new le part more.time;
}
  where
    more : IsPartWrite (at + done) (drop done bytes) (Err e) mid new
    more = at_rest_of at done from bytes rest (Err e) mid new place is-rest wrote
part_fails at done from bytes rest e (Ok done') old mid new failed le place is-rest part wrote = absurd (search rules)

-- more of the buffer was filled
pub read_more : (at done n : ℕ) (buffer rest shown : List ℕ) → done ≤ length buffer → length rest ≡ length buffer - done → n ≤ length buffer - done → take done buffer ≡ slice_range shown at (at + done)
    → take n rest ≡ slice_range shown (at + done) (at + done + n) → take (done + n) (put_mid done (length buffer - done) buffer rest) ≡ slice_range shown at (at + (done + n))
read_more at done n buffer rest shown within size room first second =
    ap (λ (k : ℕ). take (k + n) (take done buffer ++ (rest ++ behind))) (sym front)
    ∙ take-append-add (take done buffer) (rest ++ behind) n
    ∙ ap (λ (l : List ℕ). take done buffer ++ l) (take-append-le n rest behind (omega (arith, size, room)) ∙ second)
    ∙ ap (λ (l : List ℕ). l ++ slice_range shown (at + done) (at + done + n)) first
    ∙ ap (λ (k : ℕ). take k (drop at shown) ++ slice_range shown (at + done) (at + done + n)) (short at done)
    ∙ ap (λ (k : ℕ). take done (drop at shown) ++ take k (drop (at + done) shown)) (short (at + done) n)
    ∙ ap (λ (l : List ℕ). take done (drop at shown) ++ take n l) (sym (drop-drop done at shown))
    ∙ sym (take-add done n (drop at shown))
    ∙ ap (λ (k : ℕ). take k (drop at shown)) (sym (short at (done + n)))
  where
    behind : List ℕ
    behind = drop (length buffer - done) (drop done buffer)

    front : length (take done buffer) ≡ done
    front = length-take-le done buffer within

    short : (a b : ℕ) → a + b - a ≡ b
    short a b = omega arith

pub length-put_mid : (done : ℕ) (buffer rest : List ℕ) → done ≤ length buffer → length rest ≡ length buffer - done → length (put_mid done (length buffer - done) buffer rest) ≡ length buffer
length-put_mid done buffer rest within size =
    let behind = drop (length buffer - done) (drop done buffer) in
    omega (arith, size, length-append (take done buffer) (rest ++ behind), length-append rest behind, length-take-le done buffer within, length-drop done buffer, length-drop (length buffer - done) (drop done buffer))
