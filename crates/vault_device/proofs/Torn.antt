-- What a torn write leaves.
use Rattle.std.proofs.Common.{◌≡◌, ◌≢◌, inl, inr, refl, ℕ, suc, max, ◌+◌, ◌<◌, ◌≤◌, List, [], ◌∷◌, ◌++◌, length, get_or, set, take, drop, sym, ◌∙◌, ap, arith, add-one, append_assoc, length-append, length-drop}
use Rattle.std.proofs.lemmas.List.{ext_get_or, length-take-le, length-set, get_or-take, get_or-set_same, get_or-set_other, set_split, take_at, drop_at, drop-drop}
use Rattle.std.proofs.lemmas.Bool.{cases_eq, cases_lt}
use Rattle.vault_device.specs.Disk.{IsTorn, overwritten}

-- what stands before the range is as it was
pub torn_front : (at n : ℕ) (old new : List ℕ) → at ≤ length old → IsTorn at n old new → take at new ≡ take at old
torn_front at n old new within torn =
    let long : at ≤ length new = omega (arith, torn.no_shorter) in
    ext_get_or 0 (take at new) (take at old) (length-take-le at new long ∙ sym (length-take-le at old within))
    (λ i h.
    let below : i < at = omega (arith, length-take-le at new long) in
    get_or-take at new i 0 below ∙ torn.before i (omega arith) below ∙ sym (get_or-take at old i 0 below))

-- a torn write of one byte leaves all but that byte
pub torn_byte : (at : ℕ) (old new : List ℕ) → at < length old → IsTorn at 1 old new → new ≡ set old at (get_or new at 0)
torn_byte at old new within torn =
    ext_get_or 0 new (set old at b) (same ∙ sym (length-set old at b)) (λ i h. elim (cases_eq i at) [
      | inl is ↦ ap (λ (k : ℕ). get_or new k 0) is ∙ sym (get_or-set_same old at b 0 within) ∙ ap (λ (k : ℕ). get_or (set old at b) k 0) (sym is)
      | inr other ↦ elsewhere i h other ∙ sym (get_or-set_other old at i b 0 other)
    ])
  where
    b : ℕ
    b = get_or new at 0

    same : length new ≡ length old
    same = omega (arith, torn.no_shorter, torn.no_longer)

    elsewhere : (i : ℕ) → i < length new → i ≢ at → get_or new i 0 ≡ get_or old i 0
    elsewhere i h other = elim (cases_lt i at) [
      | inl below ↦ torn.before i (omega (arith, same)) below
      | inr above ↦ torn.behind i (omega (arith, same)) (omega (arith, other))
    ]

-- a write of one byte is a change of that byte
pub overwritten_byte : (at b : ℕ) (old : List ℕ) → at < length old → overwritten old at (b ∷ []) ≡ set old at b
overwritten_byte at b old within =
    let split = set_split old at b within in
    rw add-one (append_one (take at old) (drop (suc at) old) b) ∙ sym split
  where
    append_one : (xs ys : List ℕ) (y : ℕ) → xs ++ (y ∷ []) ++ ys ≡ xs ++ y ∷ ys
    append_one xs ys y = append_assoc xs (y ∷ []) ys

-- how long a write leaves it
pub length-overwritten : (old : List ℕ) (at : ℕ) (bytes : List ℕ) → at ≤ length old → length (overwritten old at bytes) ≡ max (length old) (at + length bytes)
length-overwritten old at bytes le =
    omega (arith, length-append (take at old ++ bytes) (drop (at + length bytes) old), length-append (take at old) bytes, length-take-le at old le, length-drop (at + length bytes) old)

-- one write upon another in its range is one torn write
pub torn_then : (at n from m : ℕ) (old mid new : List ℕ) → at ≤ from → from + m ≤ at + n → IsTorn at n old mid → IsTorn from m mid new → IsTorn at n old new
torn_then at n from m old mid new begins ends first second = record {
  no_shorter = omega (arith, first.no_shorter, second.no_shorter);
  no_longer = omega (arith, first.no_longer, second.no_longer);
  before = λ i within below. second.before i (omega (arith, within, first.no_shorter)) (omega (arith, below, begins)) ∙ first.before i within below;
  behind = λ i within above. second.behind i (omega (arith, within, first.no_shorter)) (omega (arith, above, ends)) ∙ first.behind i within above;
}

-- a torn write may leave all as it was
pub torn_none : (at n : ℕ) (y : List ℕ) → IsTorn at n y y
torn_none at n y = record { no_shorter = omega arith; no_longer = omega arith; before = λ i within below. refl; behind = λ i within above. refl }

-- a write behind another is one write
pub overwritten_twice : (old : List ℕ) (at : ℕ) (first second : List ℕ) → at ≤ length old → overwritten (overwritten old at first) (at + length first) second ≡ overwritten old at (first ++ second)
overwritten_twice old at first second within =
    ap (λ (l : List ℕ). l ++ second ++ drop (at + length first + length second) (take at old ++ first ++ rest)) front
    ∙ ap (λ (l : List ℕ). take at old ++ first ++ second ++ l) back
    ∙ ap (λ (l : List ℕ). l ++ drop (at + length (first ++ second)) old) (append_assoc (take at old) first second)
  where
    rest : List ℕ
    rest = drop (at + length first) old

    size : length (take at old ++ first) ≡ at + length first
    size = omega (arith, length-append (take at old) first, length-take-le at old within)

    front : take (at + length first) (take at old ++ first ++ rest) ≡ take at old ++ first
    front = take_at (take at old ++ first) rest (at + length first) size

    back : drop (at + length first + length second) (take at old ++ first ++ rest) ≡ drop (at + length (first ++ second)) old
    back =
        sym (drop-drop (length second) (at + length first) (take at old ++ first ++ rest))
        ∙ ap (λ (l : List ℕ). drop (length second) l) (drop_at (take at old ++ first) rest (at + length first) size)
        ∙ drop-drop (length second) (at + length first) old
        ∙ ap (λ (n : ℕ). drop n old) (omega (arith, length-append first second))
