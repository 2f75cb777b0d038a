-- What a crash leaves of a write behind a closed commit mark (gate), and of a write of the mark.
use Rattle.std.proofs.Common.{◌≡◌, ◌≢◌, inl, inr, ℕ, ◌+◌, ◌<◌, List, length, get_or, set, refl, sym, ◌∙◌, ap, subst, arith}
use Rattle.std.proofs.lemmas.List.{length-set, set-set}
use Rattle.std.proofs.lemmas.Bool.{cases_eq}
use Rattle.vault_device.specs.Disk.{Disk, IsTorn, LeavesOnly, IsTornImage}
use Rattle.vault_device.proofs.Torn.{torn_front, torn_byte, torn_none}
use Rattle.vault_journal.specs.Gate.{IsBehind, SameBut, IsOpening, StaysClosed}

-- a write behind a closed commit mark leaves it closed, and what stands before it
pub behind : (gate n : ℕ) (old : Disk) (x : List ℕ) → StaysClosed gate old → IsTornImage old (gate + 1) n x → IsBehind gate old x
behind gate n old x closed from =
    let y = from.0 in
    let shut = closed y from.1 in
    let same : get_or x gate 0 ≡ get_or y gate 0 = from.2.before gate shut.stands (omega arith) in record {
      closed = record { stands = omega (arith, shut.stands, from.2.no_shorter); shut = subst (λ (b : ℕ). b ≢ 1) (sym same) shut.shut };
      front = (y, from.1, torn_front (gate + 1) n y x (omega (arith, shut.stands)) from.2);
    }

-- what a crash before the write leaves has the same form
pub untouched : (gate : ℕ) (old : Disk) (x : List ℕ) → StaysClosed gate old → old.IsImage x → IsBehind gate old x
untouched gate old x closed image = record { closed = closed x image; front = (x, image, refl) }

opening : (gate : ℕ) (old x : List ℕ) → gate < length old → SameBut gate old x → IsOpening gate old x
opening gate old x stands same = record {
  same = same;
  gate_is = elim (cases_eq (get_or x gate 0) 1) [
    | inl is ↦ inl (same ∙ ap (λ (b : ℕ). set old gate b) is)
    | inr other ↦ inr (record { stands = omega (arith, stands, ap length same, length-set old gate (get_or x gate 0)); shut = other })
  ];
}

-- a write of the commit mark over durable bytes leaves them, but for the mark
pub opens : (gate : ℕ) (old : Disk) (x : List ℕ) → gate < length old.shown → LeavesOnly old old.shown → IsTornImage old gate 1 x → IsOpening gate old.shown x
opens gate old x stands only from =
    opening gate old.shown x stands (torn_byte gate old.shown x stands (subst (λ (y : List ℕ). IsTorn gate 1 y x) (only from.0 from.1) from.2))

pub opens_none : (gate : ℕ) (old : Disk) (x : List ℕ) → gate < length old.shown → LeavesOnly old old.shown → old.IsImage x → IsOpening gate old.shown x
opens_none gate old x stands only image = opens gate old x stands only (x, image, torn_none gate 1 x)

-- two texts that differ from a third at most at the mark differ from each other at most there
pub same_but : (gate : ℕ) (old x y : List ℕ) → SameBut gate old x → SameBut gate old y → SameBut gate y x
same_but gate old x y from_x from_y =
    from_x ∙ sym (set-set old gate (get_or y gate 0) (get_or x gate 0)) ∙ ap (λ (l : List ℕ). set l gate (get_or x gate 0)) (sym from_y)
