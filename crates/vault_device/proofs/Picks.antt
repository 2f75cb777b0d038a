-- What a crash of a disk in memory leaves, byte by byte.
use Rattle.std.proofs.Common.{◌≡◌, ◌⊎◌, inl, inr, refl, sym, ◌∙◌, ap, ℕ, ◌+◌, ◌-◌, ◌<◌, ◌≤◌, min, List, [], ◌∷◌, ◌++◌, length, get_or, take, drop, replicate, arith, length-append, length-drop, eq-eqb}
use Rattle.std.proofs.lemmas.List.{length-take, length-replicate, get_or_append_left, get_or-append_right, get_or-replicate, get_or_past}
use Rattle.std.proofs.lemmas.Bool.{cases_lt, eqb-true}
use Rattle.vault_device.specs.Disk.{overwritten}
use Rattle.vault_device.specs.declared.history.Event.TheVariants.{Wrote, Synced, Crashed}
use Rattle.vault_device.specs.declared.history.Pick.TheVariants.{Old, New, Bytes}
use Rattle.vault_device.specs.Memory.{Event, content_of}
use Rattle.vault_device.specs.MemoryLaws.{torn_whole}
use Rattle.vault_device.specs.Picks.{FilledOrSettled, PicksDecide}

module _ (old : List ℕ) (at : ℕ) (bytes : List ℕ) where
  front : length (take at old ++ bytes) ≡ min at (length old) + length bytes
  front = length-append (take at old) bytes ∙ ap (λ (n : ℕ). n + length bytes) (length-take at old)

  -- how long a write leaves it, also one that begins past the end and so is put at the end
  overwritten_length : length (overwritten old at bytes) ≡ min at (length old) + length bytes + (length old - (at + length bytes))
  overwritten_length = omega (arith, length-append (take at old ++ bytes) (drop (at + length bytes) old), front, length-drop (at + length bytes) old)

  -- what stands before the written bytes is as it was
  before_written : (i : ℕ) → i < min at (length old) → get_or (overwritten old at bytes) i 0 ≡ get_or old i 0
  before_written i below = (torn_whole at bytes old).before i (omega arith) (omega arith)

  -- and so is what stands behind them
  behind_written : (i : ℕ) → min at (length old) + length bytes ≤ i → get_or (overwritten old at bytes) i 0 ≡ get_or old i 0
  behind_written i above = elim (cases_lt i (length old)) [
    | inl inside ↦ (torn_whole at bytes old).behind i inside (omega arith)
    | inr past ↦ get_or_past (overwritten old at bytes) i 0 (omega (arith, overwritten_length)) ∙ sym (get_or_past old i 0 past)
  ]

  -- the written bytes stand there
  in_written : (i : ℕ) → min at (length old) ≤ i → i < min at (length old) + length bytes → get_or (overwritten old at bytes) i 0 ≡ get_or bytes (i - min at (length old)) 0
  in_written i above below =
      get_or_append_left (take at old ++ bytes) (drop (at + length bytes) old) 0 i (omega (arith, front))
      ∙ get_or-append_right (take at old) bytes (min at (length old)) i 0 (length-take at old) above

-- one write fills the byte, or two contents of one length keep what they have there
one_write : (filled shown : List ℕ) (at b : ℕ) (bytes : List ℕ) (i : ℕ) → length filled ≡ length shown
    → (get_or (overwritten filled at (replicate (length bytes) b)) i 0 ≡ b)
    ⊎ ((get_or (overwritten filled at (replicate (length bytes) b)) i 0 ≡ get_or filled i 0) × (get_or (overwritten shown at bytes) i 0 ≡ get_or shown i 0))
one_write filled shown at b bytes i same = elim (cases_lt i (min at (length filled))) [
  | inl before ↦ inr (before_written filled at fill i before, before_written shown at bytes i (omega (arith, same)))
  | inr from ↦ elim (cases_lt i (min at (length filled) + length fill)) [
    | inl within ↦ inl (in_written filled at fill i from within ∙ get_or-replicate (length bytes) (i - min at (length filled)) b 0 (omega (arith, size)))
    | inr behind ↦ inr (behind_written filled at fill i behind, behind_written shown at bytes i (omega (arith, same, size)))
  ]
]
  where
    fill : List ℕ
    fill = replicate (length bytes) b

    size : length fill ≡ length bytes
    size = length-replicate (length bytes) b

-- writes of one length keep two contents of one length so
as_long : (old other : List ℕ) (at : ℕ) (fill bytes : List ℕ) → length old ≡ length other → length fill ≡ length bytes → length (overwritten old at fill) ≡ length (overwritten other at bytes)
as_long old other at fill bytes same size = omega (arith, overwritten_length old at fill, overwritten_length other at bytes, same, size)

same_length : (events : List Event) (b : ℕ) → length ((content_of events).filled b) ≡ length (content_of events).shown
same_length [] b = refl
same_length (Wrote at bytes ∷ earlier) b = as_long ((content_of earlier).filled b) (content_of earlier).shown at _ bytes (same_length earlier b) (length-replicate (length bytes) _)
same_length (Synced ∷ earlier) b = refl
same_length (Crashed pick ∷ earlier) b = refl

pub filled_or_settled : FilledOrSettled
filled_or_settled [] b i = inr (refl, refl)
filled_or_settled (Synced ∷ earlier) b i = inr (refl, refl)
filled_or_settled (Crashed pick ∷ earlier) b i = inr (refl, refl)
filled_or_settled (Wrote at bytes ∷ earlier) b i = elim (one_write ((content_of earlier).filled b) (content_of earlier).shown at b bytes i (same_length earlier b)) [
  | inl here ↦ inl here
  | inr kept ↦ elim (filled_or_settled earlier b i) [
    | inl filled ↦ inl (kept.0 ∙ filled)
    | inr settled ↦ inr (kept.0 ∙ settled.0, kept.1 ∙ settled.1)
  ]
]

pub picks_decide : PicksDecide
picks_decide events i shown unsettled Old = (λ one. absurd (unsettled one), λ no. absurd (cc))
picks_decide events i shown unsettled New = (λ one. refl, λ yes. shown)
picks_decide events i shown unsettled (Bytes b) = elim (filled_or_settled events b i) [
  | inl filled ↦ (λ one. eq-eqb b 1 (sym filled ∙ one), λ is. filled ∙ eqb-true b 1 is)
  | inr settled ↦ absurd (unsettled (sym settled.1 ∙ shown))
]
