-- The laws of a device hold of a disk in memory.
use Rattle.std.specs.Prelude.{◌≡◌, ℕ, ◌+◌, ◌-◌, List, [], ◌∷◌, ◌++◌, length, take, drop, true}
use Rattle.std.proofs.Common.{get_or, refl, inl, inr, ◌∙◌, ap, arith, length-append, length-drop}
use Rattle.std.proofs.lemmas.List.{length-take, get_or-take, get_or_append_left, get_or-append_right, get_or-drop}
use Rattle.vault_device.specs.Disk.{Disk, IsLawful, IsTorn, overwritten}
use Rattle.vault_device.specs.declared.history.Event.TheVariants.{Wrote, Synced, Crashed}
use Rattle.vault_device.specs.Memory.{Event, content_of, IsImageOf, WasImageOf}

-- what a memory shows as a device
abbrev pub memory_disk : List Event → ℕ → ℕ → Disk
memory_disk events calls faults = record {
  honest = true;
  shown = (content_of events).shown;
  settled = (content_of events).settled;
  IsImage = IsImageOf events;
  moment = length events;
  WasImage = λ t x. WasImageOf events t x;
  calls = calls;
  faults = faults;
}

-- a whole write is a torn one
pub torn_whole : (at : ℕ) (bytes old : List ℕ) → IsTorn at (length bytes) old (overwritten old at bytes)
torn_whole at bytes old = record {
  no_shorter = omega (arith, long, length-take at old, length-drop (at + length bytes) old);
  no_longer = omega (arith, long, length-take at old, length-drop (at + length bytes) old);
  before = λ i within below.
      get_or_append_left (take at old ++ bytes) (drop (at + length bytes) old) 0 i
      (omega (arith, length-append (take at old) bytes, length-take at old))
      ∙ get_or_append_left (take at old) bytes 0 i (omega (arith, length-take at old))
      ∙ get_or-take at old i 0 below;
  behind = λ i within above.
      let back : at + length bytes + (i - (at + length bytes)) ≡ i = omega arith in
      get_or-append_right (take at old ++ bytes) (drop (at + length bytes) old) (at + length bytes) i 0
      (omega (arith, length-append (take at old) bytes, length-take at old)) above
      ∙ get_or-drop (at + length bytes) old (i - (at + length bytes)) 0
      ∙ ap (λ (k : ℕ). get_or old k 0) back;
}
  where
    long : length (overwritten old at bytes) ≡ length (take at old) + length bytes + length (drop (at + length bytes) old)
    long = length-append (take at old ++ bytes) (drop (at + length bytes) old)
        ∙ ap (λ (k : ℕ). k + length (drop (at + length bytes) old)) (length-append (take at old) bytes)

pub image_shown : (events : List Event) → IsImageOf events (content_of events).shown
image_shown [] = refl
image_shown (Wrote at bytes ∷ earlier) = ((content_of earlier).shown, image_shown earlier, torn_whole at bytes (content_of earlier).shown)
image_shown (Synced ∷ earlier) = refl
image_shown (Crashed pick ∷ earlier) = refl

was_now : (events : List Event) (t : ℕ) (x : List ℕ) → IsImageOf events x → WasImageOf events t x
was_now [] t x image = image
was_now (event ∷ earlier) t x image = inl image

only_now : (events : List Event) (x : List ℕ) → WasImageOf events (length events) x → IsImageOf events x
only_now [] x was = was
only_now (event ∷ earlier) x (inl now) = now
only_now (event ∷ earlier) x (inr past) = absurd (omega (arith, past.0))

pub memory_lawful : (events : List Event) (calls faults : ℕ) → IsLawful (memory_disk events calls faults)
memory_lawful events calls faults = record {
  read = image_shown events;
  now = λ t x le image. was_now events t x image;
  only_now = λ x was. only_now events x was;
}
