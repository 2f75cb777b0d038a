-- What a connection hands on of what its stream gave.
use Rattle.std.proofs.Common.{◌≡◌, ℕ, ◌<◌, ◌≤◌, ◌⊎◌, List, [], ◌++◌, length, take, Option, Some, None, ap, ◌∙◌, inl, inr, arith}
use Rattle.std.specs.Option.{option_map}
use Rattle.std.specs.Io.KnownBytes.{Consumes, IsAtEnd}
use Rattle.std.proofs.lemmas.Bool.{cases_lt}
use Rattle.std.proofs.lemmas.List.{length-take-le, take-take}
use Rattle.first_line.specs.declared.line.FirstLine.{FirstLine}
use Rattle.first_line.specs.Own.{own_part}

module _ (first next : FirstLine) (count own : ℕ) (buf : List ℕ) (inside : count ≤ length buf) (few : own ≤ length (take count buf))
    (is : (more : List ℕ) → own_part first (take count buf ++ more) ≡ take own (take count buf) ++ own_part next more)
    (cut : own < length (take count buf) → (more : List ℕ) → own_part next more ≡ []) where
  fronts : take own (take count buf) ≡ take own buf
  fronts = take-take own count buf (omega (arith, few, length-take-le count buf inside))

  -- nothing is left behind the end, or behind what shows another protocol
  ended : (new : Option (List ℕ)) → (count ≡ 0 → 0 < length buf → IsAtEnd new) → own ≡ 0 → 0 < length buf → IsAtEnd (option_map (own_part next) new)
  ended None end none room = tt
  ended (Some ys) end none room = by_count (cases_lt own (length (take count buf)))
    where
      by_count : (own < length (take count buf)) ⊎ (length (take count buf) ≤ own) → own_part next ys ≡ []
      by_count (inl short) = cut short ys
      by_count (inr all) =
          let size = length-take-le count buf inside in
          let left : ys ≡ [] = end (omega (arith, size, all, none)) room in
          ap (own_part next) left

  pub handed_on : (old new : Option (List ℕ)) → Consumes old new (take count buf) × (count ≡ 0 → 0 < length buf → IsAtEnd new)
      → Consumes (option_map (own_part first) old) (option_map (own_part next) new) (take own buf) × (own ≡ 0 → 0 < length buf → IsAtEnd (option_map (own_part next) new))
  handed_on None new read = (tt, ended new read.1)
  handed_on (Some xs) None read = absurd (read.0)
  handed_on (Some xs) (Some ys) read = (ap (own_part first) read.0 ∙ is ys ∙ ap (λ l. l ++ own_part next ys) fronts, ended (Some ys) read.1)
