-- How contents stand in memory: each as a file spells it, one after another. This project's own.
use Rattle.std.specs.Prelude.{◌≡◌, ℕ, zero, suc, ◌<◌, ◌≤◌, List, ◌++◌, length, map, drop, slice_index, slice_range}
use Rattle.std.specs.Int.{w16, to_be_bytes}
use Rattle.std.specs.List.{range_with_len}

-- a content as a file spells it: its length in two bytes, the higher first, and its bytes
abbrev pub spelled : List ℕ → List ℕ
spelled content = to_be_bytes w16 (length content) ++ content

-- where the first spellings end, of which there are this number
abbrev pub end_of : List ℕ → ℕ → ℕ
end_of ends zero = 0
end_of ends (suc n) = slice_index ends n

-- the spelling at an index
abbrev pub spelling_at : List ℕ → List ℕ → ℕ → List ℕ
spelling_at ends bytes i = slice_range bytes (end_of ends i) (end_of ends (suc i))

-- the content at an index, which stands behind its length
abbrev pub content_at : List ℕ → List ℕ → ℕ → List ℕ
content_at ends bytes i = drop 2 (spelling_at ends bytes i)

-- all contents in order
abbrev pub contents_of : List ℕ → List ℕ → List (List ℕ)
contents_of ends bytes = map (content_at ends bytes) (range_with_len 0 (length ends))

-- the ends don't fall, the last is the end of the bytes, and between two of them a content is spelled
pub record IsCut (ends bytes : List ℕ) : Type 0 where
  pub rising : (i : ℕ) → i < length ends → end_of ends i ≤ end_of ends (suc i)
  pub whole : end_of ends (length ends) ≡ length bytes
  pub each : (i : ℕ) → i < length ends → spelling_at ends bytes i ≡ spelled (content_at ends bytes i)
