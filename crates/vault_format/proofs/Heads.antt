-- The head of a file, byte for byte.
use Rattle.std.proofs.Common.{◌≡◌, ℕ, suc, ◌+◌, ◌<◌, ◌≤◌, ◌^◌, List, [], ◌∷◌, ◌++◌, length, get_or, take, drop, refl, sym, ◌∙◌, ap, arith, length-drop, ◌-◌}
use Rattle.std.specs.Prelude.{slice_range}
use Rattle.std.specs.Int.{w32, w64, from_be_bytes}
use Rattle.std.proofs.lemmas.List.{drop_more, take_all, take_at}
use Rattle.std.proofs.lemmas.List.Folds.{drop_split}
use Rattle.std.proofs.lemmas.Nat.{be_bytes_4, be_bytes_8}
use Rattle.vault_journal.specs.Laws.{AreBytes}
use Rattle.vault_journal.specs.Spelling.{in_four, in_eight}
use Rattle.vault_journal.proofs.Takes.{AreBytes-take, AreBytes-drop}
use Rattle.vault_format.specs.declared.version.FileVersion.{FileVersion}
use Rattle.vault_format.specs.Files.{head_length, mark, version_number, head_of, HasHead}

-- one byte of a range, and the others
next_byte : (bytes : List ℕ) (i n : ℕ) → i < length bytes → take (suc n) (drop i bytes) ≡ get_or bytes i 0 ∷ take n (drop (i + 1) bytes)
next_byte bytes i n lt = ap (λ (l : List ℕ). take (suc n) l) (drop_more bytes i 0 lt)

range_fits : (bytes : List ℕ) (i j : ℕ) → AreBytes bytes → AreBytes (slice_range bytes i j)
range_fits bytes i j fits = AreBytes-take (j - i) (drop i bytes) (AreBytes-drop i bytes fits)

-- the number of a range of four bytes is spelled by them
pub four_spelled : (bytes : List ℕ) (n : ℕ) → length bytes ≡ 4 → AreBytes bytes → n ≡ from_be_bytes w32 bytes → bytes ≡ in_four n
four_spelled bytes n size fits is = sym (be_bytes_4 bytes n size fits is)

module _ (bytes : List ℕ) (size : length bytes ≡ 24) (fits : AreBytes bytes) where
  abbrev pub eight : List ℕ
  eight = get_or bytes 12 0 ∷ get_or bytes 13 0 ∷ get_or bytes 14 0 ∷ get_or bytes 15 0 ∷ get_or bytes 16 0 ∷ get_or bytes 17 0 ∷ get_or bytes 18 0 ∷ get_or bytes 19 0 ∷ []

  eight_is : slice_range bytes 12 20 ≡ eight
  eight_is =
      next_byte bytes 12 7 (omega arith) ∙ ap (λ (l : List ℕ). get_or bytes 12 0 ∷ l) (next_byte bytes 13 6 (omega arith)
      ∙ ap (λ (l : List ℕ). get_or bytes 13 0 ∷ l) (next_byte bytes 14 5 (omega arith)
      ∙ ap (λ (l : List ℕ). get_or bytes 14 0 ∷ l) (next_byte bytes 15 4 (omega arith)
      ∙ ap (λ (l : List ℕ). get_or bytes 15 0 ∷ l) (next_byte bytes 16 3 (omega arith)
      ∙ ap (λ (l : List ℕ). get_or bytes 16 0 ∷ l) (next_byte bytes 17 2 (omega arith)
      ∙ ap (λ (l : List ℕ). get_or bytes 17 0 ∷ l) (next_byte bytes 18 1 (omega arith)
      ∙ ap (λ (l : List ℕ). get_or bytes 18 0 ∷ l) (next_byte bytes 19 0 (omega arith))))))))

  -- the generation is spelled there
  pub generation_spelled : (g : ℕ) → g ≡ from_be_bytes w64 eight → slice_range bytes 12 20 ≡ in_eight g
  generation_spelled g is = sym (be_bytes_8 (slice_range bytes 12 20) g (ap length eight_is) (range_fits bytes 12 20 fits) (is ∙ ap (from_be_bytes w64) (sym eight_is)))

  whole : bytes ≡ get_or bytes 0 0 ∷ (slice_range bytes 1 8 ++ (slice_range bytes 8 12 ++ (slice_range bytes 12 20 ++ slice_range bytes 20 24)))
  whole =
      drop_more bytes 0 0 (omega arith) ∙ ap (λ (l : List ℕ). get_or bytes 0 0 ∷ l) (drop_split bytes 1 8 (omega arith)
      ∙ ap (λ (l : List ℕ). slice_range bytes 1 8 ++ l) (drop_split bytes 8 12 (omega arith)
      ∙ ap (λ (l : List ℕ). slice_range bytes 8 12 ++ l) (drop_split bytes 12 20 (omega arith)
      ∙ ap (λ (l : List ℕ). slice_range bytes 12 20 ++ l) (sym (take_all 4 (drop 20 bytes) (omega (arith, length-drop 20 bytes)))))))

  pub right_head : (v : FileVersion) (g : ℕ) → get_or bytes 0 0 ≡ 1 → slice_range bytes 1 8 ≡ mark → slice_range bytes 8 12 ≡ in_four (version_number v) → g ≡ from_be_bytes w64 eight → 1 ≤ g → g < 2 ^ 64 → HasHead v g bytes
  right_head v g opened mark_is version_is generation_is given g_fits = record {
    long = omega (arith, size);
    head = ap (λ (l : List ℕ). take head_length l) parts ∙ take_at (head_of v g) rest head_length refl;
    given = given;
    fits = g_fits;
  }
    where
      rest : List ℕ
      rest = slice_range bytes 20 24

      parts : bytes ≡ head_of v g ++ rest
      parts =
          whole ∙ ap (λ (b : ℕ). b ∷ (slice_range bytes 1 8 ++ (slice_range bytes 8 12 ++ (slice_range bytes 12 20 ++ rest)))) opened
          ∙ ap (λ (l : List ℕ). 1 ∷ (l ++ (slice_range bytes 8 12 ++ (slice_range bytes 12 20 ++ rest)))) mark_is
          ∙ ap (λ (l : List ℕ). 1 ∷ (mark ++ (l ++ (slice_range bytes 12 20 ++ rest)))) version_is
          ∙ ap (λ (l : List ℕ). 1 ∷ (mark ++ (in_four (version_number v) ++ (l ++ rest)))) (generation_spelled g generation_is)
