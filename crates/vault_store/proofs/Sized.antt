-- A snapshot behind the head gate, whose length is written last.
use Rattle.std.proofs.Common.{◌≡◌, ℕ, ◌+◌, List, [], ◌∷◌, ◌++◌, length, ◌∙◌, ap, arith, length-append}
use Rattle.vault_device.specs.Disk.{overwritten}
use Rattle.vault_journal.specs.Spelling.{in_four, in_eight}
use Rattle.vault_format.specs.Snapshot.{current_version}
use Rattle.vault_format.specs.Files.{mark, version_number}

module _ (generation : ℕ) (none front items snapshot : List ℕ) (empty : none ≡ []) (is : front ≡ none ++ (mark ++ in_four (version_number current_version) ++ in_eight generation ++ in_four 0)) (behind : items ≡ front ++ snapshot) where
  whole : items ≡ (mark ++ in_four (version_number current_version) ++ in_eight generation ++ in_four 0) ++ snapshot
  whole = behind ∙ ap (λ (l : List ℕ). l ++ snapshot) (is ∙ ap (λ (l : List ℕ). l ++ (mark ++ in_four (version_number current_version) ++ in_eight generation ++ in_four 0)) empty)

  -- how many bytes stand there
  pub unsized_length : length items ≡ 23 + length snapshot
  unsized_length = omega (arith, ap length whole, length-append (mark ++ in_four (version_number current_version) ++ in_eight generation ++ in_four 0) snapshot)

  -- with the length in its place, and a closed tail gate behind all
  pub sized : (count : ℕ) (written all : List ℕ) → count ≡ length snapshot → written ≡ overwritten items 19 (in_four count) → all ≡ written ++ 0 ∷ []
      → all ≡ mark ++ in_four (version_number current_version) ++ in_eight generation ++ (in_four (length snapshot) ++ snapshot) ++ 0 ∷ []
  sized count written all counts is_written ends =
      ends
      ∙ ap (λ (l : List ℕ). l ++ 0 ∷ []) (is_written ∙ ap (λ (l : List ℕ). overwritten l 19 (in_four count)) whole)
      ∙ ap (λ (n : ℕ). overwritten ((mark ++ in_four (version_number current_version) ++ in_eight generation ++ in_four 0) ++ snapshot) 19 (in_four n) ++ 0 ∷ []) counts
