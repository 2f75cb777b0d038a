-- The versions of a part, read one after another.
use Rattle.std.proofs.Common.{◌≡◌, ℕ, ◌+◌, ◌<◌, ◌≤◌, ◌^◌, false, List, [], ◌∷◌, ◌++◌, length, Some, None, refl, sym, ◌∙◌, ap, subst, arith, append_assoc, All}
use Rattle.std.specs.List.{flat_map}
use Rattle.std.proofs.lemmas.List.{length-append}
use Rattle.vault_state.specs.Limits.{most_versions}
use Rattle.vault_state.specs.Shelf.{Draft, versions_of, shelved, shelved_all, is_shelvable, IsShelf, draft_at}
use Rattle.vault_state.proofs.Lists.{All-front, All-back}
use Rattle.vault_journal.specs.Laws.{AreBytes}
use Rattle.vault_journal.specs.Reading.{u16_at, content_at}
use Rattle.vault_journal.specs.Spelling.{in_two, content_bytes}
use Rattle.vault_journal.proofs.OneSpelling.{fields_are_spelled}
use Rattle.vault_format.specs.Snapshot.{versions_bytes}
use Rattle.vault_format.specs.Places.{IsFrontOf, shelf_with, IsVersionRead, BeginsWithNoVersion, AreVersionsRead, BeginsWithNoVersions}
use Rattle.vault_format.proofs.OneReading.{one_spelled}
use Rattle.vault_format.proofs.SpelledLists.{IsContent, content_tells}
use Rattle.vault_format.proofs.Spelled.{contents_of}
use Rattle.vault_format.proofs.ListsRead.{AreItemsRead, no_item_read, one_item_more, next_item}
use Rattle.vault_format.proofs.ShelfFronts.{next_short, next_shelvable, shelf_with-append, versions_of-shelf_with, shorter_front}

-- ---- one version

module _ (part : ℕ) (shelf : List (List (List ℕ))) (bytes : List ℕ) where
  pub no_content : content_at bytes ≡ None → BeginsWithNoVersion part shelf bytes
  no_content none content whole rest is front same =
      let there = ap content_at same ∙ fields_are_spelled.content.reads content rest (next_short shelf whole part content is front) in
      cc

  pub no_shelving : AreBytes bytes → (content rest : List ℕ) → content_at bytes ≡ Some (content, rest) → (drafts : List Draft) → drafts ≡ draft_at part content ∷ [] → is_shelvable shelf drafts ≡ false → BeginsWithNoVersion part shelf bytes
  no_shelving are content rest read drafts is refused other whole behind is_shelf front same =
      let here = fields_are_spelled.content.spelled bytes content rest are read in
      let both = content_tells content other rest behind here.1 (next_short shelf whole part other is_shelf front) (sym here.0 ∙ same) in
      let fits = next_shelvable shelf whole part other is_shelf front in
      let unfit : is_shelvable shelf (draft_at part other ∷ []) ≡ false =
      ap (λ (c : List ℕ). is_shelvable shelf (draft_at part c ∷ [])) (sym both.0) ∙ ap (is_shelvable shelf) (sym is) ∙ refused in
      cc

  pub version_read : AreBytes bytes → (new : List (List (List ℕ))) (content rest : List ℕ) → content_at bytes ≡ Some (content, rest) → (drafts : List Draft) → drafts ≡ draft_at part content ∷ [] → new ≡ shelved_all shelf drafts → IsVersionRead part shelf new bytes rest
  version_read are new content rest read drafts is appended =
      let here = fields_are_spelled.content.spelled bytes content rest are read in
      record { content = content; short = here.1; spelled = here.0; shelf_is = appended ∙ ap (shelved_all shelf) is }

-- ---- all versions

-- `n` versions were read
pub record AreReadSo (n part : ℕ) (old new : List (List (List ℕ))) (bytes rest : List ℕ) : Type 0 where
  pub contents : List (List ℕ)
  pub read : AreItemsRead content_bytes IsContent contents n bytes rest
  pub shelf_is : new ≡ shelf_with old part contents
  pub well_formed : IsShelf new

pub none_read : (part : ℕ) (shelf : List (List (List ℕ))) (bytes : List ℕ) → IsShelf shelf → AreReadSo 0 part shelf shelf bytes bytes
none_read part shelf bytes is = record { contents = []; read = no_item_read content_bytes IsContent bytes; shelf_is = refl; well_formed = is }

pub one_more_read : (n part : ℕ) (old now new : List (List (List ℕ))) (bytes rest after : List ℕ) → AreReadSo n part old now bytes rest → IsVersionRead part now new rest after → IsShelf new → AreReadSo (n + 1) part old new bytes after
one_more_read n part old now new bytes rest after so one is = record {
  contents = so.contents ++ one.content ∷ [];
  read = one_item_more content_bytes IsContent so.contents n bytes rest after so.read one.content one.short one.spelled;
  shelf_is = one.shelf_is ∙ ap (λ (s : List (List (List ℕ))). shelved s part one.content) so.shelf_is ∙ sym (shelf_with-append old part so.contents (one.content ∷ []));
  well_formed = is;
}

module _ (part : ℕ) (old : List (List (List ℕ))) (bytes : List ℕ) where
  -- what a well-formed shelf may have as next versions
  module _ (contents : List (List ℕ)) (whole : List (List (List ℕ))) (is : IsShelf whole) (front : IsFrontOf (shelf_with old part contents) whole) where
    versions : versions_of whole part ≡ (versions_of old part ++ contents) ++ (front part).0
    versions = (front part).1 ∙ ap (λ (l : List (List ℕ)). l ++ (front part).0) (versions_of-shelf_with old part contents)

    few_contents : length contents ≤ most_versions
    few_contents = omega (arith, (contents_of whole is part).few, ap length versions, length-append (versions_of old part ++ contents) (front part).0, length-append (versions_of old part) contents)

    short_contents : All IsContent contents
    short_contents =
        All-back IsContent (versions_of old part) contents (All-front IsContent (versions_of old part ++ contents) (front part).0 (subst (λ (l : List (List ℕ)). All IsContent l) versions (contents_of whole is part).short))

    next_contents : (after rest : List ℕ) (count : ℕ) → AreBytes bytes → u16_at bytes ≡ Some (count, after) → bytes ≡ versions_bytes contents ++ rest → (count ≡ length contents) × (after ≡ flat_map content_bytes contents ++ rest)
    next_contents after rest count are read same =
        let here = fields_are_spelled.in_two.spelled bytes count after are read in
        one_spelled in_two (λ n. n < 2 ^ 16) u16_at fields_are_spelled.in_two count (length contents) after (flat_map content_bytes contents ++ rest) here.1 (omega (arith, few_contents)) (sym here.0 ∙ same ∙ append_assoc (in_two (length contents)) (flat_map content_bytes contents) rest)

  pub no_count : u16_at bytes ≡ None → BeginsWithNoVersions part old bytes
  no_count none contents whole rest is front same =
      let there =
      ap u16_at (same ∙ append_assoc (in_two (length contents)) (flat_map content_bytes contents) rest)
      ∙ fields_are_spelled.in_two.reads (length contents) (flat_map content_bytes contents ++ rest) (omega (arith, few_contents contents whole is front)) in
      cc

  pub all_read : (new : List (List (List ℕ))) (after rest : List ℕ) (count : ℕ) → AreBytes bytes → u16_at bytes ≡ Some (count, after) → AreReadSo count part old new after rest → AreVersionsRead part old new bytes rest
  all_read new after rest count are read so =
      let here = fields_are_spelled.in_two.spelled bytes count after are read in
      record {
        contents = so.contents;
        short = so.read.each;
        spelled =
            here.0 ∙ ap (λ (l : List ℕ). in_two count ++ l) so.read.spelled ∙ ap (λ (n : ℕ). in_two n ++ (flat_map content_bytes so.contents ++ rest)) (sym so.read.size)
            ∙ sym (append_assoc (in_two (length so.contents)) (flat_map content_bytes so.contents) rest);
        shelf_is = so.shelf_is;
        well_formed = so.well_formed;
      }

  pub not_all_read : (now : List (List (List ℕ))) (after rest : List ℕ) (count n : ℕ) → AreBytes bytes → u16_at bytes ≡ Some (count, after) → n < count → AreReadSo n part old now after rest → BeginsWithNoVersion part now rest → BeginsWithNoVersions part old bytes
  not_all_read now after rest count n are read within so none contents whole behind is front same =
      let first = next_contents contents whole is front after behind count are read same in
      let next = next_item content_bytes IsContent content_tells so.contents n after rest so.read contents behind (omega (arith, within, first.0)) (short_contents contents whole is front) first.1 in
      let parts : contents ≡ (so.contents ++ next.here ∷ []) ++ next.others = next.parts ∙ sym (append_assoc so.contents (next.here ∷ []) next.others) in
      let fewer = shorter_front old whole part (so.contents ++ next.here ∷ []) next.others (subst (λ (l : List (List ℕ)). IsFrontOf (shelf_with old part l) whole) parts front) in
      let shelf_is : shelf_with old part (so.contents ++ next.here ∷ []) ≡ shelved now part next.here =
      shelf_with-append old part so.contents (next.here ∷ []) ∙ ap (λ (s : List (List (List ℕ))). shelved s part next.here) (sym so.shelf_is) in
      none next.here whole (flat_map content_bytes next.others ++ behind) is (subst (λ (s : List (List (List ℕ))). IsFrontOf s whole) shelf_is fewer) next.spelled
