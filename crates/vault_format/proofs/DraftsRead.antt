-- The drafts of a check-out, read one after another.
use Rattle.std.proofs.Common.{◌≡◌, ℕ, ◌+◌, ◌<◌, ◌≤◌, ◌^◌, List, [], ◌∷◌, ◌++◌, length, Option, Some, None, sym, ◌∙◌, ap, subst, arith, append_assoc}
use Rattle.std.specs.List.{flat_map}
use Rattle.vault_state.specs.Limits.{most_drafts}
use Rattle.vault_state.specs.Shelf.{Draft, draft_at}
use Rattle.vault_journal.specs.Laws.{AreBytes, IsInverse}
use Rattle.vault_journal.specs.Reading.{u8_at, u32_at, content_at}
use Rattle.vault_journal.specs.Spelling.{in_four, content_bytes, longest_content}
use Rattle.vault_journal.proofs.Fields.{u32_takes}
use Rattle.vault_journal.proofs.OneSpelling.{fields_are_spelled}
use Rattle.vault_format.specs.Snapshot.{draft_bytes, drafts_bytes}
use Rattle.vault_format.specs.Claims.{HasDraft, IsDraftRead, BeginsWithNoDraft, AreDraftsRead, BeginsWithNoDrafts}
use Rattle.vault_format.proofs.OneReading.{some_pair}
use Rattle.vault_format.proofs.SpelledLists.{draft_tells}
use Rattle.vault_format.proofs.ListsRead.{AreItemsRead, no_item_read, one_item_more, next_item}

-- what is read is the value whose spelling stands there
pub one_read : {X : Type 0} (spell : X → List ℕ) (Has : X → Type 0) (read : List ℕ → Option (X × List ℕ)) → IsInverse spell Has read → (bytes : List ℕ) (x y : X) (a b : List ℕ) → read bytes ≡ Some (x, a) → Has y → bytes ≡ spell y ++ b → (x ≡ y) × (a ≡ b)
one_read spell Has read inverse bytes x y a b got has same = some_pair x y a b (sym got ∙ ap read same ∙ inverse.reads y b has)

pub none_read : {X : Type 0} (spell : X → List ℕ) (Has : X → Type 0) (read : List ℕ → Option (X × List ℕ)) → IsInverse spell Has read → (bytes : List ℕ) (y : X) (b : List ℕ) → read bytes ≡ None → Has y → bytes ≡ spell y ++ b → ⊥
none_read spell Has read inverse bytes y b none has same = let some = ap read same ∙ inverse.reads y b has in cc

-- ---- one draft

module _ (bytes : List ℕ) where
  pub no_place : u32_at bytes ≡ None → BeginsWithNoDraft bytes
  no_place none draft rest has same =
      none_read in_four (λ n. n < 2 ^ 32) u32_at fields_are_spelled.in_four bytes draft.place (content_bytes draft.content ++ rest) none has.place (same ∙ append_assoc (in_four draft.place) (content_bytes draft.content) rest)

  pub no_draft_content : (place : ℕ) (after : List ℕ) → u32_at bytes ≡ Some (place, after) → content_at after ≡ None → BeginsWithNoDraft bytes
  no_draft_content place after got none draft rest has same =
      let numbers = one_read in_four (λ n. n < 2 ^ 32) u32_at fields_are_spelled.in_four bytes place draft.place after (content_bytes draft.content ++ rest) got has.place (same ∙ append_assoc (in_four draft.place) (content_bytes draft.content) rest) in
      none_read content_bytes (λ content. length content ≤ longest_content) content_at fields_are_spelled.content after draft.content rest none has.content numbers.1

  pub draft_read : AreBytes bytes → (place : ℕ) (after content rest : List ℕ) → u32_at bytes ≡ Some (place, after) → content_at after ≡ Some (content, rest) → (old new : List Draft) (given : List ℕ) → new ≡ old ++ draft_at place given ∷ [] → given ≡ content → IsDraftRead old new bytes rest
  draft_read are place after content rest got_place got_content old new given pushed is =
      let here = u32_takes bytes place after are got_place in
      let there = fields_are_spelled.content.spelled after content rest here.0.rest_fits got_content in
      record {
        draft = draft_at place content;
        has = record { place = here.1; content = there.1 };
        pushed = pushed ∙ ap (λ (c : List ℕ). old ++ draft_at place c ∷ []) is;
        spelled = here.0.parts ∙ ap (λ (l : List ℕ). in_four place ++ l) there.0 ∙ sym (append_assoc (in_four place) (content_bytes content) rest);
      }

-- ---- all drafts

-- `n` drafts were read
abbrev pub AreDraftsSoFar : ℕ → List Draft → List ℕ → List ℕ → Type 0
AreDraftsSoFar n drafts bytes rest = AreItemsRead draft_bytes HasDraft drafts n bytes rest

pub no_drafts_yet : (drafts : List Draft) (bytes : List ℕ) → drafts ≡ [] → AreDraftsSoFar 0 drafts bytes bytes
no_drafts_yet drafts bytes empty = subst (λ (ds : List Draft). AreItemsRead draft_bytes HasDraft ds 0 bytes bytes) (sym empty) (no_item_read draft_bytes HasDraft bytes)

pub one_draft_more : (n : ℕ) (old new : List Draft) (bytes rest after : List ℕ) → AreDraftsSoFar n old bytes rest → IsDraftRead old new rest after → AreDraftsSoFar (n + 1) new bytes after
one_draft_more n old new bytes rest after so one =
    subst (λ (ds : List Draft). AreItemsRead draft_bytes HasDraft ds (n + 1) bytes after) (sym one.pushed) (one_item_more draft_bytes HasDraft old n bytes rest after so one.draft one.has one.spelled)

first_byte : (bytes after : List ℕ) (n : ℕ) → u8_at bytes ≡ Some (n, after) → bytes ≡ n ∷ after
first_byte [] after n got = cc
first_byte (b ∷ bytes) after n got = let both = some_pair b n bytes after got in ap (λ (m : ℕ). m ∷ bytes) both.0 ∙ ap (λ (l : List ℕ). n ∷ l) both.1

module _ (bytes : List ℕ) where
  pub no_draft_count : u8_at bytes ≡ None → BeginsWithNoDrafts bytes
  no_draft_count none drafts rest few has same = let some = ap u8_at same in cc

  module _ (count : ℕ) (after : List ℕ) (got : u8_at bytes ≡ Some (count, after)) where
    next_drafts : (drafts : List Draft) (rest : List ℕ) → bytes ≡ drafts_bytes drafts ++ rest → (count ≡ length drafts) × (after ≡ flat_map draft_bytes drafts ++ rest)
    next_drafts drafts rest same = some_pair count (length drafts) after (flat_map draft_bytes drafts ++ rest) (sym got ∙ ap u8_at same)

    pub too_many_drafts : most_drafts < count → BeginsWithNoDrafts bytes
    too_many_drafts many drafts rest few has same = let sizes = (next_drafts drafts rest same).0 in omega (arith, many, few, sizes)

    pub all_drafts : (drafts : List Draft) (rest : List ℕ) → count ≤ most_drafts → AreDraftsSoFar count drafts after rest → AreDraftsRead drafts bytes rest
    all_drafts drafts rest few so = record {
      few = omega (arith, few, so.size);
      each = so.each;
      spelled = first_byte bytes after count got ∙ ap (λ (n : ℕ). n ∷ after) (sym so.size) ∙ ap (λ (l : List ℕ). length drafts ∷ l) so.spelled;
    }

    pub not_all_drafts : (n : ℕ) (drafts : List Draft) (rest : List ℕ) → n < count → AreDraftsSoFar n drafts after rest → BeginsWithNoDraft rest → BeginsWithNoDrafts bytes
    not_all_drafts n drafts rest less so none others behind few has same =
        let both = next_drafts others behind same in
        let next = next_item draft_bytes HasDraft draft_tells drafts n after rest so others behind (omega (arith, less, both.0)) has both.1 in
        none next.here (flat_map draft_bytes next.others ++ behind) next.has next.spelled
