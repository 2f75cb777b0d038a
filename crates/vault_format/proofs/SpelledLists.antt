-- Spellings one after another are of one list only.
use Rattle.std.proofs.Common.{◌≡◌, ℕ, ◌<◌, ◌≤◌, ◌^◌, List, [], ◌∷◌, ◌++◌, length, refl, sym, ◌∙◌, ap, arith, append_assoc, All}
use Rattle.std.specs.List.{flat_map}
use Rattle.std.proofs.lemmas.List.Concat.{flat_map-cons}
use Rattle.std.proofs.lemmas.List.Elements.{All-head, All-tail}
use Rattle.vault_state.specs.Limits.{most_versions}
use Rattle.vault_state.specs.Name.{IsName}
use Rattle.vault_state.specs.Note.{IsNote}
use Rattle.vault_state.specs.Shelf.{draft_at}
use Rattle.vault_journal.specs.Spelling.{in_two, in_four, name_bytes, items_bytes, content_bytes, note_bytes, longest_content, AreItems}
use Rattle.vault_journal.specs.Reading.{u16_at, name_at, items_at, content_at, note_at}
use Rattle.vault_journal.proofs.OneSpelling.{fields_are_spelled}
pub use Rattle.vault_format.specs.Claims.{HasDraft}
use Rattle.vault_format.specs.Snapshot.{versions_bytes, draft_bytes, drafts_bytes}
use Rattle.vault_format.proofs.OneReading.{one_spelled, one_number}

-- a spelling determines what was spelled, whatever stands behind it
abbrev pub Tells : {X : Type 0} → (X → List ℕ) → (X → Type 0) → Type 0
Tells {X} spell Has = (x y : X) (a b : List ℕ) → Has x → Has y → spell x ++ a ≡ spell y ++ b → (x ≡ y) × (a ≡ b)

pub name_tells : Tells name_bytes IsName
name_tells = one_spelled name_bytes IsName name_at fields_are_spelled.name

pub note_tells : Tells note_bytes IsNote
note_tells = one_spelled note_bytes IsNote note_at fields_are_spelled.note

pub items_tell : Tells items_bytes AreItems
items_tell = one_spelled items_bytes AreItems items_at fields_are_spelled.items

abbrev pub IsContent : List ℕ → Type 0
IsContent content = length content ≤ longest_content

pub content_tells : Tells content_bytes IsContent
content_tells = one_spelled content_bytes IsContent content_at fields_are_spelled.content

-- two lists of one length
pub lists_tell : {X : Type 0} (spell : X → List ℕ) (Has : X → Type 0) → Tells spell Has → (xs ys : List X) (a b : List ℕ) → length xs ≡ length ys → All Has xs → All Has ys → flat_map spell xs ++ a ≡ flat_map spell ys ++ b → (xs ≡ ys) × (a ≡ b)
lists_tell spell Has tells [] [] a b size has_xs has_ys same = (refl, same)
lists_tell spell Has tells [] (y ∷ ys) a b size has_xs has_ys same = absurd (omega (arith, size))
lists_tell spell Has tells (x ∷ xs) [] a b size has_xs has_ys same = absurd (omega (arith, size))
lists_tell {X} spell Has tells (x ∷ xs) (y ∷ ys) a b size has_xs has_ys same =
    let first = tells x y (flat_map spell xs ++ a) (flat_map spell ys ++ b) (All-head Has x xs has_xs) (All-head Has y ys has_ys) (sym (split x xs a) ∙ same ∙ split y ys b) in
    let others = lists_tell spell Has tells xs ys a b (omega (arith, size)) (All-tail Has x xs has_xs) (All-tail Has y ys has_ys) first.1 in
    (ap (λ (z : X). z ∷ xs) first.0 ∙ ap (λ (zs : List X). y ∷ zs) others.0, others.1)
  where
    split : (z : X) (zs : List X) (c : List ℕ) → flat_map spell (z ∷ zs) ++ c ≡ spell z ++ (flat_map spell zs ++ c)
    split z zs c = ap (λ (l : List ℕ). l ++ c) (flat_map-cons spell z zs) ∙ append_assoc (spell z) (flat_map spell zs) c

-- the versions of a part
pub record AreContents (versions : List (List ℕ)) : Type 0 where
  pub few : length versions ≤ most_versions
  pub short : All IsContent versions

pub versions_tell : Tells versions_bytes AreContents
versions_tell xs ys a b has_xs has_ys same =
    let whole = sym (append_assoc (in_two (length xs)) (flat_map content_bytes xs) a) ∙ same ∙ append_assoc (in_two (length ys)) (flat_map content_bytes ys) b in
    let sizes = one_spelled in_two (λ n. n < 2 ^ 16) u16_at fields_are_spelled.in_two (length xs) (length ys) (flat_map content_bytes xs ++ a) (flat_map content_bytes ys ++ b) (omega (arith, has_xs.few)) (omega (arith, has_ys.few)) whole in
    lists_tell content_bytes IsContent content_tells xs ys a b sizes.0 has_xs.short has_ys.short sizes.1

-- a draft
pub draft_tells : Tells draft_bytes HasDraft
draft_tells x y a b has_x has_y same =
    let whole = sym (append_assoc (in_four x.place) (content_bytes x.content) a) ∙ same ∙ append_assoc (in_four y.place) (content_bytes y.content) b in
    let places = one_number x.place y.place (content_bytes x.content ++ a) (content_bytes y.content ++ b) has_x.place has_y.place whole in
    let contents = content_tells x.content y.content a b has_x.content has_y.content places.1 in
    (λ i. draft_at (places.0 i) (contents.0 i), contents.1)

pub drafts_tell : Tells drafts_bytes (λ drafts. All HasDraft drafts)
drafts_tell xs ys a b has_xs has_ys same =
    let size : length xs ≡ length ys = cc in
    let behind : flat_map draft_bytes xs ++ a ≡ flat_map draft_bytes ys ++ b = cc in
    lists_tell draft_bytes HasDraft draft_tells xs ys a b size has_xs has_ys behind
