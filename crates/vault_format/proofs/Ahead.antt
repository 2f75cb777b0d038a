-- The fields of the place in front, and what they say of a place that may stand there.
use Rattle.std.proofs.Common.{◌≡◌, ◌≢◌, ℕ, suc, ◌+◌, ◌<◌, ◌^◌, ◌==◌, Bool, true, false, not, List, [], ◌∷◌, ◌++◌, length, Option, Some, None, refl, sym, ◌∙◌, ap, subst, arith, append_assoc, All, inl, inr}
use Rattle.std.specs.List.{flat_map}
use Rattle.std.specs.Prelude.{IfSome}
use Rattle.std.specs.Option.{is_some}
use Rattle.std.proofs.lemmas.Bool.Decides.{eqb_tells}
use Rattle.std.proofs.lemmas.List.Elements.{All-nil}
use Rattle.vault_state.specs.declared.place.Place.{Place}
use Rattle.vault_state.specs.Name.{IsName}
use Rattle.vault_state.specs.Tree.{is_part, IsTree}
use Rattle.vault_state.specs.Shelf.{versions_of}
use Rattle.vault_journal.specs.Laws.{AreBytes}
use Rattle.vault_journal.specs.Reading.{u8_at, u16_at, u32_at, name_at, content_at}
use Rattle.vault_journal.specs.Spelling.{in_two, in_four, name_bytes, content_bytes}
use Rattle.vault_journal.proofs.Fields.{u32_takes}
use Rattle.vault_journal.proofs.OneSpelling.{fields_are_spelled}
use Rattle.vault_format.specs.Snapshot.{current_version, versions_bytes, versions_field, kind_byte, place_bytes}
use Rattle.vault_format.specs.Places.{vault_with, ArePlaces, AreContentsAt, BeginsWithFewerContents, PlaceFields, AreFields, fields_bytes, AreFieldsAt, BeginsWithNoFields, BeginsWithNoPlace}
use Rattle.vault_format.proofs.OneReading.{some_pair, one_number, one_spelled}
use Rattle.vault_format.proofs.SpelledLists.{IsContent, name_tells, content_tells, lists_tell}
use Rattle.vault_format.proofs.Spelled.{contents_of}
use Rattle.vault_format.proofs.ListsRead.{AreItemsRead, no_item_read, one_item_more, next_item, all_next}
use Rattle.vault_format.proofs.DraftsRead.{one_read, none_read}
use Rattle.vault_format.proofs.PlaceRead.{bytes_behind}
use Rattle.vault_format.proofs.TreeFronts.{tree_front, last_parent}

-- ---- the versions of a part

as_items : (count : ℕ) (bytes rest : List ℕ) → (at : AreContentsAt count bytes rest) → AreItemsRead content_bytes IsContent at.contents count bytes rest
as_items count bytes rest at = record { size = at.size; each = at.short; spelled = at.spelled }

pub no_contents : (bytes : List ℕ) → AreContentsAt 0 bytes bytes
no_contents bytes = let none = no_item_read content_bytes IsContent bytes in record { contents = []; size = none.size; short = none.each; spelled = none.spelled }

module _ (n : ℕ) (bytes rest : List ℕ) (so : AreContentsAt n bytes rest) where
  pub contents_more : AreBytes bytes → (content after : List ℕ) → content_at rest ≡ Some (content, after) → AreContentsAt (n + 1) bytes after
  contents_more are content after got =
      let here = fields_are_spelled.content.spelled rest content after (bytes_behind (flat_map content_bytes so.contents) rest (subst AreBytes so.spelled are)) got in
      let more = one_item_more content_bytes IsContent so.contents n bytes rest after (as_items n bytes rest so) content here.1 here.0 in
      record { contents = so.contents ++ content ∷ []; size = more.size; short = more.each; spelled = more.spelled }

  pub fewer_contents : (count : ℕ) → n < count → content_at rest ≡ None → BeginsWithFewerContents count bytes
  fewer_contents count within none behind all =
      let next = next_item content_bytes IsContent content_tells so.contents n bytes rest (as_items n bytes rest so) all.contents behind (omega (arith, within, all.size)) all.short all.spelled in
      none_read content_bytes IsContent content_at fields_are_spelled.content rest next.here (flat_map content_bytes next.others ++ behind) none next.has next.spelled

-- ---- the fields, one behind another

module _ (fields : PlaceFields) (rest : List ℕ) where
  abbrev behind_kind : List ℕ
  behind_kind = versions_field (fields.kind == kind_byte true) fields.contents ++ rest

  abbrev behind_name : List ℕ
  behind_name = fields.kind ∷ behind_kind

  abbrev behind_parent : List ℕ
  behind_parent = name_bytes fields.name ++ behind_name

  parted : fields_bytes fields ++ rest ≡ in_four fields.parent ++ behind_parent
  parted =
      append_assoc (in_four fields.parent) (name_bytes fields.name ++ fields.kind ∷ versions_field (fields.kind == kind_byte true) fields.contents) rest
      ∙ ap (λ (l : List ℕ). in_four fields.parent ++ l) (append_assoc (name_bytes fields.name) (fields.kind ∷ versions_field (fields.kind == kind_byte true) fields.contents) rest)

module _ (bytes : List ℕ) where
  pub no_parent_field : u32_at bytes ≡ None → BeginsWithNoFields bytes
  no_parent_field none rest at =
      none_read in_four (λ n. n < 2 ^ 32) u32_at fields_are_spelled.in_four bytes at.fields.parent (behind_parent at.fields rest) none at.are.parent (at.spelled ∙ parted at.fields rest)

  module _ (parent : ℕ) (after : List ℕ) (got_parent : u32_at bytes ≡ Some (parent, after)) where
    first : (rest : List ℕ) → (at : AreFieldsAt bytes rest) → (parent ≡ at.fields.parent) × (after ≡ behind_parent at.fields rest)
    first rest at =
        one_read in_four (λ n. n < 2 ^ 32) u32_at fields_are_spelled.in_four bytes parent at.fields.parent after (behind_parent at.fields rest) got_parent at.are.parent (at.spelled ∙ parted at.fields rest)

    pub no_name_field : name_at after ≡ None → BeginsWithNoFields bytes
    no_name_field none rest at = none_read name_bytes IsName name_at fields_are_spelled.name after at.fields.name (behind_name at.fields rest) none at.are.named (first rest at).1

    module _ (name behind : List ℕ) (got_name : name_at after ≡ Some (name, behind)) where
      second : (rest : List ℕ) → (at : AreFieldsAt bytes rest) → (name ≡ at.fields.name) × (behind ≡ behind_name at.fields rest)
      second rest at = one_read name_bytes IsName name_at fields_are_spelled.name after name at.fields.name behind (behind_name at.fields rest) got_name at.are.named (first rest at).1

      pub no_kind_field : u8_at behind ≡ None → BeginsWithNoFields bytes
      no_kind_field none rest at = let some = ap u8_at (second rest at).1 in cc

      module _ (kind : ℕ) (left : List ℕ) (got_kind : u8_at behind ≡ Some (kind, left)) where
        third : (rest : List ℕ) → (at : AreFieldsAt bytes rest) → (kind ≡ at.fields.kind) × (left ≡ behind_kind at.fields rest)
        third rest at = some_pair kind at.fields.kind left (behind_kind at.fields rest) (sym got_kind ∙ ap u8_at (second rest at).1)

        module _ (part : kind ≡ kind_byte true) where
          counted : (rest : List ℕ) → (at : AreFieldsAt bytes rest) → left ≡ in_two (length at.fields.contents) ++ (flat_map content_bytes at.fields.contents ++ rest)
          counted rest at =
              (third rest at).1 ∙ ap (λ (n : ℕ). versions_field (n == kind_byte true) at.fields.contents ++ rest) (sym (third rest at).0 ∙ part)
              ∙ append_assoc (in_two (length at.fields.contents)) (flat_map content_bytes at.fields.contents) rest

          pub no_count_field : u16_at left ≡ None → BeginsWithNoFields bytes
          no_count_field none rest at =
              none_read in_two (λ n. n < 2 ^ 16) u16_at fields_are_spelled.in_two left (length at.fields.contents) (flat_map content_bytes at.fields.contents ++ rest) none at.are.few (counted rest at)

          pub fewer_versions : (count : ℕ) (versions : List ℕ) → u16_at left ≡ Some (count, versions) → BeginsWithFewerContents count versions → BeginsWithNoFields bytes
          fewer_versions count versions got fewer rest at =
              let told =
              one_read in_two (λ n. n < 2 ^ 16) u16_at fields_are_spelled.in_two left count (length at.fields.contents) versions (flat_map content_bytes at.fields.contents ++ rest) got at.are.few (counted rest at) in
              fewer rest (record { contents = at.fields.contents; size = sym told.0; short = at.are.short; spelled = told.1 })

        -- the fields as they were read
        module _ (are : AreBytes bytes) where
          front : bytes ≡ in_four parent ++ (name_bytes name ++ kind ∷ left)
          front =
              let here = u32_takes bytes parent after are got_parent in
              let there = fields_are_spelled.name.spelled after name behind here.0.rest_fits got_name in
              here.0.parts ∙ ap (λ (l : List ℕ). in_four parent ++ l) (there.0 ∙ ap (λ (l : List ℕ). name_bytes name ++ l) (byte_first behind got_kind))
            where
              byte_first : (l : List ℕ) → u8_at l ≡ Some (kind, left) → l ≡ kind ∷ left
              byte_first [] got = cc
              byte_first (b ∷ l) got = let both = some_pair b kind l left got in ap (λ (m : ℕ). m ∷ l) both.0 ∙ ap (λ (r : List ℕ). kind ∷ r) both.1

          parent_fits : parent < 2 ^ 32
          parent_fits = (u32_takes bytes parent after are got_parent).1

          named : IsName name
          named = (fields_are_spelled.name.spelled after name behind (u32_takes bytes parent after are got_parent).0.rest_fits got_name).1

          with_contents : (contents : List (List ℕ)) (rest : List ℕ) → length contents < 2 ^ 16 → All IsContent contents → left ≡ versions_field (kind == kind_byte true) contents ++ rest → AreFieldsAt bytes rest
          with_contents contents rest few short is =
              let fields : PlaceFields = record { parent = parent; name = name; kind = kind; contents = contents } in
              record {
                fields = fields;
                are = record { parent = parent_fits; named = named; few = few; short = short };
                spelled = front ∙ ap (λ (l : List ℕ). in_four parent ++ (name_bytes name ++ kind ∷ l)) is ∙ sym (parted fields rest);
              }

          pub no_part_fields : kind ≢ kind_byte true → AreFieldsAt bytes left
          no_part_fields other = elim (eqb_tells kind (kind_byte true)) [
            | inl same ↦ absurd (other same.1)
            | inr differ ↦ with_contents [] left (omega arith) (All-nil IsContent) (ap (λ (b : Bool). versions_field b [] ++ left) (sym differ.0))
          ]

          left_fits : AreBytes left
          left_fits = bytes_behind (kind ∷ []) left (bytes_behind (name_bytes name) (kind ∷ left) (bytes_behind (in_four parent) (name_bytes name ++ kind ∷ left) (subst AreBytes front are)))

          pub part_fields : kind ≡ kind_byte true → (count : ℕ) (versions rest : List ℕ) → u16_at left ≡ Some (count, versions) → AreContentsAt count versions rest → AreFieldsAt bytes rest
          part_fields part count versions rest got at =
              let here = fields_are_spelled.in_two.spelled left count versions left_fits got in
              with_contents at.contents rest (omega (arith, here.1, at.size)) at.short
              (here.0 ∙ ap (λ (n : ℕ). in_two n ++ versions) (sym at.size) ∙ ap (λ (l : List ℕ). in_two (length at.contents) ++ l) at.spelled
              ∙ sym (append_assoc (in_two (length at.contents)) (flat_map content_bytes at.contents) rest)
              ∙ ap (λ (n : ℕ). versions_field (n == kind_byte true) at.contents ++ rest) (sym part))

-- fields that stand in front of the same bytes have one spelling
pub fields_tell : (f g : PlaceFields) (a b : List ℕ) → AreFields f → AreFields g → fields_bytes f ++ a ≡ fields_bytes g ++ b → (fields_bytes f ≡ fields_bytes g) × (a ≡ b)
fields_tell f g a b are_f are_g same =
    let parents = one_number f.parent g.parent (behind_parent f a) (behind_parent g b) are_f.parent are_g.parent (sym (parted f a) ∙ same ∙ parted g b) in
    let names = name_tells f.name g.name (behind_name f a) (behind_name g b) are_f.named are_g.named parents.1 in
    let kinds = some_pair f.kind g.kind (behind_kind f a) (behind_kind g b) (ap u8_at names.1) in
    let versions = by_kind (g.kind == kind_byte true) (ap (λ (n : ℕ). versions_field (n == kind_byte true) f.contents ++ a) (sym kinds.0) ∙ kinds.1) in (
      ap (λ (n : ℕ). in_four n ++ (name_bytes f.name ++ f.kind ∷ versions_field (f.kind == kind_byte true) f.contents)) parents.0
          ∙ ap (λ (l : List ℕ). in_four g.parent ++ (name_bytes l ++ f.kind ∷ versions_field (f.kind == kind_byte true) f.contents)) names.0
          ∙ ap (λ (n : ℕ). in_four g.parent ++ (name_bytes g.name ++ n ∷ versions_field (n == kind_byte true) f.contents)) kinds.0
          ∙ ap (λ (l : List ℕ). in_four g.parent ++ (name_bytes g.name ++ g.kind ∷ l)) versions.0,
      versions.1,
    )
  where
    by_kind : (part : Bool) → versions_field part f.contents ++ a ≡ versions_field part g.contents ++ b → (versions_field part f.contents ≡ versions_field part g.contents) × (a ≡ b)
    by_kind false behind = (refl, behind)
    by_kind true behind =
        let sizes =
        one_spelled in_two (λ n. n < 2 ^ 16) u16_at fields_are_spelled.in_two (length f.contents) (length g.contents) (flat_map content_bytes f.contents ++ a) (flat_map content_bytes g.contents ++ b) are_f.few are_g.few
        (sym (append_assoc (in_two (length f.contents)) (flat_map content_bytes f.contents) a) ∙ behind ∙ append_assoc (in_two (length g.contents)) (flat_map content_bytes g.contents) b) in
        let told = lists_tell content_bytes IsContent content_tells f.contents g.contents a b sizes.0 are_f.short are_g.short sizes.1 in
        (ap versions_bytes told.0, told.1)

-- ---- the place that they are of

-- the fields of the place with this number
abbrev fields_of : List Place → List (List (List ℕ)) → ℕ → Place → PlaceFields
fields_of tree shelf number place = record { parent = place.parent; name = place.name; kind = kind_byte (is_part tree number); contents = versions_of shelf number }

place_is_fields : (tree : List Place) (shelf : List (List (List ℕ))) (number : ℕ) (place : Place) → place_bytes current_version (vault_with tree shelf) number place ≡ fields_bytes (fields_of tree shelf number place)
place_is_fields tree shelf number place = by_part (is_part tree number)
  where
    by_part : (part : Bool) → (in_four place.parent ++ name_bytes place.name) ++ (kind_byte part ∷ versions_field part (versions_of shelf number)) ≡ in_four place.parent ++ (name_bytes place.name ++ kind_byte part ∷ versions_field (kind_byte part == kind_byte true) (versions_of shelf number))
    by_part true = append_assoc (in_four place.parent) (name_bytes place.name) (1 ∷ versions_bytes (versions_of shelf number))
    by_part false = append_assoc (in_four place.parent) (name_bytes place.name) (0 ∷ [])

-- those of a place that may be the next one
module _ (tree : List Place) (place : Place) (more : List Place) (whole : List (List (List ℕ))) (is : ArePlaces current_version (tree ++ place ∷ more) whole) where
  abbrev of_next : PlaceFields
  of_next = fields_of (tree ++ place ∷ more) whole (suc (length tree)) place

  are_next : AreFields of_next
  are_next = record {
    parent = omega (arith, last_parent tree place alone, (tree_front tree (place ∷ []) alone).few);
    named = all_next (λ (x : Place). IsName x.name) tree more place is.named;
    few = omega (arith, (contents_of whole is.versions.shelf_is (suc (length tree))).few);
    short = (contents_of whole is.versions.shelf_is (suc (length tree))).short;
  }
    where
      alone : IsTree (tree ++ place ∷ [])
      alone = tree_front (tree ++ place ∷ []) more (subst IsTree (sym (append_assoc tree (place ∷ []) more)) is.tree_is)

module _ (tree : List Place) (shelf : List (List (List ℕ))) (bytes : List ℕ) where
  -- bytes that begin with no fields begin with no place
  pub fieldless : BeginsWithNoFields bytes → BeginsWithNoPlace current_version tree shelf bytes
  fieldless none place more whole rest is kept same =
      none rest (record {
        fields = of_next tree place more whole is;
        are = are_next tree place more whole is;
        spelled = same ∙ ap (λ (l : List ℕ). l ++ rest) (place_is_fields (tree ++ place ∷ more) whole (suc (length tree)) place);
      })

  -- if fields stand there that are no place's, no place stands there, whatever follows
  pub none_whatever_follows : (rest : List ℕ) → AreFieldsAt bytes rest → BeginsWithNoPlace current_version tree shelf bytes → (after : List ℕ) → BeginsWithNoPlace current_version tree shelf (bytes ++ after)
  none_whatever_follows rest at none after place more whole behind is kept same =
      let next = of_next tree place more whole is in
      let spelled = place_is_fields (tree ++ place ∷ more) whole (suc (length tree)) place in
      let told =
      fields_tell at.fields next (rest ++ after) behind at.are (are_next tree place more whole is)
      (sym (ap (λ (l : List ℕ). l ++ after) at.spelled ∙ append_assoc (fields_bytes at.fields) rest after) ∙ same ∙ ap (λ (l : List ℕ). l ++ behind) spelled) in
      none place more whole rest is kept (at.spelled ∙ ap (λ (l : List ℕ). l ++ rest) (told.0 ∙ sym spelled))

-- ---- whether they stand there

pub no_place_found : {X : Type 0} (found : Option X) (none : Bool) → is_some found ≡ not none → none ≡ true → found ≡ None
no_place_found None none told is = refl
no_place_found (Some x) none told is = cc

pub place_found : {X : Type 0} (found : Option X) (none : Bool) (P : X → Type 0) → is_some found ≡ not none → none ≡ false → IfSome found P → (x : X) × P x
place_found None none P told is holds = cc
place_found (Some x) none P told is holds = (x, holds)
