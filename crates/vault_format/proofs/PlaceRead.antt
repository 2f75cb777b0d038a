-- One place, read with its versions.
use Rattle.vault_state.specs.Tree.{new_place}
use Rattle.std.proofs.Common.{◌≡◌, ◌≢◌, ℕ, suc, ◌+◌, ◌<◌, ◌≤◌, ◌^◌, Bool, true, false, List, [], ◌∷◌, ◌++◌, length, Some, None, refl, sym, ◌∙◌, ap, subst, arith, append_assoc, inl, inr}
use Rattle.std.proofs.lemmas.Bool.{cases_lt}
use Rattle.std.proofs.lemmas.Bool.Decides.{eqb_tells}
use Rattle.std.proofs.lemmas.List.{append-nil, length_push}
use Rattle.vault_state.specs.declared.place.Place.{Place}
use Rattle.vault_state.specs.Name.{IsName}
use Rattle.vault_state.specs.declared.place.Kind.{Kind}
use Rattle.vault_state.specs.Tree.{depth, is_part, is_part_kind, may_stand, IsTree}
use Rattle.vault_state.specs.Shelf.{versions_of}
use Rattle.vault_state.specs.Vault.{AreVersions}
use Rattle.vault_state.proofs.Growth.{is_part-push}
use Rattle.vault_journal.specs.Laws.{AreBytes}
use Rattle.vault_journal.specs.Reading.{u32_at, name_at}
use Rattle.vault_journal.specs.Spelling.{in_four, name_bytes}
use Rattle.vault_journal.proofs.OneSpelling.{fields_are_spelled}
use Rattle.design_tree.specs.Added.{refusal, refusal_told}
use Rattle.design_tree.specs.declared.tree.AddError.{AddError}
use Rattle.design_tree.specs.declared.tree.AddError.TheVariants as unmade
use Rattle.vault_format.specs.declared.version.FileVersion.{FileVersion}
use Rattle.vault_format.specs.declared.error.SnapshotError.TheVariants.{NotWellFormed}
use Rattle.vault_journal.proofs.Takes.{some_is}
use Rattle.vault_format.specs.Snapshot.{versions_bytes, versions_field, kind_field, IsKindIn, place_bytes}
use Rattle.vault_format.specs.Places.{vault_with, ArePlaces, head_bytes, kind_before, told_of, IsFrontOf, shelf_with, AreVersionsRead, BeginsWithNoVersions, IsPlaceAdded, BeginsWithNoName, IsPlaceRead, BeginsWithNoPlace}
use Rattle.vault_format.proofs.OneReading.{one_number, same_front}
use Rattle.vault_format.proofs.SpelledLists.{name_tells}
use Rattle.vault_format.proofs.KindBytes.{kind_read, kind_in, kind_again, kinds_told}
use Rattle.vault_format.proofs.SpelledPlaces.{place_here, kind_here}
use Rattle.vault_format.proofs.TreeFronts.{tree_front, depth_front, last_parent, last_stands, may_follow}
use Rattle.vault_format.proofs.ListsRead.{all_next}
use Rattle.vault_format.proofs.ShelfFronts.{no_versions, versions_of-shelf_with, versions_of-shelf_with_other}

-- ---- the parent, the name and the kind

pub bytes_behind : (a b : List ℕ) → AreBytes (a ++ b) → AreBytes b
bytes_behind [] b fits = fits
bytes_behind (x ∷ a) b fits = bytes_behind a b (λ k. fits (suc k))

regroup : (p m k r : List ℕ) → ((p ++ m) ++ k) ++ r ≡ p ++ (m ++ (k ++ r))
regroup p m k r = simp append_assoc

regroup_place : (p m k s r : List ℕ) → ((p ++ m) ++ (k ++ s)) ++ r ≡ ((p ++ m) ++ k) ++ (s ++ r)
regroup_place p m k s r = simp append_assoc

module _ (version : FileVersion) (tree : List Place) (bytes : List ℕ) where
  parent_fits : (place : Place) → IsTree (tree ++ place ∷ []) → place.parent < 2 ^ 32
  parent_fits place is = omega (arith, last_parent tree place is, (tree_front tree (place ∷ []) is).few)

  -- what stands behind a place's name, and behind its parent
  abbrev behind_name : Place → List ℕ → List ℕ
  behind_name place rest = kind_field version (is_part_kind place.kind) ++ rest

  abbrev behind_parent : Place → List ℕ → List ℕ
  behind_parent place rest = name_bytes place.name ++ behind_name place rest

  apart : (place : Place) (rest : List ℕ) → bytes ≡ head_bytes version place ++ rest → bytes ≡ in_four place.parent ++ behind_parent place rest
  apart place rest same = same ∙ regroup (in_four place.parent) (name_bytes place.name) (kind_field version (is_part_kind place.kind)) rest

  next_parent : (place : Place) (rest : List ℕ) → IsTree (tree ++ place ∷ []) → bytes ≡ head_bytes version place ++ rest → u32_at bytes ≡ Some (place.parent, behind_parent place rest)
  next_parent place rest is same = ap u32_at (apart place rest same) ∙ fields_are_spelled.in_four.reads place.parent (behind_parent place rest) (parent_fits place is)

  pub no_parent : u32_at bytes ≡ None → BeginsWithNoName version tree bytes
  no_parent none place rest is named kind same = let there = next_parent place rest is same in cc

  module _ (are : AreBytes bytes) (parent : ℕ) (after : List ℕ) (read : u32_at bytes ≡ Some (parent, after)) where
    here : (bytes ≡ in_four parent ++ after) × (parent < 2 ^ 32)
    here = fields_are_spelled.in_four.spelled bytes parent after are read

    after_fits : AreBytes after
    after_fits i = bytes_behind (in_four parent) after (subst AreBytes here.0 are) i

    both : (place : Place) (rest : List ℕ) → IsTree (tree ++ place ∷ []) → bytes ≡ head_bytes version place ++ rest → (parent ≡ place.parent) × (after ≡ behind_parent place rest)
    both place rest is same = one_number parent place.parent after (behind_parent place rest) here.1 (parent_fits place is) (sym here.0 ∙ apart place rest same)

    pub no_name : name_at after ≡ None → BeginsWithNoName version tree bytes
    no_name none place rest is named kind same =
        let there = ap name_at (both place rest is same).1 ∙ fields_are_spelled.name.reads place.name (behind_name place rest) named in
        cc

    pub no_place_above : length tree < parent → BeginsWithNoName version tree bytes
    no_place_above past place rest is named kind same = omega (arith, past, (both place rest is same).0, last_parent tree place is)

    module _ (name behind : List ℕ) (read_name : name_at after ≡ Some (name, behind)) where
      there : (after ≡ name_bytes name ++ behind) × IsName name
      there = fields_are_spelled.name.spelled after name behind after_fits read_name

      pub names : (place : Place) (rest : List ℕ) → IsTree (tree ++ place ∷ []) → IsName place.name → bytes ≡ head_bytes version place ++ rest → (name ≡ place.name) × (behind ≡ behind_name place rest)
      names place rest is named same = name_tells name place.name behind (behind_name place rest) there.1 named (sym there.0 ∙ (both place rest is same).1)

      -- the kind of a place that stands there is read
      kind_there : (place : Place) (rest : List ℕ) → IsTree (tree ++ place ∷ []) → IsName place.name → IsKindIn version place.kind (suc (depth tree place.parent)) → bytes ≡ head_bytes version place ++ rest → kind_before version tree parent behind ≡ Some (place.kind, rest)
      kind_there place rest is named kind same =
          ap (λ (p : ℕ). kind_before version tree p behind) (both place rest is same).0 ∙ ap (kind_before version tree place.parent) (names place rest is named same).1
          ∙ kind_again version tree place.parent place.kind rest ((tree_front tree (place ∷ []) is).kinds place.parent) (last_stands tree place is) kind

      pub no_kind : kind_before version tree parent behind ≡ None → BeginsWithNoName version tree bytes
      no_kind none place rest is named kind same = let there = kind_there place rest is named kind same in cc

      module _ (kind : Kind) (rest : List ℕ) (got : kind_before version tree parent behind ≡ Some (kind, rest)) where
        -- the tree refused it, and not because memory ran out
        pub no_addition : (why : AddError) → refusal tree parent name kind ≡ refusal_told why → told_of why ≡ NotWellFormed → BeginsWithNoName version tree bytes
        no_addition why refused told place left is named kind_is same = by_why why (sym refused ∙ free) told
          where
            kinds : kind ≡ place.kind
            kinds = ap (λ (x : Kind × List ℕ). x.0) (some_is (kind, rest) (place.kind, left) (sym got ∙ kind_there place left is named kind_is same))

            free : refusal tree parent name kind ≡ None
            free =
                ap (λ (p : ℕ). refusal tree p name kind) (both place left is same).0 ∙ ap (λ (n : List ℕ). refusal tree place.parent n kind) (names place left is named same).0
                ∙ ap (refusal tree place.parent place.name) kinds ∙ may_follow tree place is

            by_why : (e : AddError) → refusal_told e ≡ None → told_of e ≡ NotWellFormed → ⊥
            by_why unmade.WrongKind none same = cc
            by_why unmade.Exists none same = cc
            by_why unmade.Limit none same = cc
            by_why unmade.NoMemory none same = cc

        pub place_added : (new : List Place) → new ≡ tree ++ new_place parent name kind ∷ [] → IsTree new → IsPlaceAdded version tree new bytes rest
        place_added new is is_tree = record {
          place = new_place parent name kind;
          named = there.1;
          kind = kind_in version tree parent behind rest kind got;
          grown = is;
          tree_is = is_tree;
          spelled =
              here.0 ∙ ap (λ (l : List ℕ). in_four parent ++ l) (there.0 ∙ ap (λ (l : List ℕ). name_bytes name ++ l) (kind_read version tree parent behind rest kind got))
              ∙ sym (regroup (in_four parent) (name_bytes name) (kind_field version (is_part_kind kind)) rest);
        }

-- ---- the place with its versions

-- a place that isn't there has no versions
pub no_versions_past : (tree : List Place) (shelf : List (List (List ℕ))) → AreVersions tree shelf → (p : ℕ) → length tree < p → versions_of shelf p ≡ []
no_versions_past tree shelf are p past = no_versions shelf p (λ some. let there = are.parts p some in omega (arith, there.0, past))

module _ (version : FileVersion) (tree : List Place) (shelf : List (List (List ℕ))) (are : AreVersions tree shelf) (bytes : List ℕ) where
  -- a place that stands there with others behind it: the tree with it alone, its kind, and its spelling in two parts
  module _ (place : Place) (more : List Place) (whole : List (List (List ℕ))) (rest : List ℕ) (is : ArePlaces version (tree ++ place ∷ more) whole)
      (same : bytes ≡ place_bytes version (vault_with (tree ++ place ∷ more) whole) (suc (length tree)) place ++ rest)
    where
      pub alone : IsTree (tree ++ place ∷ [])
      alone = tree_front (tree ++ place ∷ []) more (subst IsTree (sym (append_assoc tree (place ∷ []) more)) is.tree_is)

      pub name_of_it : IsName place.name
      name_of_it = all_next (λ (x : Place). IsName x.name) tree more place is.named

      kind_of_it : IsKindIn version place.kind (suc (depth tree place.parent))
      kind_of_it =
          subst (λ (d : ℕ). IsKindIn version place.kind (suc d)) (depth_front tree (place ∷ more) is.tree_is.parents place.parent (last_parent tree place alone))
          (is.kinds (length tree) place (place_here tree place more))

      pub part_of_it : is_part (tree ++ place ∷ more) (suc (length tree)) ≡ is_part_kind place.kind
      part_of_it = ap is_part_kind (kind_here (tree ++ place ∷ more) tree place more refl)

      -- what stands behind its head
      abbrev pub behind_head : List ℕ
      behind_head = versions_field (is_part (tree ++ place ∷ more) (suc (length tree))) (versions_of whole (suc (length tree))) ++ rest

      pub headed : bytes ≡ head_bytes version place ++ behind_head
      headed =
          same ∙ regroup_place (in_four place.parent) (name_bytes place.name) (kind_field version (is_part (tree ++ place ∷ more) (suc (length tree)))) (versions_field (is_part (tree ++ place ∷ more) (suc (length tree))) (versions_of whole (suc (length tree)))) rest
          ∙ ap (λ (b : Bool). (in_four place.parent ++ name_bytes place.name ++ kind_field version b) ++ behind_head) part_of_it

  -- bytes that begin with no name begin with no place
  pub nameless : BeginsWithNoName version tree bytes → BeginsWithNoPlace version tree shelf bytes
  nameless none place more whole rest is kept same =
      none place (behind_head place more whole rest is same) (alone place more whole rest is same) (name_of_it place more whole rest is same) (kind_of_it place more whole rest is same) (headed place more whole rest is same)

  module _ (new : List Place) (mid : List ℕ) (added : IsPlaceAdded version tree new bytes mid) where
    longer : length new ≡ length tree + 1
    longer = ap length added.grown ∙ length_push tree added.place

    still_part : (p : ℕ) → p ≤ length tree → is_part tree p ≡ true → is_part new p ≡ true
    still_part p within part = ap (λ (t : List Place). is_part t p) added.grown ∙ is_part-push tree added.place p within ∙ part

    still_versions : (p : ℕ) → versions_of shelf p ≢ [] → (p ≤ length new) × (is_part new p ≡ true)
    still_versions p some = let there = are.parts p some in (omega (arith, there.0, longer), still_part p there.0 there.1)

    added_part : is_part new (suc (length tree)) ≡ is_part_kind added.place.kind
    added_part = ap is_part_kind (kind_here new tree added.place [] added.grown)

    -- the head that was read, and what stands behind it, as a place's spelling
    placed : (after : List (List (List ℕ))) (rest : List ℕ) → mid ≡ versions_field (is_part new (suc (length tree))) (versions_of after (suc (length tree))) ++ rest → bytes ≡ place_bytes version (vault_with new after) (suc (length tree)) added.place ++ rest
    placed after rest behind =
        let n = suc (length tree) in
        let versions = versions_field (is_part new n) (versions_of after n) in
        added.spelled
        ∙ ap (λ (b : Bool). (in_four added.place.parent ++ name_bytes added.place.name ++ kind_field version b) ++ mid) (sym added_part)
        ∙ ap (λ (l : List ℕ). (in_four added.place.parent ++ name_bytes added.place.name ++ kind_field version (is_part new n)) ++ l) behind
        ∙ sym (regroup_place (in_four added.place.parent) (name_bytes added.place.name) (kind_field version (is_part new n)) versions rest)

    -- what stands behind the head of a place that stands there
    at_versions : (place : Place) (more : List Place) (whole : List (List (List ℕ))) (rest : List ℕ) → ArePlaces version (tree ++ place ∷ more) whole
        → bytes ≡ place_bytes version (vault_with (tree ++ place ∷ more) whole) (suc (length tree)) place ++ rest → mid ≡ versions_field (is_part new (suc (length tree))) (versions_of whole (suc (length tree))) ++ rest
    at_versions place more whole rest is same =
        let n = suc (length tree) in
        let one = alone place more whole rest is same in
        let own = subst IsTree added.grown added.tree_is in
        let behind = behind_head place more whole rest is same in
        let heads : head_bytes version added.place ++ mid ≡ head_bytes version place ++ behind = sym added.spelled ∙ headed place more whole rest is same in
        let apart_heads =
        sym (regroup (in_four added.place.parent) (name_bytes added.place.name) (kind_field version (is_part_kind added.place.kind)) mid) ∙ heads ∙ regroup (in_four place.parent) (name_bytes place.name) (kind_field version (is_part_kind place.kind)) behind in
        let parents =
        one_number added.place.parent place.parent (name_bytes added.place.name ++ (kind_field version (is_part_kind added.place.kind) ++ mid)) (name_bytes place.name ++ (kind_field version (is_part_kind place.kind) ++ behind))
        (parent_fits version tree [] added.place own) (parent_fits version tree [] place one) apart_heads in
        let names =
        name_tells added.place.name place.name (kind_field version (is_part_kind added.place.kind) ++ mid) (kind_field version (is_part_kind place.kind) ++ behind) added.named (name_of_it place more whole rest is same) parents.1 in
        let deep = ap (λ (p : ℕ). suc (depth tree p)) parents.0 in
        let kinds =
        kinds_told version added.place.kind place.kind (suc (depth tree place.parent)) mid behind (subst (λ (d : ℕ). may_stand added.place.kind d ≡ true) deep (last_stands tree added.place own)) (last_stands tree place one)
        (subst (λ (d : ℕ). IsKindIn version added.place.kind d) deep added.kind) (kind_of_it place more whole rest is same) names.1 in
        let left : mid ≡ behind =
        (same_front (kind_field version (is_part_kind place.kind)) (kind_field version (is_part_kind place.kind)) mid behind refl (ap (λ (k : Kind). kind_field version (is_part_kind k) ++ mid) (sym kinds) ∙ names.1)).1 in
        let parts : is_part (tree ++ place ∷ more) n ≡ is_part new n = part_of_it place more whole rest is same ∙ ap is_part_kind (sym kinds) ∙ sym added_part in
        left ∙ ap (λ (b : Bool). versions_field b (versions_of whole n) ++ rest) parts

    pub no_part_read : is_part new (suc (length tree)) ≡ false → IsPlaceRead version tree shelf new shelf bytes mid
    no_part_read other = record {
      place = added.place;
      named = added.named;
      kind = added.kind;
      grown = added.grown;
      tree_is = added.tree_is;
      versions = record { shelf_is = are.shelf_is; parts = still_versions };
      kept = λ p within. refl;
      spelled = placed shelf mid (ap (λ (b : Bool). versions_field b (versions_of shelf (suc (length tree))) ++ mid) (sym other));
    }

    -- of a part
    module _ (part : is_part new (suc (length tree)) ≡ true) where
      pub part_read : (shelf_new : List (List (List ℕ))) (rest : List ℕ) → AreVersionsRead (suc (length tree)) shelf shelf_new mid rest → IsPlaceRead version tree shelf new shelf_new bytes rest
      part_read shelf_new rest read = record {
        place = added.place;
        named = added.named;
        kind = added.kind;
        grown = added.grown;
        tree_is = added.tree_is;
        versions = record { shelf_is = read.well_formed; parts = λ p some. parts p some };
        kept = λ p within. others p (λ same. absurd (omega (arith, same, within)));
        spelled =
            placed shelf_new rest
            (read.spelled ∙ ap (λ (l : List (List ℕ)). versions_bytes l ++ rest) (sym own) ∙ ap (λ (b : Bool). versions_field b (versions_of shelf_new (suc (length tree))) ++ rest) (sym part));
      }
        where
          others : (p : ℕ) → suc (length tree) ≢ p → versions_of shelf_new p ≡ versions_of shelf p
          others p differ = ap (λ (s : List (List (List ℕ))). versions_of s p) read.shelf_is ∙ versions_of-shelf_with_other shelf (suc (length tree)) read.contents p differ

          own : versions_of shelf_new (suc (length tree)) ≡ read.contents
          own =
              ap (λ (s : List (List (List ℕ))). versions_of s (suc (length tree))) read.shelf_is ∙ versions_of-shelf_with shelf (suc (length tree)) read.contents
              ∙ ap (λ (l : List (List ℕ)). l ++ read.contents) (no_versions_past tree shelf are (suc (length tree)) (omega arith))

          parts : (p : ℕ) → versions_of shelf_new p ≢ [] → (p ≤ length new) × (is_part new p ≡ true)
          parts p some = elim (eqb_tells (suc (length tree)) p) [
            | inl here ↦ (omega (arith, here.1, longer), subst (λ (q : ℕ). is_part new q ≡ true) here.1 part)
            | inr other ↦ still_versions p (λ none. some (others p other.1 ∙ none))
          ]

      pub versionless : BeginsWithNoVersions (suc (length tree)) shelf mid → BeginsWithNoPlace version tree shelf bytes
      versionless none place more whole rest is kept same =
          none (versions_of whole (suc (length tree))) whole rest is.versions.shelf_is (front whole kept)
          (at_versions place more whole rest is same ∙ ap (λ (b : Bool). versions_field b (versions_of whole (suc (length tree))) ++ rest) part)
        where
          front : (whole : List (List (List ℕ))) → ((p : ℕ) → p ≤ length tree → versions_of whole p ≡ versions_of shelf p) → IsFrontOf (shelf_with shelf (suc (length tree)) (versions_of whole (suc (length tree)))) whole
          front whole kept p = elim (eqb_tells (suc (length tree)) p) [
            | inl here ↦ ([], subst (λ (q : ℕ). versions_of whole q ≡ versions_of (shelf_with shelf (suc (length tree)) (versions_of whole (suc (length tree)))) q ++ []) here.1 (sym (append-nil _ ∙ own)))
            | inr other ↦ elim (cases_lt (length tree) p) [
              | inl past ↦ (versions_of whole p, sym (ap (λ (l : List (List ℕ)). l ++ versions_of whole p) (versions_of-shelf_with_other shelf (suc (length tree)) (versions_of whole (suc (length tree))) p other.1 ∙ no_versions_past tree shelf are p past)))
              | inr within ↦ ([], sym (append-nil _ ∙ versions_of-shelf_with_other shelf (suc (length tree)) (versions_of whole (suc (length tree))) p other.1 ∙ sym (kept p within)))
            ]
          ]
            where
              own : versions_of (shelf_with shelf (suc (length tree)) (versions_of whole (suc (length tree)))) (suc (length tree)) ≡ versions_of whole (suc (length tree))
              own =
                  versions_of-shelf_with shelf (suc (length tree)) (versions_of whole (suc (length tree)))
                  ∙ ap (λ (l : List (List ℕ)). l ++ versions_of whole (suc (length tree))) (no_versions_past tree shelf are (suc (length tree)) (omega arith))
