-- All places, read one after another.
use Rattle.std.proofs.Common.{◌≡◌, ◌≢◌, ℕ, zero, suc, ◌+◌, ◌<◌, ◌≤◌, ◌^◌, Bool, false, List, [], ◌∷◌, ◌++◌, length, Some, None, refl, sym, ◌∙◌, ap, subst, arith, append_assoc, length-append, All, inl, inr}
use Rattle.std.specs.List.{flat_map}
use Rattle.std.proofs.lemmas.Bool.{cases_lt, cases_Bool}
use Rattle.std.proofs.lemmas.List.{append-nil}
use Rattle.std.proofs.lemmas.List.Elements.{All-nil, All-push}
use Rattle.vault_state.specs.declared.place.Place.{Place}
use Rattle.vault_state.specs.Name.{IsName}
use Rattle.vault_state.specs.Tree.{is_part, IsTree}
use Rattle.vault_state.specs.Shelf.{versions_of}
use Rattle.vault_state.specs.Vault.{Vault}
use Rattle.vault_state.proofs.NewTree.{tree_new}
use Rattle.vault_state.proofs.Shelves.{none_shelved}
use Rattle.vault_journal.specs.Laws.{AreBytes}
use Rattle.vault_journal.specs.Reading.{u32_at}
use Rattle.vault_journal.specs.Spelling.{in_two, in_four}
use Rattle.vault_journal.proofs.OneSpelling.{fields_are_spelled}
use Rattle.vault_format.specs.declared.version.FileVersion.{FileVersion}
use Rattle.vault_format.specs.Snapshot.{kind_bytes, place_bytes, places_bytes, claim_bytes, spelling_of, AreKindsIn, HasSpelling}
use Rattle.vault_format.specs.Places.{vault_with, places_of, ArePlaces, ArePlacesAt, AreReadTo, AreReadOn, BeginsWithFewerPlaces, BeginsWithNoPlaces, IsPlaceRead, BeginsWithNoPlace}
use Rattle.vault_format.proofs.OneReading.{one_number}
use Rattle.vault_format.proofs.SpelledPlaces.{AreTold, places_tell, one_shelf, part_same}
use Rattle.vault_format.proofs.Spelled.{places_have, contents_of, snapshot_split}
use Rattle.vault_format.proofs.TreeFronts.{tree_front, last_parent, kinds_front, kinds_push}
use Rattle.vault_format.proofs.ListsRead.{cut_at}
use Rattle.vault_format.proofs.ShelfFronts.{no_versions}
use Rattle.vault_state.proofs.Growth.{is_part-push}
use Rattle.vault_state.proofs.Lists.{All-front}
use Rattle.vault_format.proofs.PlaceRead.{no_versions_past}

-- ---- spellings of places

-- beside the place itself, its spelling depends only on its kind and its versions
place_same : (version : FileVersion) (v w : Vault) (n : ℕ) (place : Place) → is_part v.tree n ≡ is_part w.tree n → versions_of v.shelf n ≡ versions_of w.shelf n → place_bytes version v n place ≡ place_bytes version w n place
place_same version v w n place parts versions =
    ap (λ (b : Bool). place_of b (versions_of v.shelf n)) parts ∙ ap (λ (l : List (List ℕ)). place_of (is_part w.tree n) l) versions
  where
    place_of : Bool → List (List ℕ) → List ℕ
    place_of b l = in_four place.parent ++ (length place.name ∷ place.name) ++ kind_bytes version b l

-- the same for many places
abbrev SamePlaces : Vault → Vault → ℕ → ℕ → Type 0
SamePlaces v w from to = (p : ℕ) → from ≤ p → p < to → (is_part v.tree p ≡ is_part w.tree p) × (versions_of v.shelf p ≡ versions_of w.shelf p)

places_same : (version : FileVersion) (v w : Vault) (n end : ℕ) (xs : List Place) → end ≡ n + length xs → SamePlaces v w n end → places_bytes version v n xs ≡ places_bytes version w n xs
places_same version v w n end [] to same = refl
places_same version v w n end (x ∷ xs) to same =
    let here = same n (omega arith) (omega (arith, to)) in
    ap (λ (l : List ℕ). l ++ places_bytes version v (suc n) xs) (place_same version v w n x here.0 here.1)
    ∙ ap (λ (l : List ℕ). place_bytes version w n x ++ l) (places_same version v w (suc n) end xs (omega (arith, to)) (λ p above below. same p (omega (arith, above)) below))

places_append : (version : FileVersion) (v : Vault) (n m : ℕ) (xs ys : List Place) → m ≡ n + length xs → places_bytes version v n (xs ++ ys) ≡ places_bytes version v n xs ++ places_bytes version v m ys
places_append version v n m [] ys to = ap (λ (k : ℕ). places_bytes version v k ys) (let e : n ≡ m = omega (arith, to) in e)
places_append version v n m (x ∷ xs) ys to =
    ap (λ (l : List ℕ). place_bytes version v n x ++ l) (places_append version v (suc n) m xs ys (omega (arith, to)))
    ∙ sym (append_assoc (place_bytes version v n x) (places_bytes version v (suc n) xs) (places_bytes version v m ys))

-- ---- the loop

pub no_places : (version : FileVersion) → ArePlaces version [] []
no_places version = record {
  tree_is = tree_new;
  kinds = λ i place at. absurd (cc);
  named = All-nil (λ (place : Place). IsName place.name);
  versions = record { shelf_is = none_shelved; parts = λ p some. absurd (some refl) };
}

pub no_place_more : (version : FileVersion) (tree : List Place) (shelf : List (List (List ℕ))) (bytes : List ℕ) → ArePlaces version tree shelf → AreReadOn version tree shelf tree shelf bytes bytes
no_place_more version tree shelf bytes are = record { more = []; are = are; grown = sym (append-nil tree); kept = λ p within. refl; spelled = refl }

pub one_place_more : (version : FileVersion) (tree : List Place) (shelf : List (List (List ℕ))) (now : List Place) (shelf_now : List (List (List ℕ))) (new : List Place) (shelf_new : List (List (List ℕ))) (bytes rest after : List ℕ) → AreReadOn version tree shelf now shelf_now bytes rest → IsPlaceRead version now shelf_now new shelf_new rest after
    → AreReadOn version tree shelf new shelf_new bytes after
one_place_more version tree shelf now shelf_now new shelf_new bytes rest after so one = record {
  more = so.more ++ one.place ∷ [];
  are = record {
    tree_is = one.tree_is;
    kinds = subst (λ (t : List Place). AreKindsIn version t) (sym one.grown) (kinds_push version now one.place so.are.tree_is.parents (last_parent now one.place (subst IsTree one.grown one.tree_is)) so.are.kinds one.kind);
    named = subst (λ (t : List Place). All (λ (place : Place). IsName place.name) t) (sym one.grown) (All-push (λ (place : Place). IsName place.name) now one.place so.are.named one.named);
    versions = one.versions;
  };
  grown = one.grown ∙ ap (λ (t : List Place). t ++ one.place ∷ []) so.grown ∙ append_assoc tree so.more (one.place ∷ []);
  kept = λ p within. one.kept p (omega (arith, within, longer)) ∙ so.kept p within;
  spelled = so.spelled ∙ ap (λ (l : List ℕ). l ++ rest) before ∙ ap (λ (l : List ℕ). places_bytes version w (suc (length tree)) so.more ++ l) one.spelled ∙ sym (append_assoc (places_bytes version w (suc (length tree)) so.more) (place_bytes version w (suc (length now)) one.place) after) ∙ ap (λ (l : List ℕ). l ++ after) (sym whole);
}
  where
    longer : length now ≡ length tree + length so.more
    longer = ap length so.grown ∙ length-append tree so.more

    w : Vault
    w = vault_with new shelf_new

    before : places_bytes version (vault_with now shelf_now) (suc (length tree)) so.more ≡ places_bytes version w (suc (length tree)) so.more
    before =
        places_same version (vault_with now shelf_now) w (suc (length tree)) (suc (length now)) so.more (omega (arith, longer))
        (λ p above below. (sym (ap (λ (t : List Place). is_part t p) one.grown ∙ is_part-push now one.place p (omega (arith, below))), sym (one.kept p (omega (arith, below)))))

    whole : places_bytes version w (suc (length tree)) (so.more ++ one.place ∷ []) ≡ places_bytes version w (suc (length tree)) so.more ++ place_bytes version w (suc (length now)) one.place
    whole =
        places_append version w (suc (length tree)) (suc (length now)) so.more (one.place ∷ []) (omega (arith, longer))
        ∙ ap (λ (l : List ℕ). places_bytes version w (suc (length tree)) so.more ++ l) (append-nil (place_bytes version w (suc (length now)) one.place))

-- so all places were read from the front of the whole bytes
pub read_to : (version : FileVersion) (tree : List Place) (shelf : List (List (List ℕ))) (new : List Place) (shelf_new : List (List (List ℕ))) (bytes rest : List ℕ) → AreReadOn version tree shelf new shelf_new bytes rest
    → AreReadTo version new shelf_new (places_bytes version (vault_with tree shelf) 1 tree ++ bytes) rest
read_to version tree shelf new shelf_new bytes rest so = record {
  are = so.are;
  spelled =
      ap (λ (l : List ℕ). l ++ bytes) before ∙ ap (λ (l : List ℕ). places_bytes version w 1 tree ++ l) so.spelled ∙ sym (append_assoc (places_bytes version w 1 tree) (places_bytes version w (suc (length tree)) so.more) rest)
      ∙ ap (λ (l : List ℕ). l ++ rest) (sym (places_append version w 1 (suc (length tree)) tree so.more (omega arith)) ∙ ap (places_bytes version w 1) (sym so.grown));
}
  where
    w : Vault
    w = vault_with new shelf_new

    before : places_bytes version (vault_with tree shelf) 1 tree ≡ places_bytes version w 1 tree
    before =
        places_same version (vault_with tree shelf) w 1 (suc (length tree)) tree (omega arith)
        (λ p above below. (sym (part_same new tree tree so.more [] p so.grown (sym (append-nil tree)) (omega (arith, below))), sym (so.kept p (omega (arith, below)))))

-- places that were read are the first of any that stand there
module _ (version : FileVersion) (tree : List Place) (shelf : List (List (List ℕ))) (bytes rest : List ℕ) (so : AreReadTo version tree shelf bytes rest) (front back : List Place) (whole : List (List (List ℕ))) (behind : List ℕ) (are : ArePlaces version (front ++ back) whole)
    (size : length tree ≡ length front) (same : bytes ≡ places_bytes version (vault_with (front ++ back) whole) 1 (front ++ back) ++ behind)
  where
    same_part : (p : ℕ) → p ≤ length front → is_part (front ++ back) p ≡ is_part front p
    same_part p within = part_same (front ++ back) front front back [] p refl (sym (append-nil front)) within

    first_spelled : bytes ≡ places_bytes version (vault_with front whole) 1 front ++ (places_bytes version (vault_with (front ++ back) whole) (suc (length front)) back ++ behind)
    first_spelled =
        same
        ∙ ap (λ (l : List ℕ). l ++ behind) (places_append version (vault_with (front ++ back) whole) 1 (suc (length front)) front back (omega arith)
        ∙ ap (λ (l : List ℕ). l ++ places_bytes version (vault_with (front ++ back) whole) (suc (length front)) back)
        (places_same version (vault_with (front ++ back) whole) (vault_with front whole) 1 (suc (length front)) front (omega arith) (λ p above below. (same_part p (omega (arith, below)), refl))))
        ∙ append_assoc (places_bytes version (vault_with front whole) 1 front) (places_bytes version (vault_with (front ++ back) whole) (suc (length front)) back) behind

    told : AreTold (vault_with tree shelf) (vault_with front whole) 1 tree front rest (places_bytes version (vault_with (front ++ back) whole) (suc (length front)) back ++ behind)
    told =
        places_tell version (vault_with tree shelf) (vault_with front whole) so.are.tree_is (tree_front front back are.tree_is) so.are.kinds (kinds_front version front back are.tree_is are.kinds) (contents_of shelf so.are.versions.shelf_is) (contents_of whole are.versions.shelf_is) [] tree front rest
        (places_bytes version (vault_with (front ++ back) whole) (suc (length front)) back ++ behind) refl refl size (places_have tree so.are.tree_is so.are.named)
        (places_have front (tree_front front back are.tree_is) (All-front (λ (place : Place). IsName place.name) front back are.named)) (sym so.spelled ∙ first_spelled)

    pub first_places : tree ≡ front
    first_places = told.places

    pub first_rest : rest ≡ places_bytes version (vault_with (front ++ back) whole) (suc (length front)) back ++ behind
    first_rest = told.rest

    pub first_versions : (p : ℕ) → p ≤ length tree → versions_of whole p ≡ versions_of shelf p
    first_versions zero within = no_versions whole 0 (λ some. let is = (are.versions.parts 0 some).1 in cc) ∙ sym (no_versions shelf 0 (λ some. let is = (so.are.versions.parts 0 some).1 in cc))
    first_versions (suc n) within = elim (cases_Bool (is_part tree (suc n))) [
      | inl part ↦ sym (told.versions (suc n) (omega arith) (omega (arith, within)) part)
      | inr other ↦ (let no_part : is_part (front ++ back) (suc n) ≡ false = same_part (suc n) (omega (arith, within, size)) ∙ ap (λ (t : List Place). is_part t (suc n)) (sym told.places) ∙ other in
          no_versions whole (suc n) (λ some. let is = (are.versions.parts (suc n) some).1 in cc) ∙ sym (no_versions shelf (suc n) (λ some. let is = (so.are.versions.parts (suc n) some).1 in cc)))
    ]

-- if there are more, the next one's spelling stands behind them
pub record IsNextPlace (version : FileVersion) (tree : List Place) (shelf : List (List (List ℕ))) (rest : List ℕ) (all : List Place) (whole : List (List (List ℕ))) (behind : List ℕ) : Type 0 where
  pub here : Place
  pub others : List Place
  pub parts : all ≡ tree ++ here ∷ others
  pub kept : (p : ℕ) → p ≤ length tree → versions_of whole p ≡ versions_of shelf p
  pub spelled : rest ≡ place_bytes version (vault_with (tree ++ here ∷ others) whole) (suc (length tree)) here ++ (places_bytes version (vault_with (tree ++ here ∷ others) whole) (suc (suc (length tree))) others ++ behind)

pub next_place : (version : FileVersion) (tree : List Place) (shelf : List (List (List ℕ))) (bytes rest : List ℕ) → AreReadTo version tree shelf bytes rest → (all : List Place) (whole : List (List (List ℕ))) (behind : List ℕ) → ArePlaces version all whole → length tree < length all
    → bytes ≡ places_bytes version (vault_with all whole) 1 all ++ behind → IsNextPlace version tree shelf rest all whole behind
next_place version tree shelf bytes rest so all whole behind are within same =
    let cut = cut_at all (length tree) within in
    let are_cut = subst (λ (t : List Place). ArePlaces version t whole) cut.parts are in
    let same_cut = same ∙ ap (λ (t : List Place). places_bytes version (vault_with t whole) 1 t ++ behind) cut.parts in
    let tree_is = first_places version tree shelf bytes rest so cut.before (cut.here ∷ cut.behind) whole behind are_cut (sym cut.size) same_cut in
    let rest_is = first_rest version tree shelf bytes rest so cut.before (cut.here ∷ cut.behind) whole behind are_cut (sym cut.size) same_cut in
    let others = places_bytes version (vault_with (tree ++ cut.here ∷ cut.behind) whole) (suc (suc (length tree))) cut.behind in
    record {
      here = cut.here;
      others = cut.behind;
      parts = cut.parts ∙ ap (λ (t : List Place). t ++ cut.here ∷ cut.behind) (sym tree_is);
      kept = first_versions version tree shelf bytes rest so cut.before (cut.here ∷ cut.behind) whole behind are_cut (sym cut.size) same_cut;
      spelled =
          subst (λ (t : List Place). rest ≡ places_bytes version (vault_with (t ++ cut.here ∷ cut.behind) whole) (suc (length t)) (cut.here ∷ cut.behind) ++ behind) (sym tree_is) rest_is
          ∙ append_assoc (place_bytes version (vault_with (tree ++ cut.here ∷ cut.behind) whole) (suc (length tree)) cut.here) others behind;
    }

-- if none stands behind them, they are all
pub no_other : (version : FileVersion) (tree : List Place) (shelf : List (List (List ℕ))) (bytes rest : List ℕ) → AreReadTo version tree shelf bytes rest → BeginsWithNoPlace version tree shelf rest
    → (all : List Place) (whole : List (List (List ℕ))) (behind : List ℕ) → ArePlaces version all whole → length tree < length all → bytes ≢ places_bytes version (vault_with all whole) 1 all ++ behind
no_other version tree shelf bytes rest so none all whole behind are within same =
    let next = next_place version tree shelf bytes rest so all whole behind are within same in
    none next.here next.others whole _ (subst (λ (t : List Place). ArePlaces version t whole) next.parts are) next.kept next.spelled

-- so fewer than `count` places stand there
pub fewer_places : (version : FileVersion) (tree : List Place) (shelf : List (List (List ℕ))) (now : List Place) (shelf_now : List (List (List ℕ))) (bytes rest more : List ℕ) → AreReadOn version tree shelf now shelf_now bytes rest → BeginsWithNoPlace version now shelf_now (rest ++ more)
    → (count : ℕ) → length now + 1 < count → BeginsWithFewerPlaces version count tree shelf (bytes ++ more)
fewer_places version tree shelf now shelf_now bytes rest more so none count within all whole behind size are same =
    let on : AreReadOn version tree shelf now shelf_now (bytes ++ more) (rest ++ more) =
    record { more = so.more; are = so.are; grown = so.grown; kept = so.kept; spelled = ap (λ (l : List ℕ). l ++ more) so.spelled ∙ append_assoc (places_bytes version (vault_with now shelf_now) (suc (length tree)) so.more) rest more } in
    no_other version now shelf_now (places_bytes version (vault_with tree shelf) 1 tree ++ (bytes ++ more)) (rest ++ more) (read_to version tree shelf now shelf_now (bytes ++ more) (rest ++ more) on) none
    all whole behind are (omega (arith, within, size)) same

-- ---- the number of places, and all of them

module _ (version : FileVersion) (bytes : List ℕ) where
  next_count : (tree : List Place) (shelf : List (List (List ℕ))) (rest : List ℕ) → ArePlaces version tree shelf → bytes ≡ places_of version tree shelf ++ rest → u32_at bytes ≡ Some (length tree + 1, places_bytes version (vault_with tree shelf) 1 tree ++ rest)
  next_count tree shelf rest are same =
      ap u32_at (same ∙ append_assoc (in_four (length tree + 1)) (places_bytes version (vault_with tree shelf) 1 tree) rest)
      ∙ fields_are_spelled.in_four.reads (length tree + 1) (places_bytes version (vault_with tree shelf) 1 tree ++ rest) (omega (arith, are.tree_is.few))

  pub no_place_count : u32_at bytes ≡ None → BeginsWithNoPlaces version bytes
  no_place_count none tree shelf rest are same = let there = next_count tree shelf rest are same in cc

  module _ (fits : AreBytes bytes) (count : ℕ) (after : List ℕ) (read : u32_at bytes ≡ Some (count, after)) where
    here : (bytes ≡ in_four count ++ after) × (count < 2 ^ 32)
    here = fields_are_spelled.in_four.spelled bytes count after fits read

    counted : (tree : List Place) (shelf : List (List (List ℕ))) (rest : List ℕ) → ArePlaces version tree shelf → bytes ≡ places_of version tree shelf ++ rest → (count ≡ length tree + 1) × (after ≡ places_bytes version (vault_with tree shelf) 1 tree ++ rest)
    counted tree shelf rest are same =
        one_number count (length tree + 1) after (places_bytes version (vault_with tree shelf) 1 tree ++ rest) here.1 (omega (arith, are.tree_is.few))
        (sym here.0 ∙ same ∙ append_assoc (in_four (length tree + 1)) (places_bytes version (vault_with tree shelf) 1 tree) rest)

    pub no_library : count ≡ 0 → BeginsWithNoPlaces version bytes
    no_library zero_is tree shelf rest are same = omega (arith, zero_is, (counted tree shelf rest are same).0)

    pub all_places : (tree : List Place) (shelf : List (List (List ℕ))) (rest : List ℕ) → length tree + 1 ≡ count → AreReadTo version tree shelf after rest → ArePlacesAt version bytes tree shelf rest
    all_places tree shelf rest size so = record {
      are = so.are;
      spelled =
          here.0 ∙ ap (λ (n : ℕ). in_four n ++ after) (sym size) ∙ ap (λ (l : List ℕ). in_four (length tree + 1) ++ l) so.spelled
          ∙ sym (append_assoc (in_four (length tree + 1)) (places_bytes version (vault_with tree shelf) 1 tree) rest);
    }

    pub not_all_places : (tree : List Place) (shelf : List (List (List ℕ))) (rest : List ℕ) → length tree + 1 < count → AreReadTo version tree shelf after rest → BeginsWithNoPlace version tree shelf rest → BeginsWithNoPlaces version bytes
    not_all_places tree shelf rest within so none all whole behind are same =
        let next = counted all whole behind are same in
        no_other version tree shelf after rest so none all whole behind are (omega (arith, within, next.0)) next.1

-- ---- the places of a whole snapshot

pub has_places : (version : FileVersion) (v : Vault) → HasSpelling version v → ArePlaces version v.tree v.shelf
has_places version v spelled = record { tree_is = spelled.has.well_formed.tree; kinds = spelled.kinds; named = spelled.has.places; versions = spelled.has.well_formed.versions }

pub places_spelled : (version : FileVersion) (v : Vault) → spelling_of version v ≡ in_four v.last_long ++ (places_of version v.tree v.shelf ++ (in_two (length v.line) ++ flat_map (claim_bytes version v) v.line))
places_spelled version v =
    snapshot_split version v
    ∙ ap (λ (l : List ℕ). in_four v.last_long ++ l) (sym (append_assoc (in_four (length v.tree + 1)) (places_bytes version v 1 v.tree) (in_two (length v.line) ++ flat_map (claim_bytes version v) v.line)))

-- places that stand at the front of the same bytes are one tree and one shelf, and the same stands behind them
pub one_places : (version : FileVersion) (t u : List Place) (s r : List (List (List ℕ))) (a b : List ℕ) → ArePlaces version t s → ArePlaces version u r → places_of version t s ++ a ≡ places_of version u r ++ b → (t ≡ u) × (s ≡ r) × (a ≡ b)
one_places version t u s r a b are_t are_u same =
    let sizes =
    one_number (length t + 1) (length u + 1) (places_bytes version (vault_with t s) 1 t ++ a) (places_bytes version (vault_with u r) 1 u ++ b) (omega (arith, are_t.tree_is.few)) (omega (arith, are_u.tree_is.few))
    (sym (append_assoc (in_four (length t + 1)) (places_bytes version (vault_with t s) 1 t) a) ∙ same ∙ append_assoc (in_four (length u + 1)) (places_bytes version (vault_with u r) 1 u) b) in
    let size : length t ≡ length u = omega (arith, sizes.0) in
    let whole = sym (append-nil u) in
    let so : AreReadTo version t s (places_bytes version (vault_with t s) 1 t ++ a) a = record { are = are_t; spelled = refl } in
    let are = subst (λ (x : List Place). ArePlaces version x r) whole are_u in
    let after = sizes.1 ∙ ap (λ (x : List Place). places_bytes version (vault_with x r) 1 x ++ b) whole in
    let places = first_places version t s (places_bytes version (vault_with t s) 1 t ++ a) a so u [] r b are size after in
    let rest = first_rest version t s (places_bytes version (vault_with t s) 1 t ++ a) a so u [] r b are size after in
    let versions = first_versions version t s (places_bytes version (vault_with t s) 1 t ++ a) a so u [] r b are size after in (
      places,
      one_shelf s r are_t.versions.shelf_is are_u.versions.shelf_is (λ p. elim (cases_lt (length t) p) [
        | inl past ↦ no_versions_past t s are_t.versions p past ∙ sym (no_versions_past u r are_u.versions p (omega (arith, past, size)))
        | inr within ↦ sym (versions p within)
      ]),
      rest,
    )
