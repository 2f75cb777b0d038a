-- A snapshot is the spelling of one vault.
use Rattle.std.proofs.Common.{◌≡◌, ℕ, zero, suc, ◌+◌, ◌<◌, ◌≤◌, ◌^◌, ◌==◌, true, List, [], ◌∷◌, ◌++◌, length, get_or, map, filter, Some, refl, sym, ◌∙◌, ap, subst, arith, All, inl, inr}
use Rattle.std.specs.List.{flat_map, AllByRecursion}
use Rattle.std.specs.Option.{option_map}
use Rattle.std.proofs.lemmas.Bool.{cases_Bool, cases_lt}
use Rattle.std.proofs.lemmas.Option.{slice_get-get_or}
use Rattle.std.proofs.lemmas.List.{get_or_past}
use Rattle.std.proofs.lemmas.List.Elements.{All-nil, All-cons, All-head, All-tail, All-map, All-filter, All-weaker, All-get_or, All-from_get_or}
use Rattle.vault_state.specs.declared.claims.Claim.{Claim}
use Rattle.vault_state.specs.declared.claims.Item.{Item}
use Rattle.vault_state.specs.declared.claims.Owner.{Owner}
use Rattle.vault_state.specs.declared.claims.Owner.TheVariants as owners
use Rattle.vault_state.specs.declared.claims.Standing.TheVariants.{Held}
use Rattle.vault_state.specs.declared.ids.ClaimId.{ClaimId}
use Rattle.vault_state.specs.declared.ids.ClaimId.TheVariants.{Long, Short}
use Rattle.vault_state.specs.declared.place.Place.{Place}
use Rattle.vault_state.specs.Name.{IsName}
use Rattle.vault_state.specs.Note.{IsNote}
use Rattle.vault_state.specs.Limits.{most_versions}
use Rattle.vault_state.specs.Tree.{is_part, IsTree, no_place}
use Rattle.vault_state.specs.Claims.{standing_of}
use Rattle.vault_state.specs.Shelf.{versions_of, IsShelf}
use Rattle.vault_state.specs.Drafts.{SavedDraft, drafts_of}
use Rattle.vault_state.specs.Vault.{Vault, IsClaim, IsGiven, Owns, IsNoteOf, AreThere, IsDraft}
use Rattle.vault_journal.specs.Spelling.{in_two, in_four, ItemFits}
use Rattle.vault_journal.specs.Reading.{u16_at}
use Rattle.vault_journal.proofs.OneSpelling.{fields_are_spelled}
use Rattle.vault_state.proofs.OneDrafts.{one_drafts}
use Rattle.vault_format.specs.declared.version.FileVersion.{FileVersion}
use Rattle.vault_format.specs.Snapshot.{current_version, spelling_of, places_bytes, claim_bytes, IsNoteIn, number_of, designer_of, HasSnapshot, HasSpelling}
use Rattle.vault_format.proofs.OneReading.{one_spelled, one_number}
use Rattle.vault_format.proofs.SpelledLists.{IsContent, AreContents, HasDraft}
use Rattle.vault_format.proofs.SpelledPlaces.{HasPlace, AreTold, places_tell, one_shelf}
use Rattle.vault_format.proofs.SpelledClaims.{HasClaim, drafted, claims_tell, one_line, same_drafts, regroup}

-- each place of a tree has four bytes for its parent
pub places_have : (tree : List Place) → IsTree tree → All (λ (place : Place). IsName place.name) tree → All HasPlace tree
places_have tree is_tree names = All-from_get_or HasPlace tree none (λ i within. record { parent = below i within; name = All-get_or (λ (place : Place). IsName place.name) tree i none within names })
  where
    none : Place
    none = no_place

    below : (i : ℕ) → i < length tree → (get_or tree i none).parent < 2 ^ 32
    below i within =
        let lower : (get_or tree i none).parent < suc i = is_tree.parents (suc i) (get_or tree i none).parent (ap (option_map (λ (place : Place). place.parent)) (slice_get-get_or tree i none within)) in
        omega (arith, lower, within, is_tree.few)

-- the versions of each place
pub contents_of : (shelf : List (List (List ℕ))) → IsShelf shelf → (p : ℕ) → AreContents (versions_of shelf p)
contents_of shelf is_shelf p = elim (cases_lt p (length shelf)) [
  | inl within ↦ record { few = All-get_or (λ versions. length versions ≤ most_versions) shelf p [] within is_shelf.few; short = All-get_or (λ versions. All IsContent versions) shelf p [] within is_shelf.short }
  | inr past ↦ (let none = get_or_past shelf p [] past in record { few = omega (arith, ap length none); short = subst (λ (l : List (List ℕ)). All IsContent l) (sym none) (All-nil IsContent) })
]

items_fit : (tree : List Place) (items : List Item) → length tree < 2 ^ 32 → AreThere tree items → AllByRecursion ItemFits items
items_fit tree [] few there = tt
items_fit tree (item ∷ items) few there =
    let here = All-head (λ (x : Item). x.place ≤ length tree) item items there in
    (omega (arith, here, few), items_fit tree items few (All-tail (λ (x : Item). x.place ≤ length tree) item items there))

-- the drafts of a check-out
drafts_have : (tree : List Place) (line : List Claim) (drafts : List SavedDraft) (n : ℕ) → length tree < 2 ^ 32 → All (IsDraft tree line) drafts → All HasDraft (drafts_of drafts n)
drafts_have tree line drafts n few are =
    All-map HasDraft (λ (x : SavedDraft). x.draft) (filter (λ (x : SavedDraft). x.claim == n) drafts)
    (All-filter (λ (x : SavedDraft). x.claim == n) (λ (x : SavedDraft). HasDraft x.draft) drafts
    (All-weaker (IsDraft tree line) (λ (x : SavedDraft). HasDraft x.draft) (λ x is. record { place = omega (arith, is.there, few); content = is.short }) drafts are))

module _ (v : Vault) (has : HasSnapshot v) where
  no_sessions : v.sessions ≡ []
  no_sessions = ap (λ (u : Vault). u.sessions) (sym has.durable)

  no_short : v.last_short ≡ 0
  no_short = ap (λ (u : Vault). u.last_short) (sym has.durable)

  few_places : length v.tree < 2 ^ 32
  few_places = omega (arith, has.well_formed.tree.few)

  long_id : (id : ClaimId) → IsGiven v.last_long v.last_short id → (id ≡ Long (number_of id)) × (number_of id < 2 ^ 32)
  long_id (Long n) given = (refl, omega (arith, given.1, has.well_formed.numbers.long))
  long_id (Short n) given = absurd (omega (arith, given.0, given.1, no_short))

  designer_owns : (id : ClaimId) (owner : Owner) → id ≡ Long (number_of id) → Owns v.sessions owner id → owner ≡ owners.Designer (designer_of owner)
  designer_owns (Long n) (owners.Designer name) is owns = refl
  designer_owns (Long n) (owners.Session number) is owns = absurd owns
  designer_owns (Short n) owner is owns = absurd (cc)

  long_note : (id : ClaimId) (note : List ℕ) → id ≡ Long (number_of id) → IsNoteOf id note → IsNote note
  long_note (Long n) note is noted = noted
  long_note (Short n) note is noted = absurd (cc)

  claim_has : (version : FileVersion) (c : Claim) → IsClaim v.tree v.sessions v.last_long v.last_short c → IsName (designer_of c.owner) → IsNoteIn version c.note → HasClaim version (drafted v.drafts c)
  claim_has version c is name note =
      let id = long_id c.id is.given in record {
        long = id.0;
        fits = id.1;
        designer = designer_owns c.id c.owner id.0 is.owned;
        name = name;
        note = note;
        items = record { some = omega (arith, is.some); few = is.few; fit = items_fit v.tree c.items few_places is.there };
        drafts = drafts_have v.tree v.line v.drafts (number_of c.id) few_places has.well_formed.drafts.each;
      }

  pub claims_have : (version : FileVersion) (line : List Claim) → All (IsClaim v.tree v.sessions v.last_long v.last_short) line → All (λ (c : Claim). IsName (designer_of c.owner)) line → All (λ (c : Claim). IsNoteIn version c.note) line
      → All (λ (c : Claim). HasClaim version (drafted v.drafts c)) line
  claims_have version [] are names notes = All-nil (λ (c : Claim). HasClaim version (drafted v.drafts c))
  claims_have version (c ∷ line) are names notes =
      All-cons (λ (d : Claim). HasClaim version (drafted v.drafts d)) c line
      (claim_has version c (All-head (IsClaim v.tree v.sessions v.last_long v.last_short) c line are) (All-head (λ (d : Claim). IsName (designer_of d.owner)) c line names) (All-head (λ (d : Claim). IsNoteIn version d.note) c line notes))
      (claims_have version line (All-tail (IsClaim v.tree v.sessions v.last_long v.last_short) c line are) (All-tail (λ (d : Claim). IsName (designer_of d.owner)) c line names) (All-tail (λ (d : Claim). IsNoteIn version d.note) c line notes))

  -- today's version spells any note
  pub now_spelled : HasSpelling current_version v
  now_spelled = record {
    has = has;
    kinds = λ i place at. tt;
    notes = All-weaker (IsClaim v.tree v.sessions v.last_long v.last_short) (λ (c : Claim). IsNote c.note) (λ c is. long_note c.id c.note (long_id c.id is.given).0 is.noted) v.line has.well_formed.claims;
  }

  -- a place that is no part has no version
  no_versions : (p : ℕ) → ((p ≤ length v.tree) × (is_part v.tree p ≡ true) → ⊥) → versions_of v.shelf p ≡ []
  no_versions p never = by_versions (versions_of v.shelf p) refl
    where
      by_versions : (versions : List (List ℕ)) → versions_of v.shelf p ≡ versions → versions_of v.shelf p ≡ []
      by_versions [] is = is
      by_versions (x ∷ xs) is = absurd (never (has.well_formed.versions.parts p (λ none. let e = sym is ∙ none in cc)))

abbrev pub behind_places : FileVersion → Vault → List ℕ
behind_places version v = in_two (length v.line) ++ flat_map (claim_bytes version v) v.line

pub snapshot_split : (version : FileVersion) (v : Vault) → spelling_of version v ≡ in_four v.last_long ++ (in_four (length v.tree + 1) ++ (places_bytes version v 1 v.tree ++ behind_places version v))
snapshot_split version v = regroup (in_four v.last_long) (in_four (length v.tree + 1)) (places_bytes version v 1 v.tree) (in_two (length v.line)) (flat_map (claim_bytes version v) v.line)

no_library : (tree : List Place) → is_part tree 0 ≡ true → ⊥
no_library tree part = cc

-- two vaults of one spelling
module _ (version : FileVersion) (v w : Vault) (spelled_v : HasSpelling version v) (spelled_w : HasSpelling version w) (same : spelling_of version v ≡ spelling_of version w) where
  first : (v.last_long ≡ w.last_long) × (in_four (length v.tree + 1) ++ (places_bytes version v 1 v.tree ++ behind_places version v) ≡ in_four (length w.tree + 1) ++ (places_bytes version w 1 w.tree ++ behind_places version w))
  first =
      one_number v.last_long w.last_long (in_four (length v.tree + 1) ++ (places_bytes version v 1 v.tree ++ behind_places version v)) (in_four (length w.tree + 1) ++ (places_bytes version w 1 w.tree ++ behind_places version w)) (omega (arith, spelled_v.has.well_formed.numbers.long)) (omega (arith, spelled_w.has.well_formed.numbers.long))
      (sym (snapshot_split version v) ∙ same ∙ snapshot_split version w)

  second : (length v.tree + 1 ≡ length w.tree + 1) × (places_bytes version v 1 v.tree ++ behind_places version v ≡ places_bytes version w 1 w.tree ++ behind_places version w)
  second =
      one_number (length v.tree + 1) (length w.tree + 1) (places_bytes version v 1 v.tree ++ behind_places version v) (places_bytes version w 1 w.tree ++ behind_places version w) (omega (arith, spelled_v.has.well_formed.tree.few)) (omega (arith, spelled_w.has.well_formed.tree.few)) first.1

  told : AreTold v w 1 v.tree w.tree (behind_places version v) (behind_places version w)
  told =
      places_tell version v w spelled_v.has.well_formed.tree spelled_w.has.well_formed.tree spelled_v.kinds spelled_w.kinds (contents_of v.shelf spelled_v.has.well_formed.versions.shelf_is) (contents_of w.shelf spelled_w.has.well_formed.versions.shelf_is) [] v.tree w.tree (behind_places version v) (behind_places version w) refl refl (omega (arith, second.0))
      (places_have v.tree spelled_v.has.well_formed.tree spelled_v.has.places) (places_have w.tree spelled_w.has.well_formed.tree spelled_w.has.places) second.1

  third : (length v.line ≡ length w.line) × (flat_map (claim_bytes version v) v.line ≡ flat_map (claim_bytes version w) w.line)
  third =
      one_spelled in_two (λ n. n < 2 ^ 16) u16_at fields_are_spelled.in_two (length v.line) (length w.line) (flat_map (claim_bytes version v) v.line) (flat_map (claim_bytes version w) w.line) (omega (arith, spelled_v.has.well_formed.few_claims)) (omega (arith, spelled_w.has.well_formed.few_claims)) told.rest

  claims : map (drafted v.drafts) v.line ≡ map (drafted w.drafts) w.line
  claims =
      claims_tell version v w [] [] third.0 (claims_have v spelled_v.has version v.line spelled_v.has.well_formed.claims spelled_v.has.owners spelled_v.notes) (claims_have w spelled_w.has version w.line spelled_w.has.well_formed.claims spelled_w.has.owners spelled_w.notes) (ap (λ (l : List ℕ). l ++ []) third.1)

  line_is : v.line ≡ w.line
  line_is = one_line v.drafts w.drafts v.line w.line claims

  -- the versions of a place, whether it is a part or not
  versions_are : (p : ℕ) → versions_of v.shelf p ≡ versions_of w.shelf p
  versions_are p = elim (cases_Bool (is_part v.tree p)) [
    | inl part ↦ elim (cases_lt (length v.tree) p) [
      | inl past ↦ no_versions v spelled_v.has p (λ is. absurd (omega (arith, is.0, past))) ∙ sym (no_versions w spelled_w.has p (λ is. absurd (omega (arith, is.0, past, ap length told.places))))
      | inr within ↦ told.versions p (positive p part) (omega (arith, within)) part
    ]
    | inr other ↦ (let never : (is_part v.tree p ≡ true → ⊥) = λ yes'. cc in no_versions v spelled_v.has p (λ is. never is.1) ∙ sym (no_versions w spelled_w.has p (λ is. never (subst (λ (t : List Place). is_part t p ≡ true) (sym told.places) is.1))))
  ]
    where
      positive : (q : ℕ) → is_part v.tree q ≡ true → 1 ≤ q
      positive zero part = absurd (no_library v.tree part)
      positive (suc q) part = omega arith

  Held_in : List Place → List Claim → SavedDraft → Type 0
  Held_in tree line x = standing_of tree line (Long x.claim) ≡ Some Held

  held : (u : Vault) → HasSnapshot u → All (λ (x : SavedDraft). standing_of u.tree u.line (Long x.claim) ≡ Some Held) u.drafts
  held u has = All-weaker (IsDraft u.tree u.line) (λ (x : SavedDraft). standing_of u.tree u.line (Long x.claim) ≡ Some Held) (λ x is. is.held) u.drafts has.well_formed.drafts.each

  drafts_are : v.drafts ≡ w.drafts
  drafts_are =
      one_drafts v.drafts w.drafts spelled_v.has.well_formed.drafts.ordered spelled_w.has.well_formed.drafts.ordered
      (same_drafts v.tree v.drafts w.drafts v.line (claims ∙ ap (λ (l : List Claim). map (drafted w.drafts) l) (sym line_is)) (held v spelled_v.has)
      (subst (λ (t : List Place). All (λ (x : SavedDraft). standing_of t v.line (Long x.claim) ≡ Some Held) w.drafts) (sym told.places)
      (subst (λ (l : List Claim). All (λ (x : SavedDraft). standing_of w.tree l (Long x.claim) ≡ Some Held) w.drafts) (sym line_is) (held w spelled_w.has))))

  pub snapshot_tells : v ≡ w
  snapshot_tells = λ i. record {
    tree = told.places i;
    shelf = shelf_is i;
    line = line_is i;
    drafts = drafts_are i;
    sessions = sessions_are i;
    last_session = last_sessions i;
    last_long = first.0 i;
    last_short = last_shorts i;
    door_count = doors i;
  }
    where
      shelf_is : v.shelf ≡ w.shelf
      shelf_is = one_shelf v.shelf w.shelf spelled_v.has.well_formed.versions.shelf_is spelled_w.has.well_formed.versions.shelf_is versions_are

      sessions_are : v.sessions ≡ w.sessions
      sessions_are = no_sessions v spelled_v.has ∙ sym (no_sessions w spelled_w.has)

      last_sessions : v.last_session ≡ w.last_session
      last_sessions = ap (λ (u : Vault). u.last_session) (sym spelled_v.has.durable) ∙ ap (λ (u : Vault). u.last_session) spelled_w.has.durable

      last_shorts : v.last_short ≡ w.last_short
      last_shorts = no_short v spelled_v.has ∙ sym (no_short w spelled_w.has)

      doors : v.door_count ≡ w.door_count
      doors = ap (λ (u : Vault). u.door_count) (sym spelled_v.has.durable) ∙ ap (λ (u : Vault). u.door_count) spelled_w.has.durable
