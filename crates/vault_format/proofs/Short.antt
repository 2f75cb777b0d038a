-- How long the spelling of a vault is at most.
use Rattle.std.proofs.Common.{◌≡◌, ℕ, suc, ◌+◌, ◌*◌, ◌<◌, ◌≤◌, ◌^◌, ◌==◌, Bool, true, false, List, [], ◌∷◌, ◌++◌, length, drop, filter, ap, arith, length-append, All, inl, inr}
use Rattle.std.specs.List.{flat_map}
use Rattle.std.proofs.lemmas.Bool.{cases_lt}
use Rattle.std.proofs.lemmas.List.{drop_more, drop_all, get_or_past}
use Rattle.std.proofs.lemmas.List.Sums.{sum_by-cons}
use Rattle.std.proofs.lemmas.List.Concat.{flat_map-cons}
use Rattle.std.proofs.lemmas.List.Elements.{All-head, All-tail, All-map, All-filter, All-weaker}
use Rattle.vault_state.specs.declared.place.Place.{Place}
use Rattle.vault_state.specs.declared.claims.Claim.{Claim}
use Rattle.vault_state.specs.Name.{IsName}
use Rattle.vault_state.specs.declared.ids.ClaimId.{ClaimId}
use Rattle.vault_state.specs.declared.ids.ClaimId.TheVariants.{Long, Short}
use Rattle.vault_state.specs.Tree.{is_part}
use Rattle.vault_state.specs.Shelf.{Draft, versions_of, versions_weight, weight, content_weight}
use Rattle.vault_state.specs.Drafts.{SavedDraft, drafts_of}
use Rattle.vault_state.specs.Vault.{Vault, IsVault, IsNoteOf, IsClaim, IsDraft}
use Rattle.vault_journal.proofs.Sizes.{flat_map-item_bytes}
use Rattle.vault_journal.proofs.Sizes.{name_is_short}
use Rattle.vault_journal.specs.Spelling.{in_two, in_four, name_bytes, items_bytes, content_bytes}
use Rattle.vault_format.specs.declared.version.FileVersion.{FileVersion}
use Rattle.vault_format.specs.declared.version.FileVersion.TheVariants.{One, Two}
use Rattle.vault_format.specs.Laws.{SnapshotsAreShort, NoneIsLonger}
use Rattle.vault_format.specs.Snapshot.{current_version, spelling_of, versions_bytes, kind_field, kind_bytes, places_bytes, draft_bytes, drafts_bytes, note_field, claim_bytes, number_of, designer_of, HasSnapshot}

-- the contents of a place
contents_short : (versions : List (List ℕ)) → length (flat_map content_bytes versions) ≤ versions_weight versions
contents_short [] = omega arith
contents_short (content ∷ versions) =
    omega (arith, ap length (flat_map-cons content_bytes content versions), length-append (content_bytes content) (flat_map content_bytes versions), length-append (in_two (length content)) content, sum_by-cons content_weight content versions, contents_short versions)

-- the kind of a place, and its versions where it is a part
kind_short : (version : FileVersion) (b : Bool) → length (kind_field version b) ≤ 1
kind_short One b = omega arith
kind_short Two b = omega arith

part_short : (version : FileVersion) (b : Bool) (versions : List (List ℕ)) → length (kind_bytes version b versions) ≤ 3 + versions_weight versions
part_short version true versions = omega (arith, length-append (kind_field version true) (versions_bytes versions), kind_short version true, length-append (in_two (length versions)) (flat_map content_bytes versions), contents_short versions)
part_short version false versions = omega (arith, length-append (kind_field version false) [], kind_short version false)

-- what all places from one on weigh
weight_behind : (shelf : List (List (List ℕ))) (n : ℕ) → versions_weight (versions_of shelf n) + weight (drop (n + 1) shelf) ≤ weight (drop n shelf)
weight_behind shelf n = elim (cases_lt n (length shelf)) [
  | inl within ↦ (let split = drop_more shelf n [] within in omega (arith, ap (λ (l : List (List (List ℕ))). weight l) split, sum_by-cons versions_weight (versions_of shelf n) (drop (n + 1) shelf)))
  | inr past ↦ (let none = get_or_past shelf n [] past in omega (arith, ap (λ (l : List (List ℕ)). versions_weight l) none, ap (λ (l : List (List (List ℕ))). weight l) (drop_all (n + 1) shelf (omega (arith, past)))))
]

rest_weight : (shelf : List (List (List ℕ))) (n : ℕ) → versions_weight (versions_of shelf n) + weight (drop (suc n) shelf) ≤ weight (drop n shelf)
rest_weight shelf n = let next : n + 1 ≡ suc n = omega arith in let e = ap (λ (k : ℕ). weight (drop k shelf)) next in let h = weight_behind shelf n in omega (arith, e, h)

places_short : (version : FileVersion) (v : Vault) (n : ℕ) (places : List Place) → All (λ (place : Place). IsName place.name) places → length (places_bytes version v n places) ≤ 40 * length places + weight (drop n v.shelf)
places_short version v n [] names = omega arith
places_short version v n (place ∷ places) names =
    let of_place = kind_bytes version (is_part v.tree n) (versions_of v.shelf n) in
    omega (
      arith,
      length-append (place.name ++ of_place) (places_bytes version v (suc n) places),
      length-append place.name of_place,
      name_is_short place.name (All-head (λ (p : Place). IsName p.name) place places names),
      part_short version (is_part v.tree n) (versions_of v.shelf n),
      rest_weight v.shelf n,
      places_short version v (suc n) places (All-tail (λ (p : Place). IsName p.name) place places names),
    )

drafts_short : (drafts : List Draft) → All (λ (draft : Draft). length draft.content ≤ 1024) drafts → length (flat_map draft_bytes drafts) ≤ 1030 * length drafts
drafts_short [] short = omega arith
drafts_short (draft ∷ drafts) short =
    omega (
      arith,
      ap length (flat_map-cons draft_bytes draft drafts),
      length-append (draft_bytes draft) (flat_map draft_bytes drafts),
      length-append (in_four draft.place) (content_bytes draft.content),
      length-append (in_two (length draft.content)) draft.content,
      All-head (λ (d : Draft). length d.content ≤ 1024) draft drafts short,
      drafts_short drafts (All-tail (λ (d : Draft). length d.content ≤ 1024) draft drafts short),
    )

note_short : (id : ClaimId) (note : List ℕ) → IsNoteOf id note → length note ≤ 64
note_short (Long n) note is = is
note_short (Short n) note is = omega (arith, ap length is)

note_field_short : (version : FileVersion) (note : List ℕ) → length (note_field version note) ≤ 1 + length note
note_field_short One note = omega arith
note_field_short Two note = omega arith

module _ (version : FileVersion) (v : Vault) (is_vault : IsVault v) where
  drafts_of_short : (n : ℕ) → length (drafts_bytes (drafts_of v.drafts n)) ≤ 65921
  drafts_of_short n =
      let each =
      All-map (λ (draft : Draft). length draft.content ≤ 1024) (λ (x : SavedDraft). x.draft) (filter (λ (x : SavedDraft). x.claim == n) v.drafts)
      (All-filter (λ (x : SavedDraft). x.claim == n) (λ (x : SavedDraft). length x.draft.content ≤ 1024) v.drafts
      (All-weaker (IsDraft v.tree v.line) (λ (x : SavedDraft). length x.draft.content ≤ 1024) (λ x is. is.short) v.drafts is_vault.drafts.each)) in
      omega (arith, drafts_short (drafts_of v.drafts n) each, is_vault.drafts.few n)

  claims_short : (line : List Claim) → All (IsClaim v.tree v.sessions v.last_long v.last_short) line → All (λ (claim : Claim). IsName (designer_of claim.owner)) line → length (flat_map (claim_bytes version v) line) ≤ 66100 * length line
  claims_short [] are names = omega arith
  claims_short (claim ∷ line) are names =
      let name = designer_of claim.owner in
      let of_items = items_bytes claim.items in
      let of_drafts = drafts_bytes (drafts_of v.drafts (number_of claim.id)) in
      let is = All-head (IsClaim v.tree v.sessions v.last_long v.last_short) claim line are in
      omega (
        arith,
        ap length (flat_map-cons (claim_bytes version v) claim line),
        length-append (claim_bytes version v claim) (flat_map (claim_bytes version v) line),
        length-append (in_four (number_of claim.id) ++ name_bytes name ++ note_field version claim.note ++ of_items) of_drafts,
        length-append (in_four (number_of claim.id) ++ name_bytes name ++ note_field version claim.note) of_items,
        length-append (in_four (number_of claim.id) ++ name_bytes name) (note_field version claim.note),
        note_short claim.id claim.note is.noted,
        note_field_short version claim.note,
        length-append (in_four (number_of claim.id)) (name_bytes name),
        name_is_short name (All-head (λ (c : Claim). IsName (designer_of c.owner)) claim line names),
        flat_map-item_bytes claim.items,
        is.few,
        drafts_of_short (number_of claim.id),
        claims_short line (All-tail (IsClaim v.tree v.sessions v.last_long v.last_short) claim line are) (All-tail (λ (c : Claim). IsName (designer_of c.owner)) claim line names),
      )

  pub spelling_is_short : All (λ (place : Place). IsName place.name) v.tree → All (λ (claim : Claim). IsName (designer_of claim.owner)) v.line → length (spelling_of version v) ≤ 33862626
  spelling_is_short places owners =
      omega (
        arith,
        length-append (places_bytes version v 1 v.tree ++ in_two (length v.line)) (flat_map (claim_bytes version v) v.line),
        length-append (places_bytes version v 1 v.tree) (in_two (length v.line)),
        places_short version v 1 v.tree places,
        claims_short v.line is_vault.claims owners,
        is_vault.few_claims,
        is_vault.tree.few,
        is_vault.versions.shelf_is.light,
        all_weight v.shelf,
      )
    where
      all_weight : (shelf : List (List (List ℕ))) → weight (drop 1 shelf) ≤ weight shelf
      all_weight [] = omega arith
      all_weight (versions ∷ shelf) = omega (arith, sum_by-cons versions_weight versions shelf)

pub spelling_short : (version : FileVersion) (v : Vault) → HasSnapshot v → length (spelling_of version v) < 2 ^ 32
spelling_short version v has = let short = spelling_is_short version v has.well_formed has.places has.owners in omega (arith, short)

pub none_is_longer : NoneIsLonger
none_is_longer version v spelled = spelling_is_short version v spelled.has.well_formed spelled.has.places spelled.has.owners

pub spelled_short : SnapshotsAreShort
spelled_short v has = spelling_short current_version v has
