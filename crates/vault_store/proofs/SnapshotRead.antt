-- A snapshot, read field by field.
use Rattle.std.proofs.Common.{◌≡◌, ◌≢◌, ℕ, ◌<◌, ◌≤◌, ◌^◌, ◌==◌, Bool, true, false, List, [], ◌∷◌, ◌++◌, length, map, Some, None, refl, sym, ◌∙◌, ap, subst, arith, append_assoc, All}
use Rattle.std.specs.List.{flat_map}
use Rattle.std.proofs.lemmas.Bool.Decides.{nat_tests}
use Rattle.std.proofs.lemmas.List.{length-map, append-nil}
use Rattle.std.proofs.lemmas.List.Folds.{flat_map-map}
use Rattle.std.proofs.lemmas.List.Elements.{All-head, All-tail, All-weaker, All-map}
use Rattle.vault_state.specs.declared.claims.Claim.{Claim}
use Rattle.vault_state.specs.declared.ids.ClaimId.TheVariants.{Long}
use Rattle.vault_state.specs.declared.place.Place.{Place}
use Rattle.vault_state.specs.Limits.{most_claims}
use Rattle.vault_state.specs.Name.{IsName}
use Rattle.vault_state.specs.Shelf.{Draft}
use Rattle.vault_state.specs.Drafts.{SavedDraft, drafts_of}
use Rattle.vault_state.specs.Vault.{Vault}
use Rattle.check_outs.specs.Parts.{Parts, drafts_under, parts_of, IsVaultOf}
use Rattle.vault_journal.specs.Reading.{u16_at, u32_at}
use Rattle.vault_journal.specs.Spelling.{in_two, in_four}
use Rattle.vault_journal.proofs.OneSpelling.{fields_are_spelled}
use Rattle.vault_format.specs.declared.version.FileVersion.{FileVersion}
use Rattle.vault_format.specs.Snapshot.{spelling_of, claim_bytes, AreKindsIn, IsNoteIn, number_of, designer_of, HasSpelling}
use Rattle.vault_format.specs.Places.{places_of, ArePlacesAt, BeginsWithNoPlaces}
use Rattle.vault_format.specs.Claims.{Drafted, drafted_bytes, drafted, HasClaim, HasOwn, claims_bytes, AreClaimsRead, BeginsWithNoClaims}
use Rattle.vault_format.proofs.OneReading.{one_spelled}
use Rattle.vault_format.proofs.SpelledLists.{lists_tell}
use Rattle.vault_format.proofs.SpelledClaims.{claims_of}
use Rattle.vault_format.proofs.Spelled.{claims_have}
use Rattle.vault_format.proofs.PlacesRead.{places_spelled, has_places, one_places}
use Rattle.vault_format.proofs.DraftsRead.{one_read, none_read}
use Rattle.vault_format.proofs.ClaimsRead.{own_tells}

-- the claims of a vault with their drafts
abbrev told_of : Vault → List Drafted
told_of v = map (drafted v.drafts) v.line

claims_split : (version : FileVersion) (v : Vault) → in_two (length v.line) ++ flat_map (claim_bytes version v) v.line ≡ claims_bytes version (told_of v) ++ []
claims_split version v =
    ap (λ (n : ℕ). in_two n ++ flat_map (claim_bytes version v) v.line) (sym (length-map v.line (drafted v.drafts)))
    ∙ ap (λ (l : List ℕ). in_two (length (told_of v)) ++ l) (sym (flat_map-map (drafted_bytes version) (drafted v.drafts) v.line))
    ∙ sym (append-nil (claims_bytes version (told_of v)))

-- a snapshot, from its fields
abbrev whole : FileVersion → ℕ → List Place → List (List (List ℕ)) → List Drafted → List ℕ
whole version n tree shelf told = in_four n ++ (places_of version tree shelf ++ (claims_bytes version told ++ []))

snapshot_whole : (version : FileVersion) (v : Vault) → spelling_of version v ≡ whole version v.last_long v.tree v.shelf (told_of v)
snapshot_whole version v = places_spelled version v ∙ ap (λ (l : List ℕ). in_four v.last_long ++ (places_of version v.tree v.shelf ++ l)) (claims_split version v)

-- what the claims of a vault are
own_have : (version : FileVersion) (v : Vault) → HasSpelling version v → All (λ (c : Claim). HasOwn version (drafted v.drafts c)) v.line
own_have version v spelled =
    All-weaker (λ (c : Claim). HasClaim version (drafted v.drafts c)) (λ (c : Claim). HasOwn version (drafted v.drafts c)) (λ c is. record { claim = is; few = spelled.has.well_formed.drafts.few (number_of c.id) }) v.line
    (claims_have v spelled.has version v.line spelled.has.well_formed.claims spelled.has.owners spelled.notes)

told_have : (version : FileVersion) (v : Vault) → HasSpelling version v → All (HasOwn version) (told_of v)
told_have version v spelled = All-map (HasOwn version) (drafted v.drafts) v.line (own_have version v spelled)

few_told : (version : FileVersion) (v : Vault) → HasSpelling version v → length (told_of v) ≤ most_claims
few_told version v spelled = omega (arith, length-map v.line (drafted v.drafts), spelled.has.well_formed.few_claims)

-- claims are determined by their spelling
one_told : (version : FileVersion) (xs ys : List Drafted) (a b : List ℕ) → length xs ≤ most_claims → length ys ≤ most_claims → All (HasOwn version) xs → All (HasOwn version) ys → claims_bytes version xs ++ a ≡ claims_bytes version ys ++ b → (xs ≡ ys) × (a ≡ b)
one_told version xs ys a b few_xs few_ys has_xs has_ys same =
    let split = sym (append_assoc (in_two (length xs)) (flat_map (drafted_bytes version) xs) a) ∙ same ∙ append_assoc (in_two (length ys)) (flat_map (drafted_bytes version) ys) b in
    let sizes = one_spelled in_two (λ n. n < 2 ^ 16) u16_at fields_are_spelled.in_two (length xs) (length ys) (flat_map (drafted_bytes version) xs ++ a) (flat_map (drafted_bytes version) ys ++ b) (omega (arith, few_xs)) (omega (arith, few_ys)) split in
    lists_tell (drafted_bytes version) (HasOwn version) (own_tells version) xs ys a b sizes.0 has_xs has_ys sizes.1

-- the drafts of claims that are spelled
under_own : (drafts : List SavedDraft) (line : List Claim) → All (λ (c : Claim). c.id ≡ Long (number_of c.id)) line → map (λ (c : Claim). drafts_under drafts c.id) line ≡ map (λ (x : Drafted). x.1) (map (drafted drafts) line)
under_own drafts [] long = refl
under_own drafts (c ∷ line) long =
    ap (λ (d : List Draft). d ∷ map (λ (c : Claim). drafts_under drafts c.id) line) (ap (drafts_under drafts) (All-head (λ (c : Claim). c.id ≡ Long (number_of c.id)) c line long))
    ∙ ap (λ (ds : List (List Draft)). drafts_of drafts (number_of c.id) ∷ ds) (under_own drafts line (All-tail (λ (c : Claim). c.id ≡ Long (number_of c.id)) c line long))

told_again : (version : FileVersion) (drafts : List SavedDraft) (told : List Drafted) → All (HasOwn version) told → map (λ (c : Claim). drafts_under drafts c.id) (map (λ (x : Drafted). x.0) told) ≡ map (λ (x : Drafted). x.1) told → told ≡ map (drafted drafts) (map (λ (x : Drafted). x.0) told)
told_again version drafts [] has same = refl
told_again version drafts (x ∷ told) has same =
    let first : drafts_under drafts x.0.id ≡ x.1 = cc in
    let others : map (λ (c : Claim). drafts_under drafts c.id) (map (λ (y : Drafted). y.0) told) ≡ map (λ (y : Drafted). y.1) told = cc in
    let own : x.1 ≡ drafts_of drafts (number_of x.0.id) = sym first ∙ ap (drafts_under drafts) (All-head (HasOwn version) x told has).claim.long in
    ap (λ (ds : List Draft). (x.0, ds) ∷ told) own ∙ ap (λ (xs : List Drafted). (x.0, drafts_of drafts (number_of x.0.id)) ∷ xs) (told_again version drafts told (All-tail (HasOwn version) x told has) others)

-- whether bytes are left
pub is_end : (end : List ℕ) (b : Bool) → b ≡ (length end == 0) → b ≡ true → end ≡ []
is_end [] b e yes' = refl
is_end (x ∷ end) b e yes' = let same : (length (x ∷ end) == 0) ≡ true = sym e ∙ yes' in let none : length (x ∷ end) ≡ 0 = grind (arith, nat_tests, same) in absurd (omega (arith, none))

pub not_end : (end : List ℕ) (b : Bool) → b ≡ (length end == 0) → b ≡ false → end ≢ []
not_end [] b e no' nil = let clash : true ≡ false = sym e ∙ no' in cc
not_end (x ∷ end) b e no' nil = cc

module _ (version : FileVersion) (bytes : List ℕ) where
  -- no vault has these bytes for its snapshot
  abbrev pub IsNoSnapshot : Type 0
  IsNoSnapshot = (v : Vault) → HasSpelling version v → bytes ≢ spelling_of version v

  pub no_last : u32_at bytes ≡ None → IsNoSnapshot
  no_last none v has same =
      none_read in_four (λ n. n < 2 ^ 32) u32_at fields_are_spelled.in_four bytes v.last_long (places_of version v.tree v.shelf ++ (claims_bytes version (told_of v) ++ [])) none (omega (arith, has.has.well_formed.numbers.long)) (same ∙ snapshot_whole version v)

  module _ (last_long : ℕ) (after : List ℕ) (got : u32_at bytes ≡ Some (last_long, after)) where
    pub at_places : (v : Vault) → HasSpelling version v → bytes ≡ spelling_of version v → (last_long ≡ v.last_long) × (after ≡ places_of version v.tree v.shelf ++ (claims_bytes version (told_of v) ++ []))
    at_places v has same =
        one_read in_four (λ n. n < 2 ^ 32) u32_at fields_are_spelled.in_four bytes last_long v.last_long after (places_of version v.tree v.shelf ++ (claims_bytes version (told_of v) ++ [])) got (omega (arith, has.has.well_formed.numbers.long)) (same ∙ snapshot_whole version v)

    pub no_places : BeginsWithNoPlaces version after → IsNoSnapshot
    no_places none v has same = none v.tree v.shelf (claims_bytes version (told_of v) ++ []) (has_places version v has) (at_places v has same).1

    module _ (tree : List Place) (shelf : List (List (List ℕ))) (rest : List ℕ) (places : ArePlacesAt version after tree shelf rest) where
      at_claims : (v : Vault) → HasSpelling version v → bytes ≡ spelling_of version v → (tree ≡ v.tree) × (shelf ≡ v.shelf) × (rest ≡ claims_bytes version (told_of v) ++ [])
      at_claims v has same = one_places version tree v.tree shelf v.shelf rest (claims_bytes version (told_of v) ++ []) places.are (has_places version v has) (sym places.spelled ∙ (at_places v has same).1)

      pub no_claims : BeginsWithNoClaims version rest → IsNoSnapshot
      no_claims none v has same = none (told_of v) [] (few_told version v has) (told_have version v has) (at_claims v has same).2

      module _ (claims : List Claim) (drafts : List (List Draft)) (end : List ℕ) (read : AreClaimsRead version claims drafts rest end) where
        at_end : (v : Vault) → HasSpelling version v → bytes ≡ spelling_of version v → (read.told ≡ told_of v) × (end ≡ [])
        at_end v has same = one_told version read.told (told_of v) end [] read.few (few_told version v has) read.each (told_have version v has) (sym read.spelled ∙ (at_claims v has same).2)

        pub more_behind : end ≢ [] → IsNoSnapshot
        more_behind some v has same = some (at_end v has same).1

        parts_are : (v : Vault) → HasSpelling version v → bytes ≡ spelling_of version v → parts_of v ≡ record { tree = tree; shelf = shelf; last_long = last_long; claims = claims; drafts = drafts }
        parts_are v has same = λ i. record {
          tree = sym (at_claims v has same).0 i;
          shelf = sym (at_claims v has same).1 i;
          last_long = sym (at_places v has same).0 i;
          claims = lines i;
          drafts = owns i;
        }
          where
            lines : v.line ≡ claims
            lines = sym (read.claims_are ∙ ap (λ (xs : List Drafted). map (λ (x : Drafted). x.0) xs) (at_end v has same).0 ∙ claims_of v.drafts v.line)

            owns : map (λ (c : Claim). drafts_under v.drafts c.id) v.line ≡ drafts
            owns =
                under_own v.drafts v.line (All-weaker (λ (c : Claim). HasOwn version (drafted v.drafts c)) (λ (c : Claim). c.id ≡ Long (number_of c.id)) (λ c is. is.claim.long) v.line (own_have version v has))
                ∙ ap (λ (xs : List Drafted). map (λ (x : Drafted). x.1) xs) (sym (at_end v has same).0)
                ∙ sym read.drafts_are

        pub no_parts : ((v : Vault) → IsVaultOf (record { tree = tree; shelf = shelf; last_long = last_long; claims = claims; drafts = drafts }) v → ⊥) → IsNoSnapshot
        no_parts none v has same = none v (record { well_formed = has.has.well_formed; durable = has.has.durable; parts_are = parts_are v has same })

        -- a vault of the parts that were read
        module _ (v : Vault) (is : IsVaultOf (record { tree = tree; shelf = shelf; last_long = last_long; claims = claims; drafts = drafts }) v) where
          trees : v.tree ≡ tree
          trees = ap (λ (p : Parts). p.tree) is.parts_are

          numbers : v.last_long ≡ last_long
          numbers = ap (λ (p : Parts). p.last_long) is.parts_are

          lines : v.line ≡ map (λ (x : Drafted). x.0) read.told
          lines = ap (λ (p : Parts). p.claims) is.parts_are ∙ read.claims_are

          owns : map (λ (c : Claim). drafts_under v.drafts c.id) v.line ≡ map (λ (x : Drafted). x.1) read.told
          owns = ap (λ (p : Parts). p.drafts) is.parts_are ∙ read.drafts_are

          told_is : read.told ≡ told_of v
          told_is =
              told_again version v.drafts read.told read.each (ap (λ (l : List Claim). map (λ (c : Claim). drafts_under v.drafts c.id) l) (sym lines) ∙ owns)
              ∙ ap (λ (l : List Claim). map (drafted v.drafts) l) (sym lines)

          pub has_spelling : HasSpelling version v
          has_spelling = record {
            has = record {
              well_formed = is.well_formed;
              durable = is.durable;
              places = subst (λ (t : List Place). All (λ (place : Place). IsName place.name) t) (sym trees) places.are.named;
              owners = subst (λ (l : List Claim). All (λ (c : Claim). IsName (designer_of c.owner)) l) (sym lines)
                  (All-map (λ (c : Claim). IsName (designer_of c.owner)) (λ (x : Drafted). x.0) read.told (All-weaker (HasOwn version) (λ (x : Drafted). IsName (designer_of x.0.owner)) (λ x own. own.claim.name) read.told read.each));
            };
            kinds = subst (λ (t : List Place). AreKindsIn version t) (sym trees) places.are.kinds;
            notes = subst (λ (l : List Claim). All (λ (c : Claim). IsNoteIn version c.note) l) (sym lines)
                (All-map (λ (c : Claim). IsNoteIn version c.note) (λ (x : Drafted). x.0) read.told (All-weaker (HasOwn version) (λ (x : Drafted). IsNoteIn version x.0.note) (λ x own. own.claim.note) read.told read.each));
          }

          pub is_snapshot : bytes ≡ in_four last_long ++ after → end ≡ [] → bytes ≡ spelling_of version v
          is_snapshot here empty =
              here
              ∙ ap (λ (l : List ℕ). in_four last_long ++ l) (places.spelled ∙ ap (λ (l : List ℕ). places_of version tree shelf ++ l) (read.spelled ∙ ap (λ (l : List ℕ). claims_bytes version read.told ++ l) empty))
              ∙ ap (λ (n : ℕ). whole version n tree shelf read.told) (sym numbers)
              ∙ ap (λ (t : List Place). whole version v.last_long t shelf read.told) (sym trees)
              ∙ ap (λ (s : List (List (List ℕ))). whole version v.last_long v.tree s read.told) (sym (ap (λ (p : Parts). p.shelf) is.parts_are))
              ∙ ap (whole version v.last_long v.tree v.shelf) told_is
              ∙ sym (snapshot_whole version v)
