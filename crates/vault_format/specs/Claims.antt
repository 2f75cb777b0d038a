-- The claims of a snapshot with their drafts, and what the functions that read them return. This project's own.
use Rattle.std.specs.Prelude.{◌≡◌, ◌≢◌, ℕ, ◌<◌, ◌≤◌, ◌^◌, List, [], ◌∷◌, ◌++◌, length, map, All, Option, Some}
use Rattle.std.specs.List.{flat_map}
use Rattle.vault_state.specs.declared.claims.Claim.{Claim}
use Rattle.vault_state.specs.declared.claims.Owner.TheVariants as owners
use Rattle.vault_state.specs.declared.ids.ClaimId.TheVariants.{Long}
use Rattle.vault_state.specs.Limits.{longest_content, most_drafts, most_claims}
use Rattle.vault_state.specs.Name.{IsName}
use Rattle.vault_state.specs.Shelf.{Draft}
use Rattle.vault_state.specs.Drafts.{SavedDraft, drafts_of}
use Rattle.vault_journal.specs.Spelling.{in_two, in_four, name_bytes, items_bytes, AreItems}
use Rattle.vault_journal.specs.Reading.{note_at}
use Rattle.vault_format.specs.declared.version.FileVersion.{FileVersion}
use Rattle.vault_format.specs.declared.version.FileVersion.TheVariants.{One, Two}
use Rattle.vault_format.specs.Snapshot.{draft_bytes, drafts_bytes, number_of, designer_of, note_field, IsNoteIn}

-- the note at the front of the bytes, as a version spells it, and the bytes behind it
abbrev pub note_before : FileVersion → List ℕ → Option (List ℕ × List ℕ)
note_before One bytes = Some ([], bytes)
note_before Two bytes = note_at bytes

-- a draft that has a spelling
pub record HasDraft (draft : Draft) : Type 0 where
  pub place : draft.place < 2 ^ 32
  pub content : length draft.content ≤ longest_content

-- a claim with its drafts, and its spelling
abbrev pub Drafted : Type 0
Drafted = Claim × List Draft

abbrev pub drafted_bytes : FileVersion → Drafted → List ℕ
drafted_bytes version x = in_four (number_of x.0.id) ++ name_bytes (designer_of x.0.owner) ++ note_field version x.0.note
    ++ items_bytes x.0.items ++ drafts_bytes x.1

-- a claim with its drafts, taken from all drafts
abbrev pub drafted : List SavedDraft → Claim → Drafted
drafted drafts claim = (claim, drafts_of drafts (number_of claim.id))

-- a claim that has a spelling in a version: a designer's check-out, with a note that the version can spell
pub record HasClaim (version : FileVersion) (x : Drafted) : Type 0 where
  pub long : x.0.id ≡ Long (number_of x.0.id)
  pub fits : number_of x.0.id < 2 ^ 32
  pub designer : x.0.owner ≡ owners.Designer (designer_of x.0.owner)
  pub name : IsName (designer_of x.0.owner)
  pub note : IsNoteIn version x.0.note
  pub items : AreItems x.0.items
  pub drafts : All HasDraft x.1

-- the same, with no more drafts than a check-out may have
pub record HasOwn (version : FileVersion) (x : Drafted) : Type 0 where
  pub claim : HasClaim version x
  pub few : length x.1 ≤ most_drafts

-- one draft was read, and appended to the others
pub record IsDraftRead (old new : List Draft) (bytes rest : List ℕ) : Type 0 where
  pub draft : Draft
  pub has : HasDraft draft
  pub pushed : new ≡ old ++ draft ∷ []
  pub spelled : bytes ≡ draft_bytes draft ++ rest

-- the bytes begin with no draft
abbrev pub BeginsWithNoDraft : List ℕ → Type 0
BeginsWithNoDraft bytes = (draft : Draft) (rest : List ℕ) → HasDraft draft → bytes ≢ draft_bytes draft ++ rest

-- the drafts of a check-out were read
pub record AreDraftsRead (drafts : List Draft) (bytes rest : List ℕ) : Type 0 where
  pub few : length drafts ≤ most_drafts
  pub each : All HasDraft drafts
  pub spelled : bytes ≡ drafts_bytes drafts ++ rest

-- the bytes begin with no drafts of a check-out
abbrev pub BeginsWithNoDrafts : List ℕ → Type 0
BeginsWithNoDrafts bytes =
    (drafts : List Draft) (rest : List ℕ) → length drafts ≤ most_drafts → All HasDraft drafts → bytes ≢ drafts_bytes drafts ++ rest

-- one claim was read with its drafts, and both were appended to the others
pub record IsClaimRead (version : FileVersion) (claims claims_new : List Claim) (drafts drafts_new : List (List Draft))
    (bytes rest : List ℕ) : Type 0 where
  pub told : Drafted
  pub has : HasOwn version told
  pub claims_are : claims_new ≡ claims ++ told.0 ∷ []
  pub drafts_are : drafts_new ≡ drafts ++ told.1 ∷ []
  pub spelled : bytes ≡ drafted_bytes version told ++ rest

-- the bytes begin with no claim
abbrev pub BeginsWithNoClaim : FileVersion → List ℕ → Type 0
BeginsWithNoClaim version bytes = (told : Drafted) (rest : List ℕ) → HasOwn version told → bytes ≢ drafted_bytes version told ++ rest

-- the spelling of claims: how many there are, and each
abbrev pub claims_bytes : FileVersion → List Drafted → List ℕ
claims_bytes version told = in_two (length told) ++ flat_map (drafted_bytes version) told

-- all claims were read, each with its drafts
pub record AreClaimsRead (version : FileVersion) (claims : List Claim) (drafts : List (List Draft)) (bytes rest : List ℕ) : Type 0 where
  pub told : List Drafted
  pub few : length told ≤ most_claims
  pub each : All (HasOwn version) told
  pub claims_are : claims ≡ map (λ (x : Drafted). x.0) told
  pub drafts_are : drafts ≡ map (λ (x : Drafted). x.1) told
  pub spelled : bytes ≡ claims_bytes version told ++ rest

-- the bytes begin with no spelling of claims
abbrev pub BeginsWithNoClaims : FileVersion → List ℕ → Type 0
BeginsWithNoClaims version bytes = (told : List Drafted) (rest : List ℕ) → length told ≤ most_claims → All (HasOwn version) told
    → bytes ≢ claims_bytes version told ++ rest
