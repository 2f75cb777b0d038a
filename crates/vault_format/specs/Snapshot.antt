-- The spellings of a durable vault, one in each version of the files. This project's own.
use Rattle.std.specs.Prelude.{◌≡◌, ℕ, suc, ◌+◌, Bool, true, false, List, [], ◌∷◌, ◌++◌, length, slice_get, Some, All}
use Rattle.std.specs.List.{flat_map}
use Rattle.vault_state.specs.declared.place.Place.{Place}
use Rattle.vault_state.specs.declared.claims.Claim.{Claim}
use Rattle.vault_state.specs.declared.claims.Owner.{Owner}
use Rattle.vault_state.specs.declared.claims.Owner.TheVariants as owners
use Rattle.vault_state.specs.declared.ids.ClaimId.{ClaimId}
use Rattle.vault_state.specs.declared.ids.ClaimId.TheVariants.{Long, Short}
use Rattle.vault_state.specs.Name.{IsName}
use Rattle.vault_state.specs.Note.{IsNote}
use Rattle.vault_state.specs.declared.place.Kind.{Kind}
use Rattle.vault_state.specs.Tree.{depth, is_part, kind_at}
use Rattle.vault_state.specs.Shelf.{Draft, versions_of}
use Rattle.vault_state.specs.Drafts.{drafts_of}
use Rattle.vault_state.specs.Vault.{Vault, IsVault}
use Rattle.vault_model.specs.After.{IsDurable}
use Rattle.vault_journal.specs.Spelling.{in_two, in_four, name_bytes, items_bytes, content_bytes, note_bytes}
use Rattle.vault_format.specs.declared.version.FileVersion.{FileVersion}
use Rattle.vault_format.specs.declared.version.FileVersion.TheVariants.{One, Two}

-- the version that is written today
abbrev pub current_version : FileVersion
current_version = Two

-- the versions of a part: how many there are, and each
abbrev pub versions_bytes : List (List ℕ) → List ℕ
versions_bytes versions = in_two (length versions) ++ flat_map content_bytes versions

-- the byte for a place's kind: 1 for a part, 0 for a project or an assembly
abbrev pub kind_byte : Bool → ℕ
kind_byte true = 1
kind_byte false = 0

-- which kinds of places a version can spell at a depth: the first only the kind that is made there by default
abbrev pub IsKindIn : FileVersion → Kind → ℕ → Type 0
IsKindIn One kind depth = kind ≡ kind_at depth
IsKindIn Two kind depth = Unit {0}

-- a version can spell each place's kind
abbrev pub AreKindsIn : FileVersion → List Place → Type 0
AreKindsIn version tree =
    (i : ℕ) (place : Place) → slice_get tree i ≡ Some place → IsKindIn version place.kind (suc (depth tree place.parent))

-- the kind as a version spells it; the first doesn't, since the kind follows from the place's depth
abbrev pub kind_field : FileVersion → Bool → List ℕ
kind_field One part = []
kind_field Two part = kind_byte part ∷ []

-- the versions, if the place is a part
abbrev pub versions_field : Bool → List (List ℕ) → List ℕ
versions_field true versions = versions_bytes versions
versions_field false versions = []

-- what follows a place's name: its kind and, for a part, its versions
abbrev pub kind_bytes : FileVersion → Bool → List (List ℕ) → List ℕ
kind_bytes version part versions = kind_field version part ++ versions_field part versions

-- the place with this number: its parent, its name, its kind and, for a part, its versions
abbrev pub place_bytes : FileVersion → Vault → ℕ → Place → List ℕ
place_bytes version v number place =
    in_four place.parent ++ name_bytes place.name ++ kind_bytes version (is_part v.tree number) (versions_of v.shelf number)

-- places; the first has this number
abbrev pub places_bytes : FileVersion → Vault → ℕ → List Place → List ℕ
places_bytes version v number [] = []
places_bytes version v number (place ∷ rest) = place_bytes version v number place ++ places_bytes version v (suc number) rest

-- a draft: its place and its content
abbrev pub draft_bytes : Draft → List ℕ
draft_bytes draft = in_four draft.place ++ content_bytes draft.content

-- the drafts of a check-out: how many there are, and each
abbrev pub drafts_bytes : List Draft → List ℕ
drafts_bytes drafts = length drafts ∷ flat_map draft_bytes drafts

-- the number of a claim
abbrev pub number_of : ClaimId → ℕ
number_of (Long n) = n
number_of (Short n) = n

-- the designer who owns a claim; a session's claim has none
abbrev pub designer_of : Owner → List ℕ
designer_of (owners.Designer name) = name
designer_of (owners.Session number) = []

-- a note as a version spells it; the first has no notes
abbrev pub note_field : FileVersion → List ℕ → List ℕ
note_field One note = []
note_field Two note = note_bytes note

-- which notes a version can spell: the first only the empty one
abbrev pub IsNoteIn : FileVersion → List ℕ → Type 0
IsNoteIn One note = note ≡ []
IsNoteIn Two note = IsNote note

-- a check-out: its number, its owner, its note, its items and its drafts
abbrev pub claim_bytes : FileVersion → Vault → Claim → List ℕ
claim_bytes version v claim = in_four (number_of claim.id) ++ name_bytes (designer_of claim.owner) ++ note_field version claim.note
    ++ items_bytes claim.items ++ drafts_bytes (drafts_of v.drafts (number_of claim.id))

-- The spelling of a vault in a version: the last number given to a check-out, how many places there are, with the library, each place
-- from 1 on, how many check-outs there are, and each in the order of the queue.
abbrev pub spelling_of : FileVersion → Vault → List ℕ
spelling_of version v = in_four v.last_long ++ in_four (length v.tree + 1) ++ places_bytes version v 1 v.tree ++ in_two (length v.line)
    ++ flat_map (claim_bytes version v) v.line

-- the spelling that is written today
abbrev pub snapshot_of : Vault → List ℕ
snapshot_of v = spelling_of current_version v

-- which vaults have a snapshot: the well-formed and durable ones, whose names are well formed
pub record HasSnapshot (v : Vault) : Type 0 where
  pub well_formed : IsVault v
  pub durable : IsDurable v
  pub places : All (λ (place : Place). IsName place.name) v.tree
  pub owners : All (λ (claim : Claim). IsName (designer_of claim.owner)) v.line

-- which vaults have a spelling in a version: those with a snapshot, whose kinds and notes the version can spell
pub record HasSpelling (version : FileVersion) (v : Vault) : Type 0 where
  pub has : HasSnapshot v
  pub kinds : AreKindsIn version v.tree
  pub notes : All (λ (claim : Claim). IsNoteIn version claim.note) v.line
