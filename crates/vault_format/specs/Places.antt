-- The places of a snapshot, and what the functions that read them return, part by part. This project's own.
use Rattle.std.specs.Prelude.{◌≡◌, ◌≢◌, ℕ, suc, ◌+◌, ◌^◌, ◌<◌, ◌≤◌, ◌==◌, true, false, if◌then◌else◌, List, [], ◌∷◌, ◌++◌, length, Option, None, Some, All}
use Rattle.std.specs.List.{flat_map}
use Rattle.vault_state.specs.declared.place.Place.{Place}
use Rattle.vault_state.specs.Limits.{longest_content}
use Rattle.vault_state.specs.Name.{IsName}
use Rattle.vault_state.specs.declared.place.Kind.{Kind}
use Rattle.vault_state.specs.declared.place.Kind.TheVariants.{Library, Project, Assembly, Part}
use Rattle.vault_state.specs.Tree.{depth, kind_of, is_part_kind, kind_under, IsTree}
use Rattle.vault_state.specs.Shelf.{versions_of, shelved, IsShelf}
use Rattle.vault_state.specs.Vault.{Vault, AreVersions, new_vault}
use Rattle.vault_journal.specs.Spelling.{in_four, name_bytes, content_bytes}
use Rattle.design_tree.specs.declared.tree.AddError.{AddError}
use Rattle.design_tree.specs.declared.tree.AddError.TheVariants as unmade
use Rattle.vault_format.specs.declared.version.FileVersion.{FileVersion}
use Rattle.vault_format.specs.declared.version.FileVersion.TheVariants.{One, Two}
use Rattle.vault_format.specs.declared.error.SnapshotError.{SnapshotError}
use Rattle.vault_format.specs.declared.error.SnapshotError.TheVariants.{NotWellFormed, NoMemory}
use Rattle.vault_format.specs.Snapshot.{versions_bytes, versions_field, kind_byte, kind_field, IsKindIn, AreKindsIn, place_bytes, places_bytes}

-- the vault of these places and versions, and of nothing else
abbrev pub vault_with : List Place → List (List (List ℕ)) → Vault
vault_with tree shelf = record new_vault { tree = tree; shelf = shelf }

-- the spelling of places and their versions: how many places there are, with the library, and each
abbrev pub places_of : FileVersion → List Place → List (List (List ℕ)) → List ℕ
places_of version tree shelf = in_four (length tree + 1) ++ places_bytes version (vault_with tree shelf) 1 tree

-- what has such a spelling: a tree whose names and kinds the version can spell, and the versions of its parts
pub record ArePlaces (version : FileVersion) (tree : List Place) (shelf : List (List (List ℕ))) : Type 0 where
  pub tree_is : IsTree tree
  pub kinds : AreKindsIn version tree
  pub named : All (λ (place : Place). IsName place.name) tree
  pub versions : AreVersions tree shelf

-- the spelling of these places stands at the front of bytes, and the rest behind it
pub record ArePlacesAt (version : FileVersion) (bytes : List ℕ) (tree : List Place) (shelf : List (List (List ℕ))) (rest : List ℕ)
    : Type 0 where
  pub are : ArePlaces version tree shelf
  pub spelled : bytes ≡ places_of version tree shelf ++ rest

-- the bytes begin with no spelling of places
abbrev pub BeginsWithNoPlaces : FileVersion → List ℕ → Type 0
BeginsWithNoPlaces version bytes = (tree : List Place) (shelf : List (List (List ℕ))) (rest : List ℕ)
    → ArePlaces version tree shelf → bytes ≢ places_of version tree shelf ++ rest

-- these places were read from the front of bytes, and the rest stands behind them
pub record AreReadTo (version : FileVersion) (tree : List Place) (shelf : List (List (List ℕ))) (bytes rest : List ℕ) : Type 0 where
  pub are : ArePlaces version tree shelf
  pub spelled : bytes ≡ places_bytes version (vault_with tree shelf) 1 tree ++ rest

-- more places were read from the front of bytes, behind those that were there
pub record AreReadOn (version : FileVersion) (tree : List Place) (shelf : List (List (List ℕ))) (tree_new : List Place)
    (shelf_new : List (List (List ℕ))) (bytes rest : List ℕ) : Type 0 where
  pub more : List Place
  pub are : ArePlaces version tree_new shelf_new
  pub grown : tree_new ≡ tree ++ more
  pub kept : (p : ℕ) → p ≤ length tree → versions_of shelf_new p ≡ versions_of shelf p
  pub spelled : bytes ≡ places_bytes version (vault_with tree_new shelf_new) (suc (length tree)) more ++ rest

-- no spelling of `count` places or more, with the library, begins with the places that are there and then these bytes
abbrev pub BeginsWithFewerPlaces : FileVersion → ℕ → List Place → List (List (List ℕ)) → List ℕ → Type 0
BeginsWithFewerPlaces version count tree shelf bytes = (all : List Place) (whole : List (List (List ℕ))) (rest : List ℕ)
    → count ≤ length all + 1 → ArePlaces version all whole
    → places_bytes version (vault_with tree shelf) 1 tree ++ bytes ≢ places_bytes version (vault_with all whole) 1 all ++ rest

-- the versions of each place are the first of those in the whole shelf
abbrev pub IsFrontOf : List (List (List ℕ)) → List (List (List ℕ)) → Type 0
IsFrontOf shelf whole = (place : ℕ) → (more : List (List ℕ)) × (versions_of whole place ≡ versions_of shelf place ++ more)

-- the shelf with these contents as versions of a place, one after another
abbrev pub shelf_with : List (List (List ℕ)) → ℕ → List (List ℕ) → List (List (List ℕ))
shelf_with shelf place [] = shelf
shelf_with shelf place (content ∷ contents) = shelf_with (shelved shelf place content) place contents

-- one content was read, and is the part's last version
pub record IsVersionRead (part : ℕ) (old new : List (List (List ℕ))) (bytes rest : List ℕ) : Type 0 where
  pub content : List ℕ
  pub short : length content ≤ longest_content
  pub spelled : bytes ≡ content_bytes content ++ rest
  pub shelf_is : new ≡ shelved old part content

-- the bytes begin with no content that a well-formed shelf may have as the part's next version
abbrev pub BeginsWithNoVersion : ℕ → List (List (List ℕ)) → List ℕ → Type 0
BeginsWithNoVersion part shelf bytes = (content : List ℕ) (whole : List (List (List ℕ))) (rest : List ℕ) → IsShelf whole
    → IsFrontOf (shelved shelf part content) whole → bytes ≢ content_bytes content ++ rest

-- `count` contents stand at the front of the bytes, and the rest behind them
pub record AreContentsAt (count : ℕ) (bytes rest : List ℕ) : Type 0 where
  pub contents : List (List ℕ)
  pub size : length contents ≡ count
  pub short : All (λ content. length content ≤ longest_content) contents
  pub spelled : bytes ≡ flat_map content_bytes contents ++ rest

-- fewer contents stand there
abbrev pub BeginsWithFewerContents : ℕ → List ℕ → Type 0
BeginsWithFewerContents count bytes = (rest : List ℕ) → AreContentsAt count bytes rest → ⊥

-- all versions of a part were read
pub record AreVersionsRead (part : ℕ) (old new : List (List (List ℕ))) (bytes rest : List ℕ) : Type 0 where
  pub contents : List (List ℕ)
  pub short : All (λ content. length content ≤ longest_content) contents
  pub spelled : bytes ≡ versions_bytes contents ++ rest
  pub shelf_is : new ≡ shelf_with old part contents
  pub well_formed : IsShelf new

-- the bytes begin with no versions that a well-formed shelf may have as the part's next ones
abbrev pub BeginsWithNoVersions : ℕ → List (List (List ℕ)) → List ℕ → Type 0
BeginsWithNoVersions part shelf bytes = (contents : List (List ℕ)) (whole : List (List (List ℕ))) (rest : List ℕ) → IsShelf whole
    → IsFrontOf (shelf_with shelf part contents) whole → bytes ≢ versions_bytes contents ++ rest

-- the error of reading a snapshot, if the tree refuses a place with this error
abbrev pub told_of : AddError → SnapshotError
told_of unmade.WrongKind = NotWellFormed
told_of unmade.Exists = NotWellFormed
told_of unmade.Limit = NotWellFormed
told_of unmade.NoMemory = NoMemory

-- the kind of a place under one of this kind, if it is no part
abbrev pub no_part_under : Kind → Kind
no_part_under Library = Project
no_part_under Project = Assembly
no_part_under Assembly = Assembly
no_part_under Part = Assembly

-- the kind at the front, for a place under this parent, and the bytes behind it. The first version spells no kind: the place has the
-- kind that is made there by default.
abbrev pub kind_before : FileVersion → List Place → ℕ → List ℕ → Option (Kind × List ℕ)
kind_before One tree parent bytes = Some (kind_under tree parent, bytes)
kind_before Two tree parent [] = None
kind_before Two tree parent (byte ∷ rest) =
    if byte == kind_byte true then Some (Part, rest)
    else if byte == kind_byte false then Some (no_part_under (kind_of tree parent), rest)
    else None

-- a place without its versions: its parent, its name and its kind
abbrev pub head_bytes : FileVersion → Place → List ℕ
head_bytes version place = in_four place.parent ++ name_bytes place.name ++ kind_field version (is_part_kind place.kind)

-- the parent, the name and the kind of a place were read, and it is the tree's last
pub record IsPlaceAdded (version : FileVersion) (old new : List Place) (bytes rest : List ℕ) : Type 0 where
  pub place : Place
  pub named : IsName place.name
  pub kind : IsKindIn version place.kind (suc (depth old place.parent))
  pub grown : new ≡ old ++ place ∷ []
  pub tree_is : IsTree new
  pub spelled : bytes ≡ head_bytes version place ++ rest

-- the bytes begin with no parent, name and kind of a place that may be the tree's next
abbrev pub BeginsWithNoName : FileVersion → List Place → List ℕ → Type 0
BeginsWithNoName version tree bytes = (place : Place) (rest : List ℕ) → IsTree (tree ++ place ∷ []) → IsName place.name
    → IsKindIn version place.kind (suc (depth tree place.parent)) → bytes ≢ head_bytes version place ++ rest

-- one place was read, with its versions if it is a part; the versions of the places before it stay
pub record IsPlaceRead (version : FileVersion) (tree : List Place) (shelf : List (List (List ℕ))) (tree_new : List Place)
    (shelf_new : List (List (List ℕ))) (bytes rest : List ℕ) : Type 0 where
  pub place : Place
  pub named : IsName place.name
  pub kind : IsKindIn version place.kind (suc (depth tree place.parent))
  pub grown : tree_new ≡ tree ++ place ∷ []
  pub tree_is : IsTree tree_new
  pub versions : AreVersions tree_new shelf_new
  pub kept : (p : ℕ) → p ≤ length tree → versions_of shelf_new p ≡ versions_of shelf p
  pub spelled : bytes ≡ place_bytes version (vault_with tree_new shelf_new) (suc (length tree)) place ++ rest

-- the bytes begin with no place that may be the next one, in a tree and a shelf that may have more places
abbrev pub BeginsWithNoPlace : FileVersion → List Place → List (List (List ℕ)) → List ℕ → Type 0
BeginsWithNoPlace version tree shelf bytes =
    (place : Place) (more : List Place) (whole : List (List (List ℕ))) (rest : List ℕ) → ArePlaces version (tree ++ place ∷ more) whole
    → ((p : ℕ) → p ≤ length tree → versions_of whole p ≡ versions_of shelf p)
    → bytes ≢ place_bytes version (vault_with (tree ++ place ∷ more) whole) (suc (length tree)) place ++ rest

-- the fields of a place in today's version, whether or not a tree may have it: its parent, its name, the byte of its kind and, if that is
-- a part's, its versions
pub record PlaceFields : Type 0 where
  pub parent : ℕ
  pub name : List ℕ
  pub kind : ℕ
  pub contents : List (List ℕ)

-- what each of them may be
pub record AreFields (fields : PlaceFields) : Type 0 where
  pub parent : fields.parent < 2 ^ 32
  pub named : IsName fields.name
  pub few : length fields.contents < 2 ^ 16
  pub short : All (λ content. length content ≤ longest_content) fields.contents

-- their spelling
abbrev pub fields_bytes : PlaceFields → List ℕ
fields_bytes fields =
    in_four fields.parent ++ (name_bytes fields.name ++ fields.kind ∷ versions_field (fields.kind == kind_byte true) fields.contents)

-- the fields of a place stand at the front of the bytes, and the rest behind them
pub record AreFieldsAt (bytes rest : List ℕ) : Type 0 where
  pub fields : PlaceFields
  pub are : AreFields fields
  pub spelled : bytes ≡ fields_bytes fields ++ rest

-- the bytes begin with no fields of a place
abbrev pub BeginsWithNoFields : List ℕ → Type 0
BeginsWithNoFields bytes = (rest : List ℕ) → AreFieldsAt bytes rest → ⊥
