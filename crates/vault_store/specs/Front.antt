-- A snapshot that is read piece by piece. This project's own.
use Rattle.std.specs.Prelude.{◌≡◌, ◌≢◌, ℕ, suc, ◌+◌, ◌^◌, ◌<◌, ◌≤◌, IsTrue, List, ◌∷◌, ◌++◌, length, slice_range, Option, None, Some}
use Rattle.vault_state.specs.declared.place.Place.{Place}
use Rattle.vault_state.specs.Vault.{Vault}
use Rattle.vault_device.specs.Disk.{Disk}
use Rattle.vault_journal.specs.Spelling.{in_four}
use Rattle.vault_format.specs.declared.version.FileVersion.{FileVersion}
use Rattle.vault_format.specs.Snapshot.{current_version, place_bytes, places_bytes, spelling_of, HasSpelling}
use Rattle.vault_format.specs.Places.{vault_with, places_of, ArePlaces}
use Rattle.vault_format.specs.Files.{header}

-- these places stand between two offsets
pub record IsFrontRead (disk : Disk) (version : FileVersion) (from : ℕ) (tree : List Place) (shelf : List (List (List ℕ))) (at : ℕ)
    : Type 0 where
  pub are : ArePlaces version tree shelf
  pub size : at ≡ from + length (places_bytes version (vault_with tree shelf) 1 tree)
  pub bytes : IsTrue disk.honest → slice_range disk.shown from at ≡ places_bytes version (vault_with tree shelf) 1 tree

-- places were read from `at` on, at least one, up to the offset `next`, which is not behind `end`
pub record IsReadOn (disk : Disk) (version : FileVersion) (end at : ℕ) (tree : List Place) (shelf : List (List (List ℕ)))
    (tree_new : List Place) (shelf_new : List (List (List ℕ))) (next : ℕ) : Type 0 where
  pub after : at < next
  pub within : next ≤ end
  pub front : (from : ℕ) → IsFrontRead disk version from tree shelf at → IsFrontRead disk version from tree_new shelf_new next

-- behind the places stand the check-outs of this vault, up to an offset, and the whole is its spelling
pub record IsBackRead (disk : Disk) (version : FileVersion) (last_long : ℕ) (tree : List Place) (shelf : List (List (List ℕ)))
    (at end : ℕ) (base : Vault) : Type 0 where
  pub rest : List ℕ
  pub size : at + length rest ≡ end
  pub bytes : IsTrue disk.honest → slice_range disk.shown at end ≡ rest
  pub spelled : HasSpelling version base
  pub whole : in_four last_long ++ (places_of version tree shelf ++ rest) ≡ spelling_of version base

-- how many bytes a piece has at most
abbrev pub longest_piece : ℕ
longest_piece = 2 ^ 21

-- each place of this vault, with its versions, fits into a piece
abbrev pub FitIntoPieces : Vault → Type 0
FitIntoPieces v = (before : List Place) (place : Place) (behind : List Place) → v.tree ≡ before ++ place ∷ behind
    → length (place_bytes current_version v (suc (length before)) place) ≤ longest_piece

-- no list of `count` places (the library included) that fit into pieces continues these places up to an offset
abbrev pub AreFewerInPieces : Disk → ℕ → ℕ → ℕ → List Place → List (List (List ℕ)) → Type 0
AreFewerInPieces disk count end at tree shelf = IsTrue disk.honest → (all : List Place) (whole : List (List (List ℕ))) (rest : List ℕ)
    → length all + 1 ≡ count → ArePlaces current_version all whole → FitIntoPieces (vault_with all whole)
    → places_bytes current_version (vault_with tree shelf) 1 tree ++ slice_range disk.shown at end
    ≢ places_bytes current_version (vault_with all whole) 1 all ++ rest

-- the bytes behind these places don't complete them to a vault's spelling
abbrev pub IsNoBackRead : Disk → ℕ → List Place → List (List (List ℕ)) → ℕ → ℕ → Type 0
IsNoBackRead disk last_long tree shelf at end = IsTrue disk.honest → (v : Vault) → HasSpelling current_version v
    → in_four last_long ++ (places_of current_version tree shelf ++ slice_range disk.shown at end) ≢ spelling_of current_version v

-- between the header and an offset stands no snapshot of a vault whose places fit into pieces
abbrev pub IsNoneInPieces : Disk → ℕ → Type 0
IsNoneInPieces disk end = IsTrue disk.honest → (v : Vault) → HasSpelling current_version v → FitIntoPieces v
    → slice_range disk.shown header end ≢ spelling_of current_version v

-- the snapshot of this vault stands behind the header, up to an offset
pub record IsSnapshotRead (disk : Disk) (version : FileVersion) (base : Vault) (end : ℕ) : Type 0 where
  pub spelled : HasSpelling version base
  pub size : end ≡ header + length (spelling_of version base)
  pub bytes : IsTrue disk.honest → slice_range disk.shown header end ≡ spelling_of version base

-- no snapshot of a vault stands there
abbrev pub IsNoSnapshotRead : Disk → FileVersion → ℕ → Type 0
IsNoSnapshotRead disk version end = IsTrue disk.honest → (v : Vault) → HasSpelling version v
    → slice_range disk.shown header end ≢ spelling_of version v

-- the vault of the snapshot, or nothing where there is none
abbrev pub IsSnapshotOrNone : Disk → FileVersion → ℕ → Option Vault → Type 0
IsSnapshotOrNone disk version end (Some base) = IsSnapshotRead disk version base end
IsSnapshotOrNone disk version end None = IsNoSnapshotRead disk version end
