-- What each of two files is found to be, by the bytes of both. This project's own.
use Rattle.std.specs.Prelude.{◌≡◌, ◌⊎◌, ℕ, ◌<◌, ◌≤◌, List, Option, None, Some}
use Rattle.vault_state.specs.Vault.{Vault}
use Rattle.vault_store.specs.declared.opening.OpenError.{OpenError}
use Rattle.vault_format.specs.declared.version.FileVersion.{FileVersion}
use Rattle.vault_format.specs.Files.{IsClosedFile, StandFor, HasHead, HasRightHead}
use Rattle.vault_format.specs.Faults.{IsDamagedHead, IsBodyFault}
use Rattle.vault_store.specs.Opening.{IsFound, IsNotOpened}
use Rattle.vault_store.specs.Parts.{IsWhole}
use Rattle.vault_inspector.specs.declared.report.FileState.{FileState}
use Rattle.vault_inspector.specs.declared.report.FileState.TheVariants.{Closed, Open, Older, Damaged}

-- The first file is read as the active one: its head is right, and no right head of the second has a greater generation.
pub record IsFirstActive (first second : List ℕ) (version : FileVersion) (generation : ℕ) : Type 0 where
  pub head : HasHead version generation first
  pub newest : (other : ℕ) → HasRightHead other second → other ≤ generation

-- The second file is read as the active one: its head is right, and each right head of the first has a smaller generation.
pub record IsSecondActive (first second : List ℕ) (version : FileVersion) (generation : ℕ) : Type 0 where
  pub head : HasHead version generation second
  pub newest : (other : ℕ) → HasRightHead other first → other < generation

-- a file is whole behind its head, with this number of frames and its tail gate at this offset
abbrev pub IsWholeFile : FileVersion → ℕ → List ℕ → ℕ → ℕ → Type 0
IsWholeFile version generation file frames tail = (vault : Vault) × IsWhole version generation file vault frames tail

-- both heads are right, and the other file's has a greater generation
abbrev pub IsOlder : ℕ → List ℕ → List ℕ → Type 0
IsOlder generation file other = HasRightHead generation file × ((newer : ℕ) × (generation < newer) × HasRightHead newer other)

-- both heads are right and of one generation
abbrev pub AreAlike : List ℕ → List ℕ → Type 0
AreAlike first second = (generation : ℕ) × HasRightHead generation first × HasRightHead generation second

-- what the first file is found to be
abbrev pub IsFirstState : List ℕ → List ℕ → FileState → Type 0
IsFirstState first second Closed = IsClosedFile first
IsFirstState first second (Open generation frames tail version) =
    IsFirstActive first second version generation × IsWholeFile version generation first frames tail
IsFirstState first second (Older generation) = IsOlder generation first second
IsFirstState first second (Damaged offset) =
    IsDamagedHead first offset
    ⊎ ((version : FileVersion) × (generation : ℕ) × IsFirstActive first second version generation × IsBodyFault version first offset)

-- what the second file is found to be
abbrev pub IsSecondState : List ℕ → List ℕ → FileState → Type 0
IsSecondState first second Closed = IsClosedFile second
IsSecondState first second (Open generation frames tail version) =
    IsSecondActive first second version generation × IsWholeFile version generation second frames tail
IsSecondState first second (Older generation) = IsOlder generation second first
IsSecondState first second (Damaged offset) =
    IsDamagedHead second offset
    ⊎ ((offset ≡ 12) × AreAlike first second)
    ⊎ ((version : FileVersion) × (generation : ℕ) × IsSecondActive first second version generation × IsBodyFault version second offset)

-- the vault that both files stand for; or none, where they aren't opened because of what is found in them
abbrev pub IsVaultFound : List ℕ → List ℕ → Option Vault → Type 0
IsVaultFound first second (Some vault) = StandFor first second vault
IsVaultFound first second None = (why : OpenError) × IsFound why × IsNotOpened first second why
