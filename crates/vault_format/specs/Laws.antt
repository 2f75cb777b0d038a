-- What is promised of the spellings of a vault. This project's own.
use Rattle.std.specs.Prelude.{◌≡◌, ℕ, ◌<◌, ◌≤◌, ◌^◌, length}
use Rattle.vault_state.specs.Vault.{Vault}
use Rattle.vault_format.specs.declared.version.FileVersion.{FileVersion}
use Rattle.vault_format.specs.declared.sizes.TheConstants.{MAX_SNAPSHOT}
use Rattle.vault_format.specs.Snapshot.{current_version, snapshot_of, spelling_of, HasSnapshot, HasSpelling}

-- the length of a snapshot fits into four bytes
abbrev pub SnapshotsAreShort : Type 0
SnapshotsAreShort = (v : Vault) → HasSnapshot v → length (snapshot_of v) < 2 ^ 32

-- the most bytes of a spelling
abbrev pub most_snapshot : ℕ
most_snapshot = MAX_SNAPSHOT

-- no spelling has more
abbrev pub NoneIsLonger : Type 0
NoneIsLonger = (version : FileVersion) (v : Vault) → HasSpelling version v → length (spelling_of version v) ≤ most_snapshot

-- no two vaults have the same spelling in a version
abbrev pub OneSpelling : Type 0
OneSpelling = (version : FileVersion) (v w : Vault) → HasSpelling version v → HasSpelling version w
    → spelling_of version v ≡ spelling_of version w → v ≡ w

-- each vault that has a snapshot has a spelling in today's version
abbrev pub AllAreSpelled : Type 0
AllAreSpelled = (v : Vault) → HasSnapshot v → HasSpelling current_version v
