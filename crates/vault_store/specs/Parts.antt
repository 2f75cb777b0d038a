-- What is read of one file: its head, and behind a right head its body. This project's own.
use Rattle.std.specs.Prelude.{◌≡◌, ℕ, List, ◌++◌, length, take, Some}
use Rattle.std.specs.List.{AllByRecursion}
use Rattle.vault_model.specs.Said.{Effect}
use Rattle.vault_state.specs.Vault.{Vault}
use Rattle.vault_journal.specs.Gate.{IsClosed}
use Rattle.vault_format.specs.declared.version.FileVersion.{FileVersion}
use Rattle.vault_store.specs.declared.front.Head.{Head}
use Rattle.vault_store.specs.declared.front.Head.TheVariants.{Closed, Open, Damaged}
use Rattle.vault_store.specs.declared.body.Body.{Body}
use Rattle.vault_store.specs.declared.body.Body.TheVariants as bodies
use Rattle.vault_format.specs.Snapshot.{HasSpelling}
use Rattle.vault_format.specs.Files.{snapshot_bytes, frames_bytes, IsFrame, after_frames, IsClosedFile, head_of, HasHead}
use Rattle.vault_format.specs.Faults.{IsDamagedHead, IsBodyFault}

-- what the head of a file is: closed, right, or faulty there
abbrev pub IsHead : List ℕ → Head → Type 0
IsHead file Closed = IsClosedFile file
IsHead file (Open version generation) = HasHead version generation file
IsHead file (Damaged at) = IsDamagedHead file at

-- A file of this version and generation is whole: behind its head stand the snapshot of some vault and this many frames, which lead
-- from that to this vault; the tail gate stands behind them and is closed.
pub record IsWhole (version : FileVersion) (generation : ℕ) (file : List ℕ) (vault : Vault) (frames tail : ℕ) : Type 0 where
  pub base : Vault
  pub list : List (List Effect)
  pub spelled : HasSpelling version base
  pub each : AllByRecursion IsFrame list
  pub begins : take tail file ≡ (head_of version generation ++ snapshot_bytes version base) ++ frames_bytes list
  pub leads : after_frames base list ≡ Some vault
  pub frames_are : frames ≡ length list
  pub tail_is : tail ≡ length ((head_of version generation ++ snapshot_bytes version base) ++ frames_bytes list)
  pub closed : IsClosed tail file

-- what stands behind the head of a file: a vault, or a fault
abbrev pub IsBody : {A : Type 0} → FileVersion → ℕ → List ℕ → Body A → Type 0
IsBody version generation file (bodies.Whole vault frames tail) = IsWhole version generation file vault frames tail
IsBody version generation file (bodies.Damaged at) = IsBodyFault version file at
