-- Files worked out by hand, which the definitions have to give. This project's own.
use Rattle.std.specs.Prelude.{◌≡◌, [], ◌∷◌, ◌++◌, codes}
use Rattle.vault_model.specs.declared.effects.Effect.TheVariants as effects
use Rattle.vault_state.specs.declared.ids.Intent.TheVariants.{Change}
use Rattle.vault_state.specs.Vault.{Vault, new_vault}
use Rattle.vault_state.specs.declared.place.Kind.TheVariants.{Project}
use Rattle.vault_state.specs.Tree.{new_place}
use Rattle.vault_state.specs.Claims.{new_check_out}
use Rattle.vault_model.specs.Changes.{with_owner, with_note}
use Rattle.vault_format.specs.declared.version.FileVersion.TheVariants.{One, Two}
use Rattle.vault_format.specs.Snapshot.{snapshot_of, spelling_of}
use Rattle.vault_format.specs.Files.{frame_of, head_of, snapshot_bytes}
use Rattle.vault_store.specs.Create.{new_front, new_file}

-- 35 bytes: the head, ten bytes of a snapshot behind their number, and the tail gate
abbrev pub NewVault : Type 0
NewVault =
    new_file
    ≡ 1 ∷ 76 ∷ 76 ∷ 86 ∷ 65 ∷ 85 ∷ 76 ∷ 84 ∷ 0 ∷ 0 ∷ 0 ∷ 2 ∷ 0 ∷ 0 ∷ 0 ∷ 0 ∷ 0 ∷ 0 ∷ 0 ∷ 1
    ∷ 0 ∷ 0 ∷ 0 ∷ 10 ∷ 0 ∷ 0 ∷ 0 ∷ 0 ∷ 0 ∷ 0 ∷ 0 ∷ 1 ∷ 0 ∷ 0 ∷ 0 ∷ []

-- 47 bytes, once a project is committed
abbrev pub OneProject : Type 0
OneProject =
    new_front ++ frame_of (effects.Made 0 (codes "e") ∷ []) ++ 0 ∷ []
    ≡ 1 ∷ 76 ∷ 76 ∷ 86 ∷ 65 ∷ 85 ∷ 76 ∷ 84 ∷ 0 ∷ 0 ∷ 0 ∷ 2 ∷ 0 ∷ 0 ∷ 0 ∷ 0 ∷ 0 ∷ 0 ∷ 0 ∷ 1
    ∷ 0 ∷ 0 ∷ 0 ∷ 10 ∷ 0 ∷ 0 ∷ 0 ∷ 0 ∷ 0 ∷ 0 ∷ 0 ∷ 1 ∷ 0 ∷ 0
    ∷ 1 ∷ 0 ∷ 0 ∷ 0 ∷ 7 ∷ 1 ∷ 0 ∷ 0 ∷ 0 ∷ 0 ∷ 1 ∷ 101 ∷ 0 ∷ []

-- a project, and a check-out of it for change
abbrev pub checked_out : Vault
checked_out =
    record new_vault {
      tree = new_place 0 (codes "e") Project ∷ [];
      line = new_check_out 1 (codes "anna") (record { intent = Change; place = 1 } ∷ []) ∷ [];
      last_long = 1;
    }

-- its snapshot has 34 bytes
abbrev pub OneCheckOut : Type 0
OneCheckOut =
    snapshot_of checked_out
    ≡ 0 ∷ 0 ∷ 0 ∷ 1 ∷ 0 ∷ 0 ∷ 0 ∷ 2 ∷ 0 ∷ 0 ∷ 0 ∷ 0 ∷ 1 ∷ 101 ∷ 0 ∷ 0 ∷ 1
    ∷ 0 ∷ 0 ∷ 0 ∷ 1 ∷ 4 ∷ 97 ∷ 110 ∷ 110 ∷ 97 ∷ 0 ∷ 1 ∷ 1 ∷ 0 ∷ 0 ∷ 0 ∷ 1 ∷ 0 ∷ []

-- in the first version it had 32, with no kind behind the place's name and no note behind the owner's
abbrev pub OneOldCheckOut : Type 0
OneOldCheckOut =
    spelling_of One checked_out
    ≡ 0 ∷ 0 ∷ 0 ∷ 1 ∷ 0 ∷ 0 ∷ 0 ∷ 2 ∷ 0 ∷ 0 ∷ 0 ∷ 0 ∷ 1 ∷ 101 ∷ 0 ∷ 1
    ∷ 0 ∷ 0 ∷ 0 ∷ 1 ∷ 4 ∷ 97 ∷ 110 ∷ 110 ∷ 97 ∷ 1 ∷ 1 ∷ 0 ∷ 0 ∷ 0 ∷ 1 ∷ 0 ∷ []

-- 59 bytes, where a file of the first version and of generation 2 is written anew
abbrev pub OneMigrated : Type 0
OneMigrated =
    head_of Two 3 ++ snapshot_bytes Two checked_out ++ 0 ∷ []
    ≡ 1 ∷ 76 ∷ 76 ∷ 86 ∷ 65 ∷ 85 ∷ 76 ∷ 84 ∷ 0 ∷ 0 ∷ 0 ∷ 2 ∷ 0 ∷ 0 ∷ 0 ∷ 0 ∷ 0 ∷ 0 ∷ 0 ∷ 3
    ∷ 0 ∷ 0 ∷ 0 ∷ 34 ∷ 0 ∷ 0 ∷ 0 ∷ 1 ∷ 0 ∷ 0 ∷ 0 ∷ 2 ∷ 0 ∷ 0 ∷ 0 ∷ 0 ∷ 1 ∷ 101 ∷ 0 ∷ 0 ∷ 1
    ∷ 0 ∷ 0 ∷ 0 ∷ 1 ∷ 4 ∷ 97 ∷ 110 ∷ 110 ∷ 97 ∷ 0 ∷ 1 ∷ 1 ∷ 0 ∷ 0 ∷ 0 ∷ 1 ∷ 0 ∷ 0 ∷ []

-- the same once the check-out has a note: ben's name and the note stand there, one behind the other
abbrev pub given_and_noted : Vault
given_and_noted = with_note (with_owner checked_out 1 (codes "ben")) 1 (codes "ab")

abbrev pub OneNote : Type 0
OneNote =
    snapshot_of given_and_noted
    ≡ 0 ∷ 0 ∷ 0 ∷ 1 ∷ 0 ∷ 0 ∷ 0 ∷ 2 ∷ 0 ∷ 0 ∷ 0 ∷ 0 ∷ 1 ∷ 101 ∷ 0 ∷ 0 ∷ 1
    ∷ 0 ∷ 0 ∷ 0 ∷ 1 ∷ 3 ∷ 98 ∷ 101 ∷ 110 ∷ 2 ∷ 97 ∷ 98 ∷ 1 ∷ 1 ∷ 0 ∷ 0 ∷ 0 ∷ 1 ∷ 0 ∷ []

-- all of them
pub record Rows : Type 0 where
  pub new_vault_is : NewVault
  pub one_project : OneProject
  pub one_check_out : OneCheckOut
  pub one_old_check_out : OneOldCheckOut
  pub one_migrated : OneMigrated
  pub one_note : OneNote
