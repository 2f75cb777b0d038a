-- A vault by its fields, and what every vault keeps.
use Rattle.std.specs.Prelude.{◌≡◌, ℕ, ◌+◌, ◌<◌, ◌^◌, List, length}
use Rattle.vault_state.specs.Vault.{Vault}
use Rattle.vault_device.specs.Disk.{Disk}
use Rattle.vault_store.specs.Seen.{Keeps}
use Rattle.group_commit.specs.declared.vault.Vault.TheInside.{Inside}
use Rattle.group_commit.specs.Entries.{Kept, told_in}
use Rattle.group_commit.specs.History.{replay, members}
use Rattle.group_commit.specs.View.{length_of, book_of}
use Rattle.group_commit.specs.Seen.{VaultSeen, IsSoundView, state_of}

-- what contracts see of the fields
abbrev pub seen_of : {D A : Type 0} → Inside D A → VaultSeen D
seen_of v = record {
  view = record {
    base = replay v.base.value (members v.bygone.items);
    kept = v.kept;
    settled = v.settled;
    sealed = v.sealed;
    retired = v.retired;
    told = v.told;
    phase = v.store.phase;
    broken = v.broken;
  };
  life = v.life;
  store = v.store;
}

-- the entries that are gone: `retired` is their number, and `told` the number of acknowledged ones among them and the kept entries
pub record AreGone (gone kept : List Kept) (retired told : ℕ) : Type 0 where
  pub retired_is : retired ≡ length gone
  pub told_is : told ≡ told_in gone + told_in kept

-- the book is the vault after the kept entries, the view is sound, and the store keeps what the view says
pub record IsSoundVault {D : Type 0} (disk : D → Disk) (seen : VaultSeen D) (book : Vault) : Type 0 where
  -- invariant 1 of src/lib.rt
  pub book_is : book ≡ book_of seen.view
  -- invariants 2 to 5, and 7
  pub sound : IsSoundView seen.view
  -- the number of entries fits in 64 bits
  pub fits : length_of seen.view < 2 ^ 64
  -- invariant 6
  pub stands : Keeps disk seen.store (state_of seen.view)
