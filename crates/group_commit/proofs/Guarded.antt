-- The vault after any history is well formed, and no two of its granted claims overlap.
use Rattle.std.proofs.Common.{List, [], ◌∷◌}
use Rattle.vault_state.specs.Vault.{Vault, IsVault, durable}
use Rattle.group_commit.specs.History.{Member, Given, Restart, moved, replay}
use Rattle.group_commit.specs.Laws.{IsGuarded}
use Rattle.group_commit.proofs.Facts.{well_formed_stays, held_is_durable, held_are_apart}

pub replay_well_formed : (v : Vault) (members : List Member) → IsVault v → IsVault (replay v members)
replay_well_formed v [] w = w
replay_well_formed v (Given entry ∷ members) w = replay_well_formed (moved v (Given entry)) members (well_formed_stays.1 v entry.session entry.command w)
replay_well_formed v (Restart ∷ members) w = replay_well_formed (durable v) members (well_formed_stays.2 v w)

guarded : (v : Vault) → IsVault v → IsGuarded v
guarded v w = record {
  well_formed = w;
  durably = well_formed_stays.2 v w;
  apart = held_are_apart v.tree v.line;
  durably_apart = held_are_apart (durable v).tree (durable v).line;
  held = λ n. held_is_durable v n w;
}

pub history_is_guarded : (first : Vault) (members : List Member) → IsVault first → IsGuarded (replay first members)
history_is_guarded first members is = guarded (replay first members) (replay_well_formed first members is)
