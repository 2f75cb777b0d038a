-- The effects of a part of the history are its durable change.
use Rattle.std.proofs.Common.{◌≡◌, ℕ, ◌-◌, ◌≤◌, List, [], ◌∷◌, ◌++◌, take, drop, Option, None, Some, refl, sym, ap, ◌∙◌, subst}
use Rattle.std.specs.Prelude.{option_to_list}
use Rattle.vault_model.specs.Said.{Effect}
use Rattle.vault_state.specs.Vault.{Vault, IsVault, durable}
use Rattle.vault_model.specs.Step.{Outcome}
use Rattle.vault_model.specs.After.{IsDurableChange}
use Rattle.group_commit.specs.Entries.{Kept}
use Rattle.vault_format.specs.Files.{applied}
use Rattle.group_commit.specs.History.{replay, outcome_of, members, effects}
use Rattle.group_commit.specs.World.{World, history_to, vault_at}
use Rattle.group_commit.proofs.Facts.{well_formed_stays, effect_is_the_durable_change}
use Rattle.group_commit.proofs.Folds.{replay-append, members_part}
use Rattle.group_commit.proofs.Guarded.{replay_well_formed}

one_change : (v next last : Vault) (effect : Option Effect) (rest : List Effect) → IsDurableChange v effect next → applied (durable next) rest ≡ Some last → applied (durable v) (option_to_list effect ++ rest) ≡ Some last
one_change v next last None rest change e = subst (λ (w : Vault). applied w rest ≡ Some last) change e
one_change v next last (Some effect) rest change e = rw change e

pub effects_lead : (v : Vault) (entries : List Kept) → IsVault v → applied (durable v) (effects v entries) ≡ Some (durable (replay v (members entries)))
effects_lead v [] w = refl
effects_lead v (kept ∷ rest) w =
    let o : Outcome = outcome_of v kept.entry in
    one_change v o.vault (durable (replay o.vault (members rest))) o.effect (effects o.vault rest) (effect_is_the_durable_change v kept.entry.session kept.entry.command w)
    (effects_lead o.vault rest (well_formed_stays.1 v kept.entry.session kept.entry.command w))

pub effects_are_the_change : (w : World) (n m : ℕ) → IsVault w.first → n ≤ m → applied (durable (vault_at w n)) (effects (vault_at w n) (take (m - n) (drop n w.life))) ≡ Some (durable (vault_at w m))
effects_are_the_change w n m is h =
    effects_lead (vault_at w n) (take (m - n) (drop n w.life)) (replay_well_formed w.first (history_to w n) is)
    ∙ ap (λ (v : Vault). Some (durable v))
    (sym (replay-append w.first (history_to w n) (members (take (m - n) (drop n w.life)))) ∙ ap (replay w.first) (members_part w.earlier m n w.life h))
