-- What a pump finds waiting, and the order of a life's numbers. The phase table stands in vault_store. This project's own.
use Rattle.std.specs.Prelude.{◌≡◌, ◌≤◌, ℕ, false, List, [], ◌∷◌}
use Rattle.vault_model.specs.Said.{Effect}
use Rattle.vault_store.specs.declared.phase.Phase.{Phase}
use Rattle.vault_store.specs.Phases.{Waiting, Nothing, NoEffects, Effects, is_idle}
use Rattle.group_commit.specs.Entries.{Kept}

-- what waits, by the entries that aren't durable yet, and by their effects
abbrev pub waiting : List Kept → List Effect → Waiting
waiting [] effects = Nothing
waiting (kept ∷ rest) [] = NoEffects
waiting (kept ∷ rest) (effect ∷ more) = Effects

-- only settled (durable) entries are retired, at most all are settled and sealed, and in a commit or a snapshot the settled are sealed
pub record InOrder (all retired settled sealed : ℕ) (phase : Phase) : Type 0 where
  pub retired_settled : retired ≤ settled
  pub settled_all : settled ≤ all
  pub sealed_all : sealed ≤ all
  pub sealing : is_idle phase ≡ false → settled ≤ sealed
