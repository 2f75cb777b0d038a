-- Lines of long claims alone. This project's own.
use Rattle.std.specs.Prelude.{ℕ, ◌≤◌, List, [], length, map, All}
use Rattle.std.specs.List.{IsDistinct}
use Rattle.vault_state.specs.declared.place.Place.{Place}
use Rattle.vault_state.specs.declared.claims.Claim.{Claim}
use Rattle.vault_state.specs.Claims.{same_id}
use Rattle.vault_state.specs.Vault.{IsClaim}
use Rattle.vault_state.specs.Limits.{most_claims}
use Rattle.long_locks.specs.Lines.{LineSeen}
use Rattle.long_locks.specs.declared.from_claims.FromClaimsError.{FromClaimsError}
use Rattle.long_locks.specs.declared.from_claims.FromClaimsError.TheVariants.{NotWellFormed, NoMemory}

-- these claims may be together in a vault that has no sessions, and has given no number to a short claim: so they are long
-- ones, of designers
pub record AreLongClaims (tree : List Place) (last_long : ℕ) (claims : List Claim) : Type 0 where
  pub few : length claims ≤ most_claims
  pub each : All (IsClaim tree [] last_long 0) claims
  pub apart : IsDistinct same_id (map (λ (c : Claim). c.id) claims)

-- the line of just these claims, weighed over the tree
abbrev pub line_of : List Place → ℕ → List Claim → LineSeen
line_of tree last_long claims = record { claims = claims; last_long = last_long; last_short = 0; tree = tree }

-- what an error says of the claims: `NotWellFormed` that they make no line; `NoMemory` that they make one
abbrev pub IsRefusalOf : List Place → ℕ → List Claim → FromClaimsError → Type 0
IsRefusalOf tree last_long claims NotWellFormed = AreLongClaims tree last_long claims → ⊥
IsRefusalOf tree last_long claims NoMemory = AreLongClaims tree last_long claims
