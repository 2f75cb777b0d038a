-- Claims kept by their ids.
use Rattle.std.specs.Prelude.{◌≡◌, ℕ, List, All}
use Rattle.vault_state.specs.declared.claims.Claim.{Claim}
use Rattle.vault_state.specs.declared.ids.ClaimId.{ClaimId}

-- claims in order, and the room for more
pub record ClaimsSeen : Type 0 where
  pub claims : List Claim
  pub room : ℕ

-- each claim is stored under its own id
abbrev pub AreKeyed : List (ClaimId × Claim) → Type 0
AreKeyed entries = All (λ (e : ClaimId × Claim). e.0 ≡ e.1.id) entries
