-- What applying an effect did, against what the definition says of it.
use Rattle.std.specs.Prelude.{◌≡◌, ℕ, if◌then◌else◌, Option, None, Some, Result, Ok, Err, IsSome}
use Rattle.std.specs.Option.{option_and_then}
use Rattle.vault_state.specs.declared.claims.Claim.{Claim}
use Rattle.vault_state.specs.declared.ids.ClaimId.TheVariants.{Long}
use Rattle.vault_state.specs.Claims.{claim_of, is_held}
use Rattle.vault_state.specs.Vault.{Vault}
use Rattle.vault_checkout.specs.declared.apply.ApplyError.{ApplyError}
use Rattle.vault_checkout.specs.declared.apply.ApplyError.TheVariants.{NotApplicable, NoMemory}

-- Done as defined; or not applicable, with nothing changed; or out of memory for what is applicable, with nothing changed.
abbrev pub Applies : Vault → Result (Unit {0}) ApplyError → Vault → Option Vault → Type 0
Applies old (Ok done) new next = next ≡ Some new
Applies old (Err NotApplicable) new next = (next ≡ None) × (new ≡ old)
Applies old (Err NoMemory) new next = IsSome next × (new ≡ old)

-- the long claim of this number, if it is granted
abbrev pub held_at : Vault → ℕ → Option Claim
held_at w number =
    option_and_then (λ (claim : Claim). if is_held w.tree w.line claim then Some claim else None) (claim_of w.line (Long number))
