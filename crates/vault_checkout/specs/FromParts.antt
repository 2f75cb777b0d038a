-- Why parts make no book. This project's own.
use Rattle.vault_state.specs.Vault.{Vault}
use Rattle.check_outs.specs.Parts.{Parts, IsVaultOf}
use Rattle.vault_checkout.specs.declared.from_parts.FromPartsError.{FromPartsError}
use Rattle.vault_checkout.specs.declared.from_parts.FromPartsError.TheVariants.{NotWellFormed, NoMemory}

-- what an error says of the parts: `NotWellFormed` that no durable vault has them, `NoMemory` that one does
abbrev pub IsRefusalOf : Parts → FromPartsError → Type 0
IsRefusalOf parts NotWellFormed = (v : Vault) → IsVaultOf parts v → ⊥
IsRefusalOf parts NoMemory = (v : Vault) × IsVaultOf parts v
