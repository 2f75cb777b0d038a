-- How many versions and drafts there are in a vault. This project's own.
use Rattle.std.specs.Prelude.{◌≡◌, ℕ, ◌+◌, List, length, map, sum_by}
use Rattle.std.specs.List.{range_with_len}
use Rattle.vault_state.specs.declared.claims.Claim.{Claim}
use Rattle.vault_state.specs.declared.ids.ClaimId.{ClaimId}
use Rattle.vault_state.specs.declared.ids.ClaimId.TheVariants.{Long, Short}
use Rattle.vault_state.specs.Drafts.{SavedDraft, drafts_of}
use Rattle.vault_state.specs.Shelf.{versions_of}
use Rattle.vault_state.specs.Vault.{Vault, IsVault}

-- how many versions all places have together, the library included
abbrev pub version_count : Vault → ℕ
version_count v = sum_by length (map (versions_of v.shelf) (range_with_len 0 (length v.tree + 1)))

-- how many of these drafts a claim has; a short one has none
abbrev pub own_drafts : List SavedDraft → ClaimId → ℕ
own_drafts drafts (Long number) = length (drafts_of drafts number)
own_drafts drafts (Short number) = 0

-- how many drafts the claims in the queue have together
abbrev pub draft_count : Vault → ℕ
draft_count v = sum_by (λ (c : Claim). own_drafts v.drafts c.id) v.line

-- In a well-formed vault these are all versions of the shelf, and all drafts.
abbrev pub CountsAreTotals : Type 0
CountsAreTotals = (v : Vault) → IsVault v → (version_count v ≡ sum_by length v.shelf) × (draft_count v ≡ length v.drafts)
