-- How full a vault is: what is used of each limit that its files show. This project's own.
use Rattle.std.specs.Prelude.{◌≡◌, ◌⊎◌, ℕ, ◌+◌, ◌<◌, ◌≤◌, Bool, true, false, List, length, Option, None, Some, slice_get, sum_by, count_by}
use Rattle.vault_state.specs.declared.claims.Claim.{Claim}
use Rattle.vault_state.specs.declared.claims.Standing.{Standing}
use Rattle.vault_state.specs.declared.claims.Standing.TheVariants.{Held, Queued}
use Rattle.vault_state.specs.declared.ids.ClaimId.{ClaimId}
use Rattle.vault_state.specs.declared.ids.ClaimId.TheVariants.{Long, Short}
use Rattle.vault_state.specs.Claims.{standing_of}
use Rattle.vault_state.specs.Drafts.{SavedDraft, drafts_of, saved_weight}
use Rattle.vault_state.specs.Shelf.{drafts_weight, versions_of, weight}
use Rattle.vault_state.specs.Tree.{children_of}
use Rattle.vault_state.specs.Vault.{Vault, IsVault, weight_of}
use Rattle.vault_inspector.specs.declared.figures.Figures.{Figures}
use Rattle.vault_inspector.specs.Counts.{version_count, own_drafts, draft_count}

-- whether a claim is granted (held), and whether it waits behind another
abbrev pub is_held : Option Standing → Bool
is_held (Some Held) = true
is_held (Some (Queued other)) = false
is_held None = false

abbrev pub is_waiting : Option Standing → Bool
is_waiting (Some Held) = false
is_waiting (Some (Queued other)) = true
is_waiting None = false

-- whether a claim is granted (at true), or whether it waits (at false)
abbrev pub stands : Bool → Option Standing → Bool
stands true standing = is_held standing
stands false standing = is_waiting standing

-- how many claims are granted, or how many wait
abbrev pub standing_count : Bool → Vault → ℕ
standing_count held v = count_by (λ (c : Claim). stands held (standing_of v.tree v.line c.id)) v.line

-- what the drafts of a claim weigh; a short one has none
abbrev pub own_weight : List SavedDraft → ClaimId → ℕ
own_weight drafts (Long number) = drafts_weight (drafts_of drafts number)
own_weight drafts (Short number) = 0

-- what the drafts of all claims in the queue weigh together
abbrev pub draft_weight : Vault → ℕ
draft_weight v = sum_by (λ (c : Claim). own_weight v.drafts c.id) v.line

-- the greatest value of a figure below count, and 0 where there is none
pub record IsGreatest (figure : ℕ → ℕ) (count greatest : ℕ) : Type 0 where
  pub bound : (n : ℕ) → n < count → figure n ≤ greatest
  pub reached : (greatest ≡ 0) ⊎ ((n : ℕ) × (n < count) × (figure n ≡ greatest))

-- how many places stand right beneath a place
abbrev pub children_at : Vault → ℕ → ℕ
children_at v place = length (children_of v.tree place)

-- how many drafts a claim has that is, or isn't, there
abbrev pub drafts_of_one : List SavedDraft → Option Claim → ℕ
drafts_of_one drafts (Some c) = own_drafts drafts c.id
drafts_of_one drafts None = 0

-- how many drafts the claim at a position of the queue has
abbrev pub drafts_at : Vault → ℕ → ℕ
drafts_at v position = drafts_of_one v.drafts (slice_get v.line position)

-- how many versions a place has
abbrev pub versions_at : Vault → ℕ → ℕ
versions_at v place = length (versions_of v.shelf place)

-- These are a vault's figures.
pub record AreFigures (v : Vault) (figures : Figures) : Type 0 where
  pub places : figures.places ≡ length v.tree + 1
  pub projects : figures.projects ≡ children_at v 0
  pub children : IsGreatest (children_at v) (length v.tree + 1) figures.children
  pub versions : figures.versions ≡ version_count v
  pub part_versions : IsGreatest (versions_at v) (length v.tree + 1) figures.part_versions
  pub claims : figures.claims ≡ length v.line
  pub held : figures.held ≡ standing_count true v
  pub waiting : figures.waiting ≡ standing_count false v
  pub drafts : figures.drafts ≡ draft_count v
  pub claim_drafts : IsGreatest (drafts_at v) (length v.line) figures.claim_drafts
  pub weight : figures.weight ≡ weight v.shelf + draft_weight v
  pub last_check_out : figures.last_check_out ≡ v.last_long

-- In a well-formed vault the weight among the figures is what all contents weigh.
abbrev pub WeightIsTotal : Type 0
WeightIsTotal = (v : Vault) → IsVault v → weight v.shelf + draft_weight v ≡ weight_of v
