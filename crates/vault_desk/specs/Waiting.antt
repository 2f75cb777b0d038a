-- Which claims wait in the queue of claims, in the vault after all entries. This project's own.
use Rattle.std.specs.Prelude.{◌≡◌, ◌⊎◌, true, false, Option, Some, None}
use Rattle.vault_state.specs.Claims.{standing_of}
use Rattle.vault_state.specs.declared.ids.ClaimId.{ClaimId}
use Rattle.vault_state.specs.declared.claims.Standing.{Standing}
use Rattle.vault_state.specs.declared.claims.Standing.TheVariants.{Held, Queued}
use Rattle.group_commit.specs.View.{View, book_of}
use Rattle.vault_desk.specs.Acts.{GoesOn}

-- it stands behind another claim
abbrev pub IsStandingQueued : Option Standing → Type 0
IsStandingQueued None = ⊥
IsStandingQueued (Some Held) = ⊥
IsStandingQueued (Some (Queued other)) = Unit {0}

-- the same for a claim
abbrev pub IsQueued : View → ClaimId → Type 0
IsQueued v claim = IsStandingQueued (standing_of (book_of v).tree (book_of v).line claim)

-- a vault came from this view to one in which it isn't broken, and the claim waits
pub record HasQueued (first : View) (claim : ClaimId) : Type 0 where
  pub view : View
  pub came : GoesOn first view
  pub whole : view.broken ≡ false
  pub queued : IsQueued view claim

-- a vault came from this view to one in which it is broken, or the claim doesn't wait
pub record WaitsNoMore (first : View) (claim : ClaimId) : Type 0 where
  pub view : View
  pub came : GoesOn first view
  pub moved : (view.broken ≡ true) ⊎ (IsQueued view claim → ⊥)
