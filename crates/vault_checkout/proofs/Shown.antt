-- Drafts of a check-out stand at places that are there.
use Rattle.std.specs.Prelude.{ℕ, ◌≤◌, ◌==◌, List, length, filter, All}
use Rattle.std.proofs.lemmas.List.Elements.{All-map, All-filter, All-weaker}
use Rattle.vault_state.specs.declared.place.Place.{Place}
use Rattle.vault_state.specs.declared.claims.Claim.{Claim}
use Rattle.vault_state.specs.Shelf.{Draft}
use Rattle.vault_state.specs.Drafts.{SavedDraft, drafts_of}
use Rattle.vault_state.specs.Vault.{IsDraft, AreDrafts}

pub drafts_there : (tree : List Place) (line : List Claim) (drafts : List SavedDraft) (number : ℕ) → AreDrafts tree line drafts
    → All (λ (x : Draft). x.place ≤ length tree) (drafts_of drafts number)
drafts_there tree line drafts number are =
    let there = All-weaker (IsDraft tree line) (λ (x : SavedDraft). x.draft.place ≤ length tree) (λ x is. is.there) drafts are.each in
    All-map (λ (x : Draft). x.place ≤ length tree) (λ (x : SavedDraft). x.draft) (filter (λ (x : SavedDraft). x.claim == number) drafts)
    (All-filter (λ (x : SavedDraft). x.claim == number) (λ (x : SavedDraft). x.draft.place ≤ length tree) drafts there)
