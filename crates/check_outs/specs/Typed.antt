-- The check-outs of a book, each typed by its standing. This project's own.
use Rattle.std.specs.Prelude.{◌≡◌, ℕ, ◌==◌, nat_lt, Bool, true, false, not, ◌||◌, if◌then◌else◌, List, [], ◌∷◌, ◌++◌, length, map, filter, find, Option, None, Some, is_some, All}
use Rattle.std.specs.List.{AllByRecursion}
use Rattle.std.specs.Option.{option_map_or}
use Rattle.vault_state.specs.declared.place.Place.{Place}
use Rattle.vault_state.specs.declared.claims.Claim.{Claim}
use Rattle.vault_state.specs.declared.claims.Standing.{Standing}
use Rattle.vault_state.specs.declared.claims.Standing.TheVariants as standings
use Rattle.vault_state.specs.declared.ids.ClaimId.TheVariants.{Long}
use Rattle.vault_state.specs.Claims.{claim_of, standing_of}
use Rattle.vault_state.specs.Shelf.{Draft}
use Rattle.vault_state.specs.Drafts.{SavedDraft, saved_by}
use Rattle.check_outs.specs.CheckOuts.{with_own}
use Rattle.check_outs.specs.declared.any.AnyCheckOut.{AnyCheckOut}
use Rattle.check_outs.specs.declared.any.AnyCheckOut.TheVariants.{Waiting, Held}

-- the number of a check-out, whether it is typed as granted (`Held`), and its drafts
abbrev pub number_of : {A : Type 0} → AnyCheckOut A → ℕ
number_of (Waiting c) = c.number
number_of (Held c) = c.number

abbrev pub is_granted : {A : Type 0} → AnyCheckOut A → Bool
is_granted (Waiting c) = false
is_granted (Held c) = true

abbrev pub own_drafts : {A : Type 0} → AnyCheckOut A → List Draft
own_drafts (Waiting c) = []
own_drafts (Held c) = c.state

-- drafts, each with the number of its check-out
abbrev pub marked : ℕ → List Draft → List SavedDraft
marked number drafts = map (λ (draft : Draft). saved_by number draft) drafts

-- all drafts of some check-outs
abbrev pub saved : {A : Type 0} → List (AnyCheckOut A) → List SavedDraft
saved [] = []
saved (c ∷ check_outs) = marked (number_of c) (own_drafts c) ++ saved check_outs

-- the check-out of this number
abbrev pub check_out_of : {A : Type 0} → List (AnyCheckOut A) → ℕ → Option (AnyCheckOut A)
check_out_of check_outs number = find (λ c. number_of c == number) check_outs

-- all check-outs but the one of this number
abbrev pub without_check_out : {A : Type 0} → List (AnyCheckOut A) → ℕ → List (AnyCheckOut A)
without_check_out check_outs number = filter (λ c. not (number_of c == number)) check_outs

-- a granted check-out with one more draft; and the check-outs, with one more draft for the one of this number
abbrev pub saving : {A : Type 0} → Draft → AnyCheckOut A → AnyCheckOut A
saving draft (Waiting c) = Waiting c
saving draft (Held c) = Held (record { number = c.number; state = with_own c.state draft })

abbrev pub with_saved : {A : Type 0} → List (AnyCheckOut A) → ℕ → Draft → List (AnyCheckOut A)
with_saved [] number draft = []
with_saved (c ∷ check_outs) number draft =
    if number_of c == number then saving draft c ∷ check_outs else c ∷ with_saved check_outs number draft

-- whether the check-out of this number is there and typed as granted
abbrev pub is_open : {A : Type 0} → List (AnyCheckOut A) → ℕ → Bool
is_open check_outs number = option_map_or is_granted (check_out_of check_outs number) false

-- the drafts of the check-out of this number
abbrev pub drafts_at : {A : Type 0} → List (AnyCheckOut A) → ℕ → List Draft
drafts_at check_outs number = option_map_or own_drafts (check_out_of check_outs number) []

-- whether a standing is granted, and whether the long claim of this number is there and granted
abbrev pub is_held_standing : Option Standing → Bool
is_held_standing (Some standings.Held) = true
is_held_standing (Some (standings.Queued other)) = false
is_held_standing None = false

abbrev pub is_holding : List Place → List Claim → ℕ → Bool
is_holding tree line number = is_held_standing (standing_of tree line (Long number))

-- a waiting check-out is granted if its claim is
abbrev pub granted_if : {A : Type 0} → Bool → AnyCheckOut A → AnyCheckOut A
granted_if true (Waiting c) = Held (record { number = c.number; state = [] })
granted_if false (Waiting c) = Waiting c
granted_if held (Held c) = Held c

abbrev pub granted : {A : Type 0} → List Place → List Claim → AnyCheckOut A → AnyCheckOut A
granted tree line c = granted_if (is_holding tree line (number_of c)) c

-- a check-out whose claim isn't granted any more is recalled (waits again), if it has no drafts
abbrev pub recalled_unless : {A : Type 0} → Bool → AnyCheckOut A → AnyCheckOut A
recalled_unless held (Waiting c) = Waiting c
recalled_unless held (Held c) = if held || not (length c.state == 0) then Held c else Waiting (record { number = c.number; state = tt })

abbrev pub recalled : {A : Type 0} → List Place → List Claim → AnyCheckOut A → AnyCheckOut A
recalled tree line c = recalled_unless (is_holding tree line (number_of c)) c

-- check-outs are in order of rising number
unfoldable pub IsAscending : {A : Type 0} → List (AnyCheckOut A) → Type 0
IsAscending [] = Unit {0}
IsAscending (c ∷ check_outs) = AllByRecursion (λ d. nat_lt (number_of c) (number_of d) ≡ true) check_outs × IsAscending check_outs

-- the check-outs agree with the line: there is one for each long claim, and it is typed as granted if the claim is
pub record Agrees {A : Type 0} (tree : List Place) (line : List Claim) (check_outs : List (AnyCheckOut A)) : Type 0 where
  pub ascending : IsAscending check_outs
  pub numbers : (number : ℕ) → is_some (check_out_of check_outs number) ≡ is_some (claim_of line (Long number))
  pub types : All (λ c. is_granted c ≡ is_holding tree line (number_of c)) check_outs
