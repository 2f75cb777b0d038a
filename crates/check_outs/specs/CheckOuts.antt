-- Check-outs with their drafts. This project's own.
use Rattle.std.specs.Prelude.{◌≡◌, ℕ, ◌==◌, true, not, nat_lt, List, [], ◌∷◌, ◌++◌, filter}
use Rattle.std.specs.List.{AllByRecursion}
use Rattle.vault_state.specs.Shelf.{Draft}

-- a check-out as contracts see it: the number of its claim, and the state that goes with its standing
pub record CheckOutSeen (State : Type 0) : Type 0 where
  pub number : ℕ
  pub state : State

-- drafts are in order of rising place
abbrev pub IsRising : List Draft → Type 0
IsRising [] = Unit {0}
IsRising (x ∷ drafts) = AllByRecursion (λ (y : Draft). nat_lt x.place y.place ≡ true) drafts × IsRising drafts

-- the drafts of a check-out with this one, which replaces one of the same place
abbrev pub with_own : List Draft → Draft → List Draft
with_own drafts new =
    filter (λ (x : Draft). nat_lt x.place new.place) drafts ++ new ∷ filter (λ (x : Draft). nat_lt new.place x.place) drafts

-- the drafts of other places
abbrev pub beside : List Draft → ℕ → List Draft
beside drafts place = filter (λ (x : Draft). not (x.place == place)) drafts
