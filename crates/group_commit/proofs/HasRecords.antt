-- The effect of a step has a record.
use Rattle.std.specs.Prelude.{◌≡◌, ℕ, ◌<◌, ◌≤◌, ◌^◌, nat_le, true, List, [], ◌∷◌, length, Option, Some}
use Rattle.std.proofs.Common.{subst, arith}
use Rattle.std.specs.List.{AllByRecursion}
use Rattle.std.specs.Option.{IfSome}
use Rattle.std.proofs.lemmas.Bool.Decides.{nat_tests}
use Rattle.std.proofs.lemmas.List.Elements.{All-head, All-tail}
use Rattle.vault_state.specs.Limits.{most_items, longest_content}
use Rattle.vault_model.specs.Said.{Command, Effect}
use Rattle.vault_state.specs.declared.claims.Item.{Item}
use Rattle.vault_state.specs.declared.claims.Claim.{Claim}
use Rattle.vault_state.specs.declared.ids.ClaimId.{ClaimId}
use Rattle.vault_state.specs.declared.ids.ClaimId.TheVariants.{Long, Short}
use Rattle.vault_state.specs.Claims.{claim_of}
use Rattle.vault_state.specs.Vault.{Vault, AreThere, IsGiven, IsClaim, IsVault}
use Rattle.vault_model.specs.Step.{extension, may_save, step}
use Rattle.vault_state.proofs.Overlaps.{and_both}
use Rattle.vault_state.proofs.Stays.{own_id, claim_there}
use Rattle.vault_state.specs.Drafts.{new_draft}
use Rattle.vault_model.proofs.WellFormed.{not_last}
use Rattle.vault_state.proofs.Shelves.{true_le}
use Rattle.vault_model.proofs.Transitions.{CanExtend, Transition, made, nested, asked, extended, saved, checked_in, abandoned, given, noted, by_transition}
use Rattle.vault_journal.specs.Spelling.{IsClaimNumber, ItemFits, HasRecord}
use Rattle.group_commit.specs.Written.{IsOfItsType}

-- an effect has a record, given what it has by its type
abbrev pub HasOne : Option Effect → Type 0
HasOne effect = IfSome effect (λ e. IsOfItsType e → HasRecord e)

-- a draft that may be saved is short enough
short_enough : (v : Vault) (number place : ℕ) (content : List ℕ) → may_save v (new_draft number place content) ≡ true → length content ≤ longest_content
short_enough v number place content may = let x = and_both _ _ may in let y = and_both (nat_le (length content) longest_content) _ x.0 in grind (arith, nat_tests, y.0)

module _ (v : Vault) (kept : IsVault v) where
  fits_there : (place : ℕ) → place ≤ length v.tree → place < 2 ^ 32
  fits_there place there = omega (arith, there, kept.tree.few)

  items_fit : (items : List Item) → AreThere v.tree items → AllByRecursion ItemFits items
  items_fit [] there = tt
  items_fit (item ∷ items) there = (fits_there item.place (All-head (λ (i : Item). i.place ≤ length v.tree) item items there), items_fit items (All-tail (λ (i : Item). i.place ≤ length v.tree) item items there))

  given_by : (number : ℕ) (claim : Claim) → claim.id ≡ Long number → IsGiven v.last_long v.last_short claim.id → IsClaimNumber number
  given_by number claim e ranged =
      let is = subst (λ id. IsGiven v.last_long v.last_short id) e ranged in
      record { positive = is.0; fits = omega (arith, is.1, kept.numbers.long) }

  -- the number of a claim that stands
  numbered : (number : ℕ) (claim : Claim) → claim_of v.line (Long number) ≡ Some claim → IsClaimNumber number
  numbered number claim found = given_by number claim (own_id v.line (Long number) claim found) (claim_there (IsClaim v.tree v.sessions v.last_long v.last_short) v.line (Long number) kept.claims claim found).given

  extended_has : (id : ClaimId) (claim : Claim) (items : List Item) → CanExtend v id claim items → HasOne (extension id items)
  extended_has (Short k) claim items can = tt
  extended_has (Long k) claim items can =
      let most = can.few in
      let few : length items ≤ most_items = omega arith in
      λ typed. (numbered k claim can.used.found, record { some = can.some; few = few; fit = items_fit items can.there })

  -- the effect of each change has a record
  transition_has : (effect : Option Effect) (w : Vault) → Transition v effect w → HasOne effect
  transition_has effect w (made parent name can) = λ typed. (fits_there parent can.there, typed)
  transition_has effect w (nested parent name can between) = λ typed. (fits_there parent can.there, typed)
  transition_has effect w (asked designer items can) = λ typed. (record { positive = omega arith; fits = omega (arith, not_last v.last_long kept.numbers.long can.unspent) }, typed, record { some = can.some; few = can.few; fit = items_fit items can.there })
  transition_has effect w (extended id claim items can) = extended_has id claim items can
  transition_has effect w (saved claim number place content can) = λ typed. (numbered number claim can.used.found, fits_there place can.there, short_enough v number place content can.limits)
  transition_has effect w (checked_in number claim used fits) = λ typed. numbered number claim used.found
  transition_has effect w (abandoned number claim found) = λ typed. numbered number claim found
  transition_has effect w (given number designer claim found) = λ typed. (numbered number claim found, typed)
  transition_has effect w (noted number text claim found short) = λ typed. (numbered number claim found, true_le _ _ short)
  transition_has effect w change = tt

pub step_has_record : (v : Vault) (n : ℕ) (command : Command) → IsVault v → HasOne (step v n command).effect
step_has_record v n command kept = by_transition (λ effect w. HasOne effect) v n command (transition_has v kept)
