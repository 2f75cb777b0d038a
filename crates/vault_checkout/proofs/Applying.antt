-- What a check-out that may be asked for has.
use Rattle.std.specs.Prelude.{◌≡◌, ℕ, ◌+◌, ◌<◌, ◌≤◌, ◌==◌, ◌&&◌, nat_le, nat_lt, Bool, not, true, false, Option, None, Some, is_some, List, ◌++◌, length, if◌then◌else◌, refl}
use Rattle.std.proofs.Common.{arith, cond, subst, ap, ◌∙◌}
use Rattle.std.specs.Option.{option_and_then}
use Rattle.std.proofs.lemmas.Bool.Decides.{nat_tests}
use Rattle.std.proofs.lemmas.List.Elements.{All-append}
use Rattle.vault_state.specs.declared.claims.Item.{Item}
use Rattle.vault_state.specs.Tree.{child, is_part, is_full}
use Rattle.vault_state.specs.Limits.{most_items, most_claims, last_number}
use Rattle.vault_state.specs.Vault.{Vault, IsVault, IsClaim, AreThere}
use Rattle.vault_model.specs.After.{only_if, are_there, may_ask, may_make, may_extend, drafts_held, after_extended, after_saved, after_checked_in}
use Rattle.vault_state.specs.declared.claims.Claim.{Claim}
use Rattle.vault_state.specs.declared.ids.ClaimId.TheVariants.{Long}
use Rattle.vault_state.specs.Claims.{claim_of, is_held, change_set, put_first}
use Rattle.vault_state.specs.Shelf.{is_shelvable}
use Rattle.vault_state.specs.Drafts.{drafts_of, new_draft}
use Rattle.vault_model.specs.Step.{may_save}
use Rattle.vault_model.specs.Changes.{with_items, with_content, with_versions}
use Rattle.vault_checkout.specs.Applied.{held_at}
use Rattle.vault_state.proofs.Overlaps.{eq_from, and_both}
use Rattle.vault_model.proofs.Durable.{there_all}
use Rattle.vault_state.proofs.Stays.{claim_there}
use Rattle.vault_state.proofs.Lists.{not_false}

pub record MayAsk (w : Vault) (number : ℕ) (items : List Item) : Type 0 where
  pub next : number ≡ w.last_long + 1
  pub there : AreThere w.tree items
  pub room : length w.line < most_claims

pub may_ask_is : (w : Vault) (number : ℕ) (items : List Item) → may_ask w number items ≡ true → MayAsk w number items
may_ask_is w number items e =
    let last = and_both ((number == w.last_long + 1) && not (length items == 0) && nat_le (length items) most_items && are_there w.tree items && nat_lt (length w.line) most_claims) (nat_le number last_number) e in
    let room = and_both ((number == w.last_long + 1) && not (length items == 0) && nat_le (length items) most_items && are_there w.tree items) (nat_lt (length w.line) most_claims) last.0 in
    let there = and_both ((number == w.last_long + 1) && not (length items == 0) && nat_le (length items) most_items) (are_there w.tree items) room.0 in
    let few = and_both ((number == w.last_long + 1) && not (length items == 0)) (nat_le (length items) most_items) there.0 in
    let first = and_both (number == w.last_long + 1) (not (length items == 0)) few.0 in
    record { next = eq_from number (w.last_long + 1) first.0; there = there_all w.tree items there.1; room = let less = room.1 in grind (arith, nat_tests, less) }

pub record MayMake (w : Vault) (parent : ℕ) (name : List ℕ) : Type 0 where
  pub there : parent ≤ length w.tree
  pub kind : is_part w.tree parent ≡ false
  pub fresh : child w.tree parent name ≡ None
  pub room : is_full w.tree parent ≡ false

none_there : (o : Option ℕ) → not (is_some o) ≡ true → o ≡ None
none_there None e = refl
none_there (Some p) e = cc

pub may_make_is : (w : Vault) (parent : ℕ) (name : List ℕ) → may_make w parent name ≡ true → MayMake w parent name
may_make_is w parent name e =
    let room = and_both (nat_le parent (length w.tree) && not (is_part w.tree parent) && not (is_some (child w.tree parent name))) (not (is_full w.tree parent)) e in
    let fresh = and_both (nat_le parent (length w.tree) && not (is_part w.tree parent)) (not (is_some (child w.tree parent name))) room.0 in
    let kind = and_both (nat_le parent (length w.tree)) (not (is_part w.tree parent)) fresh.0 in
    record { there = let low = kind.0 in grind (arith, nat_tests, low); kind = not_false (is_part w.tree parent) kind.1; fresh = none_there (child w.tree parent name) fresh.1; room = not_false (is_full w.tree parent) room.1 }

-- an effect of a claim, where none of this number is granted
module _ (w : Vault) (n : ℕ) (none : held_at w n ≡ None) where
  by_claim : {X : Type 0} (f g : Claim → Option X) → ((c : Claim) → is_held w.tree w.line c ≡ false → f c ≡ None) → (o : Option Claim) → option_and_then (λ (c : Claim). if is_held w.tree w.line c then Some c else None) o ≡ None → option_and_then f o ≡ None
  by_claim f g fails None e = refl
  by_claim f g fails (Some c) e = by_test (is_held w.tree w.line c) refl e
    where
      by_test : (b : Bool) → is_held w.tree w.line c ≡ b → cond b (Some c) None ≡ None → f c ≡ None
      by_test true h e = cc
      by_test false h e = fails c h

  pub extended_none : (items : List Item) → after_extended w n items ≡ None
  unfolding after_extended
  extended_none items = by_claim (λ (c : Claim). only_if (may_extend w c items && drafts_held w.tree (put_first w.line (Long n) (c.items ++ items)) w.drafts) (with_items w (Long n) (c.items ++ items))) (λ (c : Claim). None) (λ c h. rw h refl) (claim_of w.line (Long n)) none

  pub saved_none : (place : ℕ) (content : List ℕ) → after_saved w n place content ≡ None
  unfolding after_saved
  saved_none place content =
      by_claim (λ (c : Claim). only_if (is_held w.tree w.line c && nat_le place (length w.tree) && is_part w.tree place && change_set w.tree c.items place && may_save w (new_draft n place content)) (with_content w n place content))
      (λ (c : Claim). None) (λ c h. rw h refl) (claim_of w.line (Long n)) none

  pub checked_in_none : after_checked_in w n ≡ None
  unfolding after_checked_in
  checked_in_none =
      by_claim (λ (c : Claim). only_if (is_held w.tree w.line c && is_shelvable w.shelf (drafts_of w.drafts n)) (with_versions w n))
      (λ (c : Claim). None) (λ c h. rw h refl) (claim_of w.line (Long n)) none

-- and where one is
module _ (w : Vault) (n : ℕ) (claim : Claim) (found : claim_of w.line (Long n) ≡ Some claim) (held : is_held w.tree w.line claim ≡ true) where
  pub extended_as : (items : List Item) (may held_then : Bool) → (nat_le (length claim.items + length items) most_items && are_there w.tree items) ≡ may → drafts_held w.tree (put_first w.line (Long n) (claim.items ++ items)) w.drafts ≡ held_then
      → after_extended w n items ≡ only_if (may && held_then) (with_items w (Long n) (claim.items ++ items))
  unfolding after_extended
  extended_as items may held_then e f =
      ap (option_and_then (λ (c : Claim). only_if (may_extend w c items && drafts_held w.tree (put_first w.line (Long n) (c.items ++ items)) w.drafts) (with_items w (Long n) (c.items ++ items)))) found
      ∙ ap (λ b. only_if b (with_items w (Long n) (claim.items ++ items))) (tests may e)
    where
      tests : (b : Bool) → (nat_le (length claim.items + length items) most_items && are_there w.tree items) ≡ b → (may_extend w claim items && drafts_held w.tree (put_first w.line (Long n) (claim.items ++ items)) w.drafts) ≡ (b && held_then)
      tests b g = rw (held, g, f) refl

  pub saved_as : (place : ℕ) (content : List ℕ) (change may : Bool) → (nat_le place (length w.tree) && is_part w.tree place && change_set w.tree claim.items place) ≡ change → may_save w (new_draft n place content) ≡ may
      → after_saved w n place content ≡ only_if (change && may) (with_content w n place content)
  unfolding after_saved
  saved_as place content change may e f = rw (found, held, e, f) refl

  pub checked_in_as : (shelvable : Bool) → is_shelvable w.shelf (drafts_of w.drafts n) ≡ shelvable
      → after_checked_in w n ≡ only_if shelvable (with_versions w n)
  unfolding after_checked_in
  checked_in_as shelvable e = rw (found, held, e) refl

-- the claim that is granted
pub held_is_held : (w : Vault) (n : ℕ) (claim : Claim) → held_at w n ≡ Some claim → (claim_of w.line (Long n) ≡ Some claim) × (is_held w.tree w.line claim ≡ true)
held_is_held w n claim e = by_claim (claim_of w.line (Long n)) refl e
  where
    by_claim : (o : Option Claim) → claim_of w.line (Long n) ≡ o → option_and_then (λ (c : Claim). if is_held w.tree w.line c then Some c else None) o ≡ Some claim → (o ≡ Some claim) × (is_held w.tree w.line claim ≡ true)
    by_claim None f e = cc
    by_claim (Some c) f e = by_test (is_held w.tree w.line c) refl e
      where
        by_test : (b : Bool) → is_held w.tree w.line c ≡ b → cond b (Some c) None ≡ Some claim → (Some c ≡ Some claim) × (is_held w.tree w.line claim ≡ true)
        by_test true h e = let same : c ≡ claim = cc in (e, subst (λ d. is_held w.tree w.line d ≡ true) same h)
        by_test false h e = cc

-- its items, and those that it may get, are in the tree
pub extended_there : (w : Vault) (n : ℕ) (claim : Claim) (items : List Item) → IsVault w → held_at w n ≡ Some claim → (nat_le (length claim.items + length items) most_items && are_there w.tree items) ≡ true → AreThere w.tree (claim.items ++ items)
extended_there w n claim items kept held may =
    let own = claim_there (IsClaim w.tree w.sessions w.last_long w.last_short) w.line (Long n) kept.claims claim (held_is_held w n claim held).0 in
    let tests = and_both (nat_le (length claim.items + length items) most_items) (are_there w.tree items) may in
    All-append (λ (item : Item). item.place ≤ length w.tree) claim.items items own.there (there_all w.tree items tests.1)
