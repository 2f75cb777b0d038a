-- What every book keeps, through an extension or its refusal.
use Rattle.std.specs.Prelude.{◌≡◌, ◌≤◌, List, ◌++◌, length, map, Option, None, Some, is_some, true, refl}
use Rattle.std.proofs.Common.{arith, ap, sym, subst, length-append}
use Rattle.vault_state.specs.declared.claims.Claim.{Claim}
use Rattle.vault_state.specs.declared.claims.Item.{Item}
use Rattle.vault_state.specs.declared.claims.Standing.TheVariants.{Held}
use Rattle.vault_state.specs.declared.ids.ClaimId.{ClaimId}
use Rattle.vault_state.specs.Limits.{most_items}
use Rattle.vault_state.specs.Claims.{claim_of, standing_of, in_way_of, put_first}
use Rattle.vault_state.specs.Vault.{Vault, AreThere, AreDrafts, IsClaim, IsVault}
use Rattle.vault_model.specs.After.{drafts_held}
use Rattle.vault_model.specs.Changes.{with_items}
use Rattle.vault_model.proofs.Kept.{kept_first}
use Rattle.vault_model.proofs.DraftsKept.{drafts_first, drafts_put_first}
use Rattle.vault_state.proofs.Stays.{held_there, claim_there}
use Rattle.long_locks.specs.Lines.{extended_by}
use Rattle.check_outs.specs.declared.any.AnyCheckOut.{AnyCheckOut}
use Rattle.check_outs.specs.Typed.{granted, recalled, saved, Agrees}
use Rattle.vault_checkout.proofs.Agreeing.{agrees_first, agrees_still, agrees_put_first}

module _ (v : Vault) (kept : IsVault v) (id : ClaimId) (items : List Item) (held : standing_of v.tree v.line id ≡ Some Held) where
  pub kept_extended : ((c : Claim) → claim_of v.line id ≡ Some c → (more : List Item) × (items ≡ c.items ++ more)) → length items ≤ most_items → AreThere v.tree items
      → IsVault (record v { line = extended_by (in_way_of v.tree v.line id items) v.line id items })
  kept_extended more few there = by_way (in_way_of v.tree v.line id items) refl (claim_of v.line id) refl (held_there v.tree v.line id held)
    where
      by_way : (o : Option ClaimId) → in_way_of v.tree v.line id items ≡ o → (found : Option Claim) → claim_of v.line id ≡ found → is_some found ≡ true → IsVault (record v { line = extended_by o v.line id items })
      by_way (Some other) e found at some = kept
      by_way None e None at some = cc
      by_way None e (Some claim) at some =
          let own = claim_there (IsClaim v.tree v.sessions v.last_long v.last_short) v.line id kept.claims claim at in
          let its = more claim at in
          let first = own.some in
          let longer = length-append claim.items its.0 in
          let same = ap length its.1 in
          let drafts : AreDrafts v.tree (put_first v.line id items) v.drafts =
          subst (λ (all : List Item). AreDrafts v.tree (put_first v.line id all) v.drafts) (sym its.1)
          (drafts_first v.tree v.line id claim its.0 v.drafts kept.apart at (subst (λ (all : List Item). in_way_of v.tree v.line id all ≡ None) its.1 e) kept.drafts) in
          kept_first v kept id claim items at (omega arith) few there drafts

  pub agrees_extended : {A : Type 0} (xs : List (AnyCheckOut A)) → Agrees v.tree v.line xs
      → Agrees v.tree (extended_by (in_way_of v.tree v.line id items) v.line id items) (map (granted v.tree (extended_by (in_way_of v.tree v.line id items) v.line id items)) xs)
  agrees_extended {A = A} xs agrees = by_way (in_way_of v.tree v.line id items) refl (claim_of v.line id) refl (held_there v.tree v.line id held)
    where
      by_way : (o : Option ClaimId) → in_way_of v.tree v.line id items ≡ o → (found : Option Claim) → claim_of v.line id ≡ found → is_some found ≡ true → Agrees v.tree (extended_by o v.line id items) (map (granted v.tree (extended_by o v.line id items)) xs)
      by_way (Some other) e found at some = agrees_still v kept xs agrees
      by_way None e None at some = cc
      by_way None e (Some claim) at some = agrees_first v kept xs agrees id claim items at e

-- the same, for an extension that is not judged, where the check-outs with drafts stay granted
module _ (v : Vault) (kept : IsVault v) (id : ClaimId) (items : List Item) (found : is_some (claim_of v.line id) ≡ true) (more : (c : Claim) → claim_of v.line id ≡ Some c → (more : List Item) × (items ≡ c.items ++ more)) where
  drafts_put : drafts_held v.tree (put_first v.line id items) v.drafts ≡ true → AreDrafts v.tree (put_first v.line id items) v.drafts
  drafts_put held = by_claim (claim_of v.line id) refl found
    where
      by_claim : (o : Option Claim) → claim_of v.line id ≡ o → is_some o ≡ true → AreDrafts v.tree (put_first v.line id items) v.drafts
      by_claim None at e = cc
      by_claim (Some claim) at e =
          let its = more claim at in
          subst (λ (all : List Item). AreDrafts v.tree (put_first v.line id all) v.drafts) (sym its.1)
          (drafts_put_first v.tree v.line id claim its.0 v.drafts kept.apart at (subst (λ (all : List Item). drafts_held v.tree (put_first v.line id all) v.drafts ≡ true) its.1 held) kept.drafts)

  pub kept_put : length items ≤ most_items → AreThere v.tree items → drafts_held v.tree (put_first v.line id items) v.drafts ≡ true → IsVault (with_items v id items)
  kept_put few there held = by_claim (claim_of v.line id) refl found
    where
      by_claim : (o : Option Claim) → claim_of v.line id ≡ o → is_some o ≡ true → IsVault (with_items v id items)
      by_claim None at e = cc
      by_claim (Some claim) at e =
          let own = claim_there (IsClaim v.tree v.sessions v.last_long v.last_short) v.line id kept.claims claim at in
          let its = more claim at in
          let first = own.some in
          let longer = length-append claim.items its.0 in
          let same = ap length its.1 in
          kept_first v kept id claim items at (omega arith) few there (drafts_put held)

  pub agrees_put : drafts_held v.tree (put_first v.line id items) v.drafts ≡ true → {A : Type 0} (xs : List (AnyCheckOut A)) → Agrees v.tree v.line xs → saved xs ≡ v.drafts
      → Agrees v.tree (put_first v.line id items) (map (granted v.tree (put_first v.line id items)) (map (recalled v.tree (put_first v.line id items)) xs))
  agrees_put held {A = A} xs agrees same = by_claim (claim_of v.line id) refl found
    where
      by_claim : (o : Option Claim) → claim_of v.line id ≡ o → is_some o ≡ true → Agrees v.tree (put_first v.line id items) (map (granted v.tree (put_first v.line id items)) (map (recalled v.tree (put_first v.line id items)) xs))
      by_claim None at e = cc
      by_claim (Some claim) at e = agrees_put_first v kept xs agrees id claim items at (subst (λ ds. AreDrafts v.tree (put_first v.line id items) ds) (sym same) (drafts_put held))
