-- What a save comes to, from what was looked at.
use Rattle.std.specs.Prelude.{◌≡◌, ℕ, true, false, List, Some, None, Ok, Err, refl}
use Rattle.vault_state.specs.declared.claims.Claim.{Claim}
use Rattle.vault_state.specs.declared.ids.ClaimId.TheVariants.{Long}
use Rattle.vault_state.specs.declared.session.Session.{Session}
use Rattle.vault_model.specs.declared.effects.Effect.TheVariants as effects
use Rattle.vault_model.specs.declared.replies.Refusal.{Refusal}
use Rattle.vault_model.specs.declared.replies.Refusal.TheVariants.{NoPlace, WrongKind, NotCovered, Limit}
use Rattle.vault_model.specs.declared.replies.Reply.TheVariants as replies
use Rattle.vault_state.specs.Tree.{find_place, is_part}
use Rattle.vault_state.specs.Claims.{change_set}
use Rattle.vault_state.specs.Drafts.{new_draft}
use Rattle.vault_state.specs.Vault.{Vault}
use Rattle.vault_model.specs.Changes.{with_content}
use Rattle.vault_model.specs.Step.{usable, may_save, chained, save}

module _ (v : Vault) (session : Session) (number : ℕ) (path : List (List ℕ)) (content : List ℕ) where
  pub save_by_another : (why : Refusal) → usable v session (Long number) ≡ Err why → save v session number path content ≡ Err why
  unfolding save chained
  save_by_another why used = rw used refl

  module _ (claim : Claim) (used : usable v session (Long number) ≡ Ok claim) where
    pub save_nowhere : find_place v.tree path ≡ None → save v session number path content ≡ Err NoPlace
    unfolding save chained
    save_nowhere found = rw (used, found) refl

    module _ (place : ℕ) (found : find_place v.tree path ≡ Some place) where
      pub save_between : is_part v.tree place ≡ false → save v session number path content ≡ Err WrongKind
      unfolding save chained
      save_between part = rw (used, found, part) refl

      module _ (part : is_part v.tree place ≡ true) where
        pub save_beside : change_set v.tree claim.items place ≡ false → save v session number path content ≡ Err NotCovered
        unfolding save chained
        save_beside changed = rw (used, found, part, changed) refl

        module _ (changed : change_set v.tree claim.items place ≡ true) where
          pub save_too_much : may_save v (new_draft number place content) ≡ false → save v session number path content ≡ Err Limit
          unfolding save chained
          save_too_much may = rw (used, found, part, changed, may) refl

          pub save_done : may_save v (new_draft number place content) ≡ true
              → save v session number path content ≡ Ok (record { reply = replies.Saved; vault = with_content v number place content; effect = Some (effects.Saved number place content) })
          unfolding save chained
          save_done may = rw (used, found, part, changed, may) refl
