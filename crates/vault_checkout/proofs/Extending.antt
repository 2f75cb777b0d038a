-- What an extension comes to, from what was looked at.
use Rattle.std.proofs.Common.{◌≡◌, ◌∙◌, ◌+◌, ◌++◌, ◌==◌, ◌||◌, nat_lt, List, length, true, false, Option, Some, None, Ok, Err, refl, sym, ap}
use Rattle.vault_state.specs.declared.claims.Claim.{Claim}
use Rattle.vault_state.specs.declared.claims.Item.{Item}
use Rattle.vault_state.specs.declared.claims.PathItem.{PathItem}
use Rattle.vault_state.specs.declared.ids.ClaimId.{ClaimId}
use Rattle.vault_state.specs.declared.session.Session.{Session}
use Rattle.vault_model.specs.declared.replies.Refusal.{Refusal}
use Rattle.vault_model.specs.declared.replies.Refusal.TheVariants.{ItemCount, NoPlace, Overlaps}
use Rattle.vault_model.specs.declared.replies.Reply.TheVariants as replies
use Rattle.vault_state.specs.Vault.{Vault}
use Rattle.vault_state.specs.Limits.{most_items}
use Rattle.vault_state.specs.Claims.{in_way_of}
use Rattle.lock_table.specs.declared.entry.Extension.{Extension}
use Rattle.lock_table.specs.declared.entry.Extension.TheVariants.{Done, InTheWay}
use Rattle.lock_table.specs.Tables.{extension_by}
use Rattle.vault_model.specs.Changes.{with_items}
use Rattle.vault_model.specs.Step.{usable, placed, extension, extend, chained}

module _ (v : Vault) (session : Session) (id : ClaimId) (wanted : List PathItem) where
  pub not_usable : (why : Refusal) → Err why ≡ usable v session id → extend v session id wanted ≡ Err why
  unfolding extend chained
  not_usable why used = rw (sym used) refl

  module _ (claim : Claim) (used : Ok claim ≡ usable v session id) where
    pub miscounted : true ≡ ((length wanted == 0) || nat_lt most_items (length claim.items + length wanted)) → extend v session id wanted ≡ Err ItemCount
    unfolding extend chained
    miscounted many = rw (sym used, sym many) refl

    module _ (few : false ≡ ((length wanted == 0) || nat_lt most_items (length claim.items + length wanted))) where
      pub nowhere : None ≡ placed v.tree wanted → extend v session id wanted ≡ Err NoPlace
      unfolding extend chained
      nowhere found = rw (sym used, sym few, sym found) refl

      module _ (items : List Item) (found : Some items ≡ placed v.tree wanted) where
        pub overlaps : (other : ClaimId) → in_way_of v.tree v.line id (claim.items ++ items) ≡ Some other → extend v session id wanted ≡ Err (Overlaps other)
        unfolding extend chained
        overlaps other way = rw (sym used, sym few, sym found, way) refl

        pub extended : in_way_of v.tree v.line id (claim.items ++ items) ≡ None
            → extend v session id wanted ≡ Ok (record { reply = replies.Held id; vault = with_items v id (claim.items ++ items); effect = extension id items })
        unfolding extend chained
        extended way = rw (sym used, sym few, sym found, way) refl

-- the answer to an extension says that none is in the way
pub nobody_is_in_the_way : (way : Option ClaimId) → Done ≡ extension_by way → way ≡ None
nobody_is_in_the_way None same = refl
nobody_is_in_the_way (Some id) same = absurd (cc)

-- the answer to an extension names the claim that is in the way
pub who_is_in_the_way : (way : Option ClaimId) (other : ClaimId) → InTheWay other ≡ extension_by way → way ≡ Some other
who_is_in_the_way way other same = sym (ap id_in same ∙ back way)
  where
    id_in : Extension → Option ClaimId
    id_in Done = None
    id_in (InTheWay id) = Some id

    back : (o : Option ClaimId) → id_in (extension_by o) ≡ o
    back None = refl
    back (Some id) = refl
