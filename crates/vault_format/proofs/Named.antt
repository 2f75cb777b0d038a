-- A vault that has a spelling still has one after effects with records.
use Rattle.std.proofs.Common.{◌≡◌, ℕ, not, Bool, true, false, cond, List, [], ◌∷◌, ◌++◌, Option, Some, None, refl, subst, All}
use Rattle.std.specs.List.{AllByRecursion}
use Rattle.std.specs.Option.{option_and_then}
use Rattle.std.proofs.lemmas.List.Elements.{All-cons, All-filter, All-push, All-map, All-weaker}
use Rattle.vault_state.specs.declared.place.Place.{Place}
use Rattle.vault_state.specs.declared.place.Kind.TheVariants.{Assembly}
use Rattle.vault_state.specs.Tree.{new_place, kind_under}
use Rattle.vault_state.specs.declared.claims.Item.{Item}
use Rattle.vault_state.specs.declared.claims.Claim.{Claim}
use Rattle.vault_state.specs.declared.ids.ClaimId.{ClaimId}
use Rattle.vault_state.specs.declared.ids.ClaimId.TheVariants.{Long}
use Rattle.vault_model.specs.declared.effects.Effect.TheVariants as effects
use Rattle.vault_state.specs.Name.{IsName}
use Rattle.vault_model.specs.Said.{Effect}
use Rattle.vault_state.specs.Claims.{new_check_out, same_id, claim_of, without, put_first, changed, given_to, noted_as}
use Rattle.vault_state.specs.Vault.{Vault}
use Rattle.vault_model.specs.After.{only_if, after, after_made, after_nested, after_asked, after_extended, after_saved, after_checked_in, after_abandoned, after_given, after_noted}
use Rattle.vault_model.proofs.Durable.{durable_stays}
use Rattle.vault_state.proofs.Stays.{claim_there}
use Rattle.vault_journal.specs.Spelling.{HasRecord}
use Rattle.vault_format.specs.Snapshot.{HasSnapshot, designer_of}
use Rattle.vault_format.specs.Files.{applied, after_frames, IsFrame}

-- all names are well formed
record IsNamed (v : Vault) : Type 0 where
  places : All (λ (place : Place). IsName place.name) v.tree
  owners : All (λ (claim : Claim). IsName (designer_of claim.owner)) v.line

only_if_is : (b : Bool) (w next : Vault) → only_if b w ≡ Some next → w ≡ next
only_if_is true w next e = cc
only_if_is false w next e = absurd (cc)

-- what holds if an effect needs a claim: it is enough to look at the claim that is found
by_claim : (P : Type 0) (next : Vault) (o : Option Claim) (f : Claim → Option Vault) → ((claim : Claim) → o ≡ Some claim → f claim ≡ Some next → P) → option_and_then f o ≡ Some next → P
by_claim P next None f each e = absurd (cc)
by_claim P next (Some claim) f each e = each claim refl e

module _ (w next : Vault) (named : IsNamed w) where
  named_made : (parent : ℕ) (name : List ℕ) → IsName name → after_made w parent name ≡ Some next → IsNamed next
  unfolding after_made
  named_made parent name is e =
      subst IsNamed (only_if_is _ _ next e) (record { places = All-push (λ (place : Place). IsName place.name) w.tree (new_place parent name (kind_under w.tree parent)) named.places is; owners = named.owners })

  named_nested : (parent : ℕ) (name : List ℕ) → IsName name → after_nested w parent name ≡ Some next → IsNamed next
  unfolding after_nested
  named_nested parent name is e =
      subst IsNamed (only_if_is _ _ next e) (record { places = All-push (λ (place : Place). IsName place.name) w.tree (new_place parent name Assembly) named.places is; owners = named.owners })

  named_asked : (number : ℕ) (designer : List ℕ) (items : List Item) → IsName designer → after_asked w number designer items ≡ Some next → IsNamed next
  unfolding after_asked
  named_asked number designer items is e =
      subst IsNamed (only_if_is _ _ next e) (record {
        places = named.places;
        owners = All-push (λ (claim : Claim). IsName (designer_of claim.owner)) w.line (new_check_out number designer items) named.owners is;
      })

  named_without : (id : ClaimId) → All (λ (claim : Claim). IsName (designer_of claim.owner)) (without w.line id)
  named_without id = All-filter (λ (c : Claim). not (same_id c.id id)) (λ (claim : Claim). IsName (designer_of claim.owner)) w.line named.owners

  named_first : (id : ClaimId) (items : List Item) (claim : Claim) → claim_of w.line id ≡ Some claim → All (λ (c : Claim). IsName (designer_of c.owner)) (put_first w.line id items)
  named_first id items claim found =
      rw found (All-cons (λ (c : Claim). IsName (designer_of c.owner)) (record claim { items = items }) (without w.line id) (claim_there (λ (c : Claim). IsName (designer_of c.owner)) w.line id named.owners claim found) (named_without id))

  named_extended : (number : ℕ) (items : List Item) → after_extended w number items ≡ Some next → IsNamed next
  unfolding after_extended
  named_extended number items e =
      by_claim (IsNamed next) next (claim_of w.line (Long number)) _
      (λ claim found h. subst IsNamed (only_if_is _ _ next h) (record { places = named.places; owners = named_first (Long number) (claim.items ++ items) claim found })) e

  named_saved : (number place : ℕ) (content : List ℕ) → after_saved w number place content ≡ Some next → IsNamed next
  unfolding after_saved
  named_saved number place content e =
      by_claim (IsNamed next) next (claim_of w.line (Long number)) _ (λ claim found h. subst IsNamed (only_if_is _ _ next h) (record { places = named.places; owners = named.owners })) e

  named_checked_in : (number : ℕ) → after_checked_in w number ≡ Some next → IsNamed next
  unfolding after_checked_in
  named_checked_in number e =
      by_claim (IsNamed next) next (claim_of w.line (Long number)) _ (λ claim found h. subst IsNamed (only_if_is _ _ next h) (record { places = named.places; owners = named_without (Long number) })) e

  named_abandoned : (number : ℕ) → after_abandoned w number ≡ Some next → IsNamed next
  unfolding after_abandoned
  named_abandoned number e = subst IsNamed (only_if_is _ _ next e) (record { places = named.places; owners = named_without (Long number) })

  named_changed : (id : ClaimId) (f : Claim → Claim) → ((c : Claim) → IsName (designer_of c.owner) → IsName (designer_of (f c).owner)) → All (λ (c : Claim). IsName (designer_of c.owner)) (changed w.line id f)
  named_changed id f still =
      All-map (λ (c : Claim). IsName (designer_of c.owner)) (λ (c : Claim). cond (same_id c.id id) (f c) c) w.line
      (All-weaker (λ (c : Claim). IsName (designer_of c.owner)) (λ (c : Claim). IsName (designer_of (cond (same_id c.id id) (f c) c).owner)) (λ c h. by_test c (same_id c.id id) h) w.line named.owners)
    where
      by_test : (c : Claim) (b : Bool) → IsName (designer_of c.owner) → IsName (designer_of (cond b (f c) c).owner)
      by_test c true h = still c h
      by_test c false h = h

  named_given : (number : ℕ) (designer : List ℕ) → IsName designer → after_given w number designer ≡ Some next → IsNamed next
  unfolding after_given
  named_given number designer is e = subst IsNamed (only_if_is _ _ next e) (record { places = named.places; owners = named_changed (Long number) (given_to designer) (λ c h. is) })

  named_noted : (number : ℕ) (note : List ℕ) → after_noted w number note ≡ Some next → IsNamed next
  unfolding after_noted
  named_noted number note e = subst IsNamed (only_if_is _ _ next e) (record { places = named.places; owners = named_changed (Long number) (noted_as note) (λ c h. h) })

named_after : (w next : Vault) (effect : Effect) → IsNamed w → HasRecord effect → after w effect ≡ Some next → IsNamed next
unfolding after
named_after w next (effects.Made parent name) named has e = named_made w next named parent name has.1 e
named_after w next (effects.Nested parent name) named has e = named_nested w next named parent name has.1 e
named_after w next (effects.Asked number designer items) named has e = named_asked w next named number designer items has.1 e
named_after w next (effects.Extended number items) named has e = named_extended w next named number items e
named_after w next (effects.Saved number place content) named has e = named_saved w next named number place content e
named_after w next (effects.CheckedIn number) named has e = named_checked_in w next named number e
named_after w next (effects.Abandoned number) named has e = named_abandoned w next named number e
named_after w next (effects.Given number designer) named has e = named_given w next named number designer has.1 e
named_after w next (effects.Noted number note) named has e = named_noted w next named number note e

spelled_after : (w next : Vault) (effect : Effect) → HasSnapshot w → HasRecord effect → after w effect ≡ Some next → HasSnapshot next
spelled_after w next effect has record_is e =
    let stays = durable_stays w next effect has.well_formed e in
    let named = named_after w next effect (record { places = has.places; owners = has.owners }) record_is e in
    record { well_formed = stays.0; durable = stays.1 has.durable; places = named.places; owners = named.owners }

-- a step to a vault that has a spelling, and the steps after it
spelled_step : (v : Vault) (o : Option Vault) (more : Vault → Option Vault) → ((next : Vault) → o ≡ Some next → HasSnapshot next) → ((next : Vault) → HasSnapshot next → more next ≡ Some v → HasSnapshot v) → option_and_then more o ≡ Some v → HasSnapshot v
spelled_step v None more step rest e = absurd (cc)
spelled_step v (Some next) more step rest e = rest next (step next refl) e

-- a vault that has a spelling still has one after effects
pub spelled_stays : (w v : Vault) (effects : List Effect) → HasSnapshot w → AllByRecursion HasRecord effects → applied w effects ≡ Some v → HasSnapshot v
spelled_stays w v [] has each e = let same : w ≡ v = cc in subst HasSnapshot same has
spelled_stays w v (effect ∷ effects) has each e =
    spelled_step v (after w effect) (λ (next : Vault). applied next effects) (λ next is. spelled_after w next effect has each.0 is) (λ next there rest. spelled_stays next v effects there each.1 rest) e

-- and after frames
pub frames_spelled : (w v : Vault) (frames : List (List Effect)) → HasSnapshot w → AllByRecursion IsFrame frames → after_frames w frames ≡ Some v → HasSnapshot v
frames_spelled w v [] has each e = let same : w ≡ v = cc in subst HasSnapshot same has
frames_spelled w v (frame ∷ frames) has each e =
    spelled_step v (applied w frame) (λ (next : Vault). after_frames next frames) (λ next is. spelled_stays w next frame has each.0.each is) (λ next there rest. frames_spelled next v frames there each.1 rest) e
