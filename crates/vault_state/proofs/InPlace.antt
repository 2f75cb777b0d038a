-- Claims that change in their places: their ids and their items stay, and so does how each stands.
use Rattle.std.specs.Prelude.{◌≡◌, Bool, true, false, not, List, [], ◌∷◌, map, filter, Option, None, Some, is_some, find, refl}
use Rattle.std.proofs.Common.{ap, sym, ◌∙◌, cond}
use Rattle.std.specs.Option.{option_map}
use Rattle.vault_state.specs.declared.place.Place.{Place}
use Rattle.vault_state.specs.declared.claims.Claim.{Claim}
use Rattle.vault_state.specs.declared.claims.Item.{Item}
use Rattle.vault_state.specs.declared.ids.ClaimId.{ClaimId}
use Rattle.vault_state.specs.Claims.{same_id, overlap, blocker, standing_by, claim_of, before, standing_of, changed}
use Rattle.vault_state.proofs.Stays.{take_while-cons, stood, ids}

-- ---- all claims of a line

module _ (f : Claim → Claim) (own : (c : Claim) → (f c).id ≡ c.id) (same : (c : Claim) → (f c).items ≡ c.items) where
  pub claim_of-map : (line : List Claim) (id : ClaimId) → claim_of (map f line) id ≡ option_map f (claim_of line id)
  claim_of-map [] id = refl
  claim_of-map (x ∷ line) id = ap (λ k. cond (same_id k id) (Some (f x)) (claim_of (map f line) id)) (own x) ∙ by_test (same_id x.id id) (claim_of-map line id)
    where
      by_test : (b : Bool) → claim_of (map f line) id ≡ option_map f (claim_of line id) → cond b (Some (f x)) (claim_of (map f line) id) ≡ option_map f (cond b (Some x) (claim_of line id))
      by_test true ih = refl
      by_test false ih = ih

  before-map : (line : List Claim) (id : ClaimId) → before (map f line) id ≡ map f (before line id)
  before-map [] id = refl
  before-map (x ∷ line) id =
      take_while-cons (λ (d : Claim). not (same_id d.id id)) (f x) (map f line)
      ∙ ap (λ k. cond (not (same_id k id)) (f x ∷ before (map f line) id) []) (own x)
      ∙ by_test (same_id x.id id) (before-map line id)
      ∙ ap (λ ahead. map f ahead) (sym (take_while-cons (λ (d : Claim). not (same_id d.id id)) x line))
    where
      by_test : (b : Bool) → before (map f line) id ≡ map f (before line id) → cond (not b) (f x ∷ before (map f line) id) [] ≡ map f (cond (not b) (x ∷ before line id) [])
      by_test true ih = refl
      by_test false ih = ap (λ rest. f x ∷ rest) ih

  blocker-map : (tree : List Place) (line : List Claim) (items : List Item) → blocker tree (map f line) items ≡ blocker tree line items
  blocker-map tree [] items = refl
  blocker-map tree (x ∷ line) items =
      ap (λ k. option_map (λ (d : Claim). d.id) (cond (overlap tree items k) (Some (f x)) (find (λ d. overlap tree items d.items) (map f line)))) (same x)
      ∙ by_test (overlap tree items x.items) (blocker-map tree line items)
    where
      by_test : (b : Bool) → blocker tree (map f line) items ≡ blocker tree line items
          → option_map (λ (d : Claim). d.id) (cond b (Some (f x)) (find (λ d. overlap tree items d.items) (map f line))) ≡ option_map (λ (d : Claim). d.id) (cond b (Some x) (find (λ d. overlap tree items d.items) line))
      by_test true ih = ap Some (own x)
      by_test false ih = ih

  pub standing_of-map : (tree : List Place) (line : List Claim) (id : ClaimId) → standing_of tree (map f line) id ≡ standing_of tree line id
  standing_of-map tree line id =
      ap (λ ahead. stood tree ahead (claim_of (map f line) id)) (before-map line id)
      ∙ ap (λ claim. stood tree (map f (before line id)) claim) (claim_of-map line id)
      ∙ by_claim (claim_of line id)
    where
      by_claim : (o : Option Claim) → stood tree (map f (before line id)) (option_map f o) ≡ stood tree (before line id) o
      by_claim None = refl
      by_claim (Some c) = ap (λ k. Some (standing_by (blocker tree (map f (before line id)) k))) (same c) ∙ ap (λ o. Some (standing_by o)) (blocker-map tree (before line id) c.items)

  pub ids-map : (line : List Claim) → ids (map f line) ≡ ids line
  ids-map [] = refl
  ids-map (x ∷ line) = ap (λ k. k ∷ ids (map f line)) (own x) ∙ ap (λ rest. x.id ∷ rest) (ids-map line)

  -- those that pass a test of their ids are the same
  pub filter-map : (p : Claim → Bool) (line : List Claim) → ((c : Claim) → p (f c) ≡ p c) → filter p (map f line) ≡ map f (filter p line)
  filter-map p [] alike = refl
  filter-map p (x ∷ line) alike = ap (λ b. cond b (f x ∷ filter p (map f line)) (filter p (map f line))) (alike x) ∙ by_test (p x) (filter-map p line alike)
    where
      by_test : (b : Bool) → filter p (map f line) ≡ map f (filter p line) → cond b (f x ∷ filter p (map f line)) (filter p (map f line)) ≡ map f (cond b (x ∷ filter p line) (filter p line))
      by_test true ih = ap (λ rest. f x ∷ rest) ih
      by_test false ih = ih

-- ---- the claim of one id

module _ (id : ClaimId) (f : Claim → Claim) (own : (c : Claim) → (f c).id ≡ c.id) (same : (c : Claim) → (f c).items ≡ c.items) where
  -- a claim, changed where it is the one
  abbrev one : Claim → Claim
  one c = cond (same_id c.id id) (f c) c

  pub one_id : (c : Claim) → (one c).id ≡ c.id
  one_id c = by_test (same_id c.id id)
    where
      by_test : (b : Bool) → (cond b (f c) c).id ≡ c.id
      by_test true = own c
      by_test false = refl

  pub one_items : (c : Claim) → (one c).items ≡ c.items
  one_items c = by_test (same_id c.id id)
    where
      by_test : (b : Bool) → (cond b (f c) c).items ≡ c.items
      by_test true = same c
      by_test false = refl

  pub standing_of-changed : (tree : List Place) (line : List Claim) (k : ClaimId) → standing_of tree (changed line id f) k ≡ standing_of tree line k
  standing_of-changed tree line k = standing_of-map one one_id one_items tree line k

  pub stands-changed : (line : List Claim) (k : ClaimId) → is_some (claim_of (changed line id f) k) ≡ is_some (claim_of line k)
  stands-changed line k = ap is_some (claim_of-map one one_id one_items line k) ∙ by_claim (claim_of line k)
    where
      by_claim : (o : Option Claim) → is_some (option_map one o) ≡ is_some o
      by_claim None = refl
      by_claim (Some c) = refl

  -- a test of ids and the change may be taken in either order
  pub filter-changed : (p : Claim → Bool) (line : List Claim) → ((c : Claim) → p (one c) ≡ p c) → filter p (changed line id f) ≡ changed (filter p line) id f
  filter-changed p line alike = filter-map one one_id one_items p line alike
