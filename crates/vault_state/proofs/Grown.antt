-- A new place changes no overlap and no standing.
use Rattle.std.specs.Prelude.{◌≡◌, ◌≤◌, ◌||◌, ◌&&◌, Bool, List, [], ◌∷◌, ◌++◌, length, Option, None, Some, find, All, refl}
use Rattle.std.proofs.Common.{sym, ap, ◌∙◌, cond}
use Rattle.std.specs.List.{list_any}
use Rattle.std.specs.Option.{option_map}
use Rattle.std.proofs.lemmas.List.Elements.{All-head, All-tail, All-take}
use Rattle.vault_state.specs.declared.place.Place.{Place}
use Rattle.vault_state.specs.declared.claims.Item.{Item}
use Rattle.vault_state.specs.declared.claims.Claim.{Claim}
use Rattle.vault_state.specs.declared.ids.ClaimId.{ClaimId}
use Rattle.vault_state.specs.Tree.{is_under}
use Rattle.vault_state.specs.Claims.{is_change, overlap, standing_by, standing_behind, claim_of, before, standing_of}
use Rattle.vault_state.specs.Vault.{AreThere}
use Rattle.vault_state.specs.Pairs.{pair_meets, pairs_meet}
use Rattle.vault_state.proofs.Overlaps.{overlap-pairs}
use Rattle.vault_state.proofs.Walks.{Rises}
use Rattle.vault_state.proofs.Growth.{is_under-push, Rises-push, AreThere-push}
use Rattle.vault_state.proofs.Stays.{claim_there}

-- two tests that agree on all members
any_same : {X : Type 0} (P : X → Type 0) (p q : X → Bool) (xs : List X) → All P xs → ((x : X) → P x → p x ≡ q x) → list_any p xs ≡ list_any q xs
any_same P p q [] all h = refl
any_same P p q (x ∷ xs) all h =
    ap (λ b. b || list_any p xs) (h x (All-head P x xs all)) ∙ ap (λ b. q x || b) (any_same P p q xs (All-tail P x xs all) h)

find_same : {X : Type 0} (P : X → Type 0) (p q : X → Bool) (xs : List X) → All P xs → ((x : X) → P x → p x ≡ q x) → find p xs ≡ find q xs
find_same P p q [] all h = refl
find_same P p q (x ∷ xs) all h =
    ap (λ b. cond b (Some x) (find p xs)) (h x (All-head P x xs all)) ∙ ap (λ o. cond (q x) (Some x) o) (find_same P p q xs (All-tail P x xs all) h)

module _ (tree : List Place) (x : Place) (rises : Rises tree) (parent : x.parent ≤ length tree) where
  abbrev bigger : List Place
  bigger = tree ++ x ∷ []

  pair_grown : (a b : Item) → a.place ≤ length tree → b.place ≤ length tree → pair_meets bigger a b ≡ pair_meets tree a b
  pair_grown a b ha hb =
      ap (λ t. (is_change a.intent || is_change b.intent) && (t || is_under bigger b.place a.place)) (is_under-push tree x a.place b.place rises ha)
      ∙ ap (λ t. (is_change a.intent || is_change b.intent) && (is_under tree a.place b.place || t)) (is_under-push tree x b.place a.place rises hb)

  pairs_grown : (c d : List Item) → AreThere tree c → AreThere tree d → pairs_meet bigger c d ≡ pairs_meet tree c d
  pairs_grown c d hc hd =
      any_same (λ (a : Item). a.place ≤ length tree) (λ a. list_any (λ b. pair_meets bigger a b) d) (λ a. list_any (λ b. pair_meets tree a b) d) c hc
      (λ a ha. any_same (λ (b : Item). b.place ≤ length tree) (λ b. pair_meets bigger a b) (λ b. pair_meets tree a b) d hd (λ b hb. pair_grown a b ha hb))

  -- a new place changes no overlap
  pub overlap_grown : (c d : List Item) → AreThere tree c → AreThere tree d → overlap bigger c d ≡ overlap tree c d
  overlap_grown c d hc hd =
      overlap-pairs bigger c d (Rises-push tree x rises parent) (AreThere-push tree x c hc) (AreThere-push tree x d hd)
      ∙ pairs_grown c d hc hd ∙ sym (overlap-pairs tree c d rises hc hd)

  -- nor any standing
  pub standing_of-grown : (line : List Claim) (id : ClaimId) → All (λ (c : Claim). AreThere tree c.items) line → standing_of bigger line id ≡ standing_of tree line id
  standing_of-grown line id there = by_claim (claim_of line id) (claim_there (λ (c : Claim). AreThere tree c.items) line id there)
    where
      by_claim : (o : Option Claim) → ((c : Claim) → o ≡ Some c → AreThere tree c.items) → option_map (λ c. standing_behind bigger (before line id) c.items) o ≡ option_map (λ c. standing_behind tree (before line id) c.items) o
      by_claim None h = refl
      by_claim (Some c) h =
          ap (λ o. Some (standing_by (option_map (λ (d : Claim). d.id) o)))
          (find_same (λ (d : Claim). AreThere tree d.items) (λ d. overlap bigger c.items d.items) (λ d. overlap tree c.items d.items) (before line id)
          (All-take (λ (d : Claim). AreThere tree d.items) _ line there) (λ d hd. overlap_grown c.items d.items (h c refl) hd))
