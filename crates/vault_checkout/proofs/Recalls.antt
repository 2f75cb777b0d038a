-- Whether drafts' check-outs stay granted when a claim with more items stands first.
use Rattle.std.specs.Prelude.{◌≡◌, ℕ, zero, suc, ◌+◌, ◌<◌, drop, slice_index_or, ◌&&◌, Bool, true, false, not, List, [], ◌∷◌, ◌++◌, length, find, Option, None, Some, is_some, All, refl}
use Rattle.std.specs.List.{IsDistinct}
use Rattle.std.specs.Option.{option_map, option_map_or, is_none}
use Rattle.std.proofs.Common.{arith, ap, sym, subst, cond, ◌∙◌}
use Rattle.std.proofs.lemmas.Bool.Decides.{nat_tests}
use Rattle.std.proofs.lemmas.List.Elements.{All-head}
use Rattle.vault_state.specs.declared.place.Place.{Place}
use Rattle.vault_state.specs.declared.claims.Item.{Item}
use Rattle.vault_state.specs.declared.claims.Claim.{Claim}
use Rattle.vault_state.specs.declared.claims.Standing.TheVariants as standings
use Rattle.vault_state.specs.declared.ids.ClaimId.{ClaimId}
use Rattle.vault_state.specs.declared.ids.ClaimId.TheVariants.{Long}
use Rattle.vault_state.specs.Claims.{same_id, overlap, blocker, standing_behind, claim_of, before, without, is_held, standing_of, put_first}
use Rattle.vault_state.specs.Shelf.{Draft}
use Rattle.vault_state.specs.Drafts.{SavedDraft, saved_by}
use Rattle.vault_state.specs.Vault.{IsDraft}
use Rattle.vault_model.specs.After.{drafts_held}
use Rattle.vault_state.proofs.Stays.{ids, stood, take_while-cons, same_id_itself, same_id_turned, own_id, held_none, claim_of-kept, held_kept, kept_there}
use Rattle.check_outs.specs.Typed.{number_of, own_drafts, marked, saved}
use Rattle.check_outs.specs.declared.any.AnyCheckOut.{AnyCheckOut}

-- the drafts of some and of others
pub held-append : (tree : List Place) (line : List Claim) (xs ys : List SavedDraft) → drafts_held tree line (xs ++ ys) ≡ (drafts_held tree line xs && drafts_held tree line ys)
held-append tree line [] ys = refl
held-append tree line (x ∷ xs) ys = by_test (option_map_or (λ c. is_held tree line c) (claim_of line (Long x.claim)) false) (held-append tree line xs ys)
  where
    by_test : (b : Bool) → drafts_held tree line (xs ++ ys) ≡ (drafts_held tree line xs && drafts_held tree line ys) → (b && drafts_held tree line (xs ++ ys)) ≡ ((b && drafts_held tree line xs) && drafts_held tree line ys)
    by_test true h = h
    by_test false h = refl

-- the drafts of one check-out: granted where it is, if there are any
marked_held : (tree : List Place) (line : List Claim) (n : ℕ) (drafts : List Draft) → ((drafts ≡ [] → ⊥) → option_map_or (λ c. is_held tree line c) (claim_of line (Long n)) false ≡ true) → drafts_held tree line (marked n drafts) ≡ true
marked_held tree line n [] held = refl
marked_held tree line n (d ∷ ds) held =
    let here : option_map_or (λ c. is_held tree line c) (claim_of line (Long n)) false ≡ true = held (λ none. cc) in
    rw here (marked_held tree line n ds (λ some. here))

pub marked_as : (tree : List Place) (line : List Claim) (n : ℕ) (d : Draft) (ds : List Draft) (b : Bool) → option_map_or (λ c. is_held tree line c) (claim_of line (Long n)) false ≡ b → drafts_held tree line (marked n (d ∷ ds)) ≡ b
marked_as tree line n d ds true e = rw e (marked_held tree line n ds (λ some. e))
marked_as tree line n d ds false e = rw e refl

module _ (tree : List Place) (line : List Claim) (id : ClaimId) (items : List Item) (distinct : IsDistinct same_id (ids line)) where
  first_is : (c : Claim) → claim_of line id ≡ Some c → put_first line id items ≡ record c { items = items } ∷ without line id
  first_is c found = rw found refl

  -- the claim itself is granted
  itself_held : (c : Claim) → claim_of line id ≡ Some c → option_map_or (λ c. is_held tree (put_first line id items) c) (claim_of (put_first line id items) id) false ≡ true
  itself_held c found = rw (first_is c found) (
      let here : same_id c.id id ≡ true = subst (λ k. same_id c.id k ≡ true) (own_id line id c found) (same_id_itself c.id) in
      let none : before (record c { items = items } ∷ without line id) c.id ≡ [] = take_while-cons (λ (d : Claim). not (same_id d.id c.id)) (record c { items = items }) (without line id) ∙ rw (same_id_itself c.id) refl in
      rw here (ap (λ ahead. is_none (blocker tree ahead items)) none)
      )

  -- another that was granted still is where the two don't overlap
  other_held : (c : Claim) → claim_of line id ≡ Some c → (other : ClaimId) → same_id other id ≡ false → (d : Claim) → claim_of line other ≡ Some d → standing_of tree line other ≡ Some standings.Held
      → option_map_or (λ c. is_held tree (put_first line id items) c) (claim_of (put_first line id items) other) false ≡ not (overlap tree d.items items)
  other_held c found other apart d at held = rw (first_is c found) (
      rw apart_first (rw left (ap (λ ahead. is_none (blocker tree ahead d.items)) first_d ∙ by_overlap (overlap tree d.items items)))
      )
    where
      own : c.id ≡ id
      own = own_id line id c found

      apart_first : same_id c.id other ≡ false
      apart_first = subst (λ k. same_id k other ≡ false) (sym own) (same_id_turned other id apart)

      keeps : (e : Claim) → e.id ≡ other → not (same_id e.id id) ≡ true
      keeps e same = rw same (rw apart refl)

      there : is_some (claim_of (without line id) other) ≡ true
      there = kept_there (λ (e : Claim). not (same_id e.id id)) line other keeps (rw at refl)

      left : claim_of (without line id) other ≡ Some d
      left = claim_of-kept (λ (e : Claim). not (same_id e.id id)) line other distinct there ∙ at

      none : find (λ e. overlap tree d.items e.items) (before (without line id) other) ≡ None
      none =
          let stays : standing_of tree (without line id) other ≡ Some standings.Held = held_kept (λ (e : Claim). not (same_id e.id id)) tree line other distinct there held in
          let behind : stood tree (before (without line id) other) (Some d) ≡ Some standings.Held = subst (λ o. stood tree (before (without line id) other) o ≡ Some standings.Held) left stays in
          let is : standing_behind tree (before (without line id) other) d.items ≡ standings.Held = cc in
          held_none (find (λ e. overlap tree d.items e.items) (before (without line id) other)) is

      first : before (record c { items = items } ∷ without line id) other ≡ record c { items = items } ∷ before (without line id) other
      first = take_while-cons (λ (e : Claim). not (same_id e.id other)) (record c { items = items }) (without line id) ∙ rw apart_first refl

      first_d : before (record c { items = items } ∷ without line id) d.id ≡ record c { items = items } ∷ before (without line id) other
      first_d = subst (λ k. before (record c { items = items } ∷ without line id) k ≡ record c { items = items } ∷ before (without line id) other) (sym (own_id line other d at)) first

      by_overlap : (b : Bool) → is_none (option_map (λ (e : Claim). e.id) (cond b (Some (record c { items = items })) (find (λ e. overlap tree d.items e.items) (before (without line id) other)))) ≡ not b
      by_overlap true = refl
      by_overlap false = rw none refl

-- the drafts of a check-out, by its claim
module _ (tree : List Place) (line : List Claim) (n : ℕ) (items : List Item) (distinct : IsDistinct same_id (ids line)) (found : is_some (claim_of line (Long n)) ≡ true) where
  -- of the claim that stands first
  pub itself_stays : (drafts : List Draft) → drafts_held tree (put_first line (Long n) items) (marked n drafts) ≡ true
  itself_stays drafts = marked_held tree (put_first line (Long n) items) n drafts (λ some. by_claim (claim_of line (Long n)) refl found)
    where
      by_claim : (o : Option Claim) → claim_of line (Long n) ≡ o → is_some o ≡ true → option_map_or (λ c. is_held tree (put_first line (Long n) items) c) (claim_of (put_first line (Long n) items) (Long n)) false ≡ true
      by_claim None at e = cc
      by_claim (Some c) at e = itself_held tree line (Long n) items distinct c at

  -- and of another
  pub other_stays : (m : ℕ) (drafts : List Draft) → (drafts ≡ [] → ⊥) → (m ≡ n → ⊥) → All (IsDraft tree line) (marked m drafts) → (d : Claim) → claim_of line (Long m) ≡ Some d
      → not (overlap tree d.items items) ≡ drafts_held tree (put_first line (Long n) items) (marked m drafts)
  other_stays m [] some apart all d at = absurd (some refl)
  other_stays m (x ∷ xs) some apart all d at =
      sym (marked_as tree (put_first line (Long n) items) m x xs (not (overlap tree d.items items)) (by_claim (claim_of line (Long n)) refl found))
    where
      other : same_id (Long m) (Long n) ≡ false
      other = grind (arith, nat_tests, apart)

      by_claim : (o : Option Claim) → claim_of line (Long n) ≡ o → is_some o ≡ true → option_map_or (λ c. is_held tree (put_first line (Long n) items) c) (claim_of (put_first line (Long n) items) (Long m)) false ≡ not (overlap tree d.items items)
      by_claim None f e = cc
      by_claim (Some c) f e = other_held tree line (Long n) items distinct c f (Long m) other d at (All-head (IsDraft tree line) (saved_by m x) (marked m xs) all).held

  -- a check-out with drafts has a claim
  pub none_stays : (m : ℕ) (drafts : List Draft) → (drafts ≡ [] → ⊥) → All (IsDraft tree line) (marked m drafts) → claim_of line (Long m) ≡ None → ⊥
  none_stays m [] some all at = some refl
  none_stays m (x ∷ xs) some all at =
      let held = (All-head (IsDraft tree line) (saved_by m x) (marked m xs) all).held in
      let none : standing_of tree line (Long m) ≡ None = rw at refl in
      let clash : Some standings.Held ≡ None = sym held ∙ none in
      cc

-- the check-outs from one on
pub from_one : {A : Type 0} (xs : List (AnyCheckOut A)) (i : ℕ) (x : AnyCheckOut A) → x ≡ slice_index_or xs i x → i < length xs → saved (drop i xs) ≡ marked (number_of x) (own_drafts x) ++ saved (drop (i + 1) xs)
from_one [] i x e high = absurd (omega arith)
from_one (y ∷ xs) zero x e high = ap (λ z. marked (number_of z) (own_drafts z) ++ saved xs) (sym e)
from_one (y ∷ xs) (suc i) x e high =
    let next : suc i + 1 ≡ suc (i + 1) = omega arith in
    from_one xs i x e (omega arith) ∙ ap (λ k. marked (number_of x) (own_drafts x) ++ saved (drop k (y ∷ xs))) (sym next)
