-- A held claim with more items, put first in the line.
use Rattle.std.specs.Prelude.{◌≡◌, Bool, true, false, not, ◌&&◌, List, [], ◌∷◌, filter, Option, None, Some, is_some, find, refl}
use Rattle.std.proofs.Common.{sym, subst, ap, ◌∙◌, cond}
use Rattle.std.specs.List.{IsDistinct}
use Rattle.std.specs.Option.{option_map, option_map_or, is_none}
use Rattle.vault_state.specs.declared.place.Place.{Place}
use Rattle.vault_state.specs.declared.claims.Item.{Item}
use Rattle.vault_state.specs.declared.claims.Claim.{Claim}
use Rattle.vault_state.specs.declared.claims.Standing.TheVariants.{Held}
use Rattle.vault_state.specs.declared.ids.ClaimId.{ClaimId}
use Rattle.vault_state.specs.Claims.{same_id, overlap, blocker, standing_by, standing_behind, claim_of, before, without, is_held, standing_of, in_way_of, put_first}
use Rattle.vault_state.proofs.Overlaps.{and_intro}
use Rattle.vault_model.proofs.Meetings.{symmetric}
use Rattle.vault_state.proofs.Stays.{stood, take_while-cons, same_id_is, same_id_itself, same_id_turned, own_id, ids, held_none, claim_of-kept, held_kept, kept_there}

-- where none of some claims passes, a claim among them doesn't
pub none_passes : (p q : Claim → Bool) (line : List Claim) (id : ClaimId) (c : Claim) → find p (filter q line) ≡ None → claim_of line id ≡ Some c → q c ≡ true → p c ≡ false
none_passes p q [] id c none found passes = cc
none_passes p q (x ∷ line) id c none found passes = by_tests (q x) refl (p x) refl (same_id x.id id) none found (none_passes p q line id c)
  where
    by_tests : (a : Bool) → q x ≡ a → (b : Bool) → p x ≡ b → (t : Bool) → find p (cond a (x ∷ filter q line) (filter q line)) ≡ None → cond t (Some x) (claim_of line id) ≡ Some c
        → (find p (filter q line) ≡ None → claim_of line id ≡ Some c → q c ≡ true → p c ≡ false) → p c ≡ false
    by_tests a e true g t h k ih = by_kept a e h
      where
        by_kept : (a : Bool) → q x ≡ a → find p (cond a (x ∷ filter q line) (filter q line)) ≡ None → p c ≡ false
        by_kept true e h = let h2 = rw g at h in cc
        by_kept false e h = by_found t k
          where
            by_found : (t : Bool) → cond t (Some x) (claim_of line id) ≡ Some c → p c ≡ false
            by_found true k = let same : x ≡ c = cc in let clash : q x ≡ true = subst (λ d. q d ≡ true) (sym same) passes in let no : true ≡ false = sym clash ∙ e in cc
            by_found false k = ih h k passes
    by_tests a e false g true h k ih = let same : x ≡ c = cc in subst (λ d. p d ≡ false) same g
    by_tests true e false g false h k ih = let h2 = rw g at h in ih h2 k passes
    by_tests false e false g false h k ih = ih h k passes

-- a claim that is held is found, and held
pub held_claim : (tree : List Place) (line : List Claim) (id : ClaimId) (c : Claim) → claim_of line id ≡ Some c → standing_of tree line id ≡ Some Held → is_held tree line c ≡ true
held_claim tree line id c found held =
    let behind : stood tree (before line id) (Some c) ≡ Some Held = subst (λ o. stood tree (before line id) o ≡ Some Held) found held in
    let is : standing_behind tree (before line id) c.items ≡ Held = cc in
    let none = held_none (find (λ d. overlap tree c.items d.items) (before line id)) is in
    let own : c.id ≡ id = own_id line id c found in
    subst (λ k. is_none (blocker tree (before line k) c.items) ≡ true) (sym own) (rw none refl)

-- and the other way
pub stands_held : (tree : List Place) (line : List Claim) (id : ClaimId) (c : Claim) → claim_of line id ≡ Some c → is_held tree line c ≡ true → standing_of tree line id ≡ Some Held
stands_held tree line id c found held =
    let own : c.id ≡ id = own_id line id c found in
    let behind : is_none (blocker tree (before line id) c.items) ≡ true = subst (λ k. is_none (blocker tree (before line k) c.items) ≡ true) own held in
    rw found (ap Some (by_blocker (blocker tree (before line id) c.items) behind))
  where
    by_blocker : (o : Option ClaimId) → is_none o ≡ true → standing_by o ≡ Held
    by_blocker None h = refl
    by_blocker (Some d) h = cc

module _ (tree : List Place) (line : List Claim) (id : ClaimId) (items : List Item) (distinct : IsDistinct same_id (ids line)) (some : is_some (claim_of line id) ≡ true) (free : in_way_of tree line id items ≡ None) where
  front_is : (c : Claim) → claim_of line id ≡ Some c → put_first line id items ≡ record c { items = items } ∷ without line id
  front_is c found = rw found refl

  no_blocker : (o : Option Claim) → option_map (λ (d : Claim). d.id) o ≡ None → o ≡ None
  no_blocker None e = refl
  no_blocker (Some d) e = cc

  -- the claim itself is held
  front_held : (c : Claim) → c.id ≡ id → standing_of tree (record c { items = items } ∷ without line id) id ≡ Some Held
  front_held c own =
      let here : same_id c.id id ≡ true = subst (λ k. same_id c.id k ≡ true) own (same_id_itself c.id) in
      let none : before (record c { items = items } ∷ without line id) id ≡ [] = take_while-cons (λ (d : Claim). not (same_id d.id id)) (record c { items = items }) (without line id) ∙ rw here refl in
      ap (λ ahead. stood tree ahead (claim_of (record c { items = items } ∷ without line id) id)) none ∙ rw here refl

  -- and so is every other that was
  other_held : (c : Claim) → c.id ≡ id → (other : ClaimId) → same_id other id ≡ false → standing_of tree line other ≡ Some Held → standing_of tree (record c { items = items } ∷ without line id) other ≡ Some Held
  other_held c own other apart held = by_claim (claim_of line other) refl held
    where
      apart_first : same_id c.id other ≡ false
      apart_first = subst (λ k. same_id k other ≡ false) (sym own) (same_id_turned other id apart)

      keeps : (d : Claim) → d.id ≡ other → not (same_id d.id id) ≡ true
      keeps d e = rw e (rw apart refl)

      by_claim : (o : Option Claim) → claim_of line other ≡ o → stood tree (before line other) o ≡ Some Held → standing_of tree (record c { items = items } ∷ without line id) other ≡ Some Held
      by_claim None found h = cc
      by_claim (Some d) found h =
          let there : is_some (claim_of (without line id) other) ≡ true = kept_there (λ (e : Claim). not (same_id e.id id)) line other keeps (rw found refl) in
          let left : claim_of (without line id) other ≡ Some d = claim_of-kept (λ (e : Claim). not (same_id e.id id)) line other distinct there ∙ found in
          let stays : standing_of tree (without line id) other ≡ Some Held = held_kept (λ (e : Claim). not (same_id e.id id)) tree line other distinct there held in
          let behind : stood tree (before (without line id) other) (Some d) ≡ Some Held = subst (λ o. stood tree (before (without line id) other) o ≡ Some Held) left stays in
          let is : standing_behind tree (before (without line id) other) d.items ≡ Held = cc in
          let none = held_none (find (λ e. overlap tree d.items e.items) (before (without line id) other)) is in
          let passes : (not (same_id d.id id) && is_held tree line d) ≡ true = and_intro (not (same_id d.id id)) (is_held tree line d) (keeps d (own_id line other d found)) (held_claim tree line other d found held) in
          let clear : overlap tree items d.items ≡ false =
          none_passes (λ e. overlap tree items e.items) (λ (e : Claim). not (same_id e.id id) && is_held tree line e) line other d
          (no_blocker (find (λ e. overlap tree items e.items) (filter (λ (e : Claim). not (same_id e.id id) && is_held tree line e) line)) free) found passes in
          let turned : overlap tree d.items items ≡ false = symmetric tree d.items items ∙ clear in
          let first : before (record c { items = items } ∷ without line id) other ≡ record c { items = items } ∷ before (without line id) other = take_while-cons (λ (e : Claim). not (same_id e.id other)) (record c { items = items }) (without line id) ∙ rw apart_first refl in
          ap (λ ahead. stood tree ahead (claim_of (record c { items = items } ∷ without line id) other)) first
          ∙ rw apart_first (rw left (rw turned (ap (λ o. Some (standing_by (option_map (λ (e : Claim). e.id) o))) none)))

  -- so each claim that was held is
  pub held_front : (other : ClaimId) → standing_of tree line other ≡ Some Held → standing_of tree (put_first line id items) other ≡ Some Held
  held_front other held = by_claim (claim_of line id) refl some
    where
      by_claim : (o : Option Claim) → claim_of line id ≡ o → is_some o ≡ true → standing_of tree (option_map_or (λ (c : Claim). record c { items = items } ∷ without line id) o line) other ≡ Some Held
      by_claim None found h = cc
      by_claim (Some c) found h = by_test (same_id other id) refl
        where
          by_test : (b : Bool) → same_id other id ≡ b → standing_of tree (record c { items = items } ∷ without line id) other ≡ Some Held
          by_test true e = subst (λ k. standing_of tree (record c { items = items } ∷ without line id) k ≡ Some Held) (sym (same_id_is other id e)) (front_held c (own_id line id c found))
          by_test false e = other_held c (own_id line id c found) other e held
