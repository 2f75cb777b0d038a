-- A held claim stays held: when a claim joins the line at its end, and when some leave it.
use Rattle.std.specs.Prelude.{◌≡◌, suc, ◌+◌, Bool, true, false, not, List, [], ◌∷◌, ◌++◌, take, map, filter, take_while, Option, None, Some, is_some, find, All, refl}
use Rattle.std.proofs.Common.{sym, subst, ap, ◌∙◌, cond, arith}
use Rattle.std.specs.List.{prefix_len, IsDistinct, AllByRecursion}
use Rattle.std.specs.Option.{option_map}
use Rattle.std.proofs.lemmas.List.Elements.{All-head, All-tail}
use Rattle.std.proofs.lemmas.Bool.Decides.{nat_tests}
use Rattle.vault_state.specs.declared.place.Place.{Place}
use Rattle.vault_state.specs.declared.claims.Claim.{Claim}
use Rattle.vault_state.specs.declared.claims.Standing.{Standing}
use Rattle.vault_state.specs.declared.claims.Standing.TheVariants.{Held}
use Rattle.vault_state.specs.declared.ids.ClaimId.{ClaimId}
use Rattle.vault_state.specs.declared.ids.ClaimId.TheVariants.{Long, Short}
use Rattle.vault_state.specs.Claims.{same_id, overlap, standing_by, standing_behind, claim_of, before, standing_of}

pub take_while-cons : {X : Type 0} (p : X → Bool) (x : X) (xs : List X) → take_while p (x ∷ xs) ≡ cond (p x) (x ∷ take_while p xs) []
take_while-cons p x xs = by_test (p x)
  where
    by_test : (b : Bool) → take (cond b (1 + prefix_len p xs) 0) (x ∷ xs) ≡ cond b (x ∷ take_while p xs) []
    by_test true = let e : 1 + prefix_len p xs ≡ suc (prefix_len p xs) = omega arith in rw e refl
    by_test false = refl

-- one more claim at the end changes nothing for those before it
pub claim_of-push : (line : List Claim) (c : Claim) (id : ClaimId) → is_some (claim_of line id) ≡ true → claim_of (line ++ c ∷ []) id ≡ claim_of line id
claim_of-push [] c id e = cc
claim_of-push (x ∷ xs) c id e = by_test (same_id x.id id) e (claim_of-push xs c id)
  where
    by_test : (b : Bool) → is_some (cond b (Some x) (claim_of xs id)) ≡ true → (is_some (claim_of xs id) ≡ true → claim_of (xs ++ c ∷ []) id ≡ claim_of xs id) → cond b (Some x) (claim_of (xs ++ c ∷ []) id) ≡ cond b (Some x) (claim_of xs id)
    by_test true h ih = refl
    by_test false h ih = ih h

before-push : (line : List Claim) (c : Claim) (id : ClaimId) → is_some (claim_of line id) ≡ true → before (line ++ c ∷ []) id ≡ before line id
before-push [] c id e = cc
before-push (x ∷ xs) c id e =
    take_while-cons (λ (d : Claim). not (same_id d.id id)) x (xs ++ c ∷ [])
    ∙ by_test (same_id x.id id) e (before-push xs c id)
    ∙ sym (take_while-cons (λ (d : Claim). not (same_id d.id id)) x xs)
  where
    by_test : (b : Bool) → is_some (cond b (Some x) (claim_of xs id)) ≡ true → (is_some (claim_of xs id) ≡ true → before (xs ++ c ∷ []) id ≡ before xs id) → cond (not b) (x ∷ before (xs ++ c ∷ []) id) [] ≡ cond (not b) (x ∷ before xs id) []
    by_test true h ih = refl
    by_test false h ih = ap (λ rest. x ∷ rest) (ih h)

abbrev pub stood : List Place → List Claim → Option Claim → Option Standing
stood tree ahead claim = option_map (λ c. standing_behind tree ahead c.items) claim

pub standing_of-push : (tree : List Place) (line : List Claim) (c : Claim) (id : ClaimId) → is_some (claim_of line id) ≡ true → standing_of tree (line ++ c ∷ []) id ≡ standing_of tree line id
standing_of-push tree line c id e =
    ap (λ ahead. stood tree ahead (claim_of (line ++ c ∷ []) id)) (before-push line c id e)
    ∙ ap (λ claim. stood tree (before line id) claim) (claim_of-push line c id e)

pub same_id_is : (a b : ClaimId) → same_id a b ≡ true → a ≡ b
same_id_is (Long m) (Long n) e = let same : m ≡ n = grind (arith, nat_tests, e) in ap Long same
same_id_is (Short m) (Short n) e = let same : m ≡ n = grind (arith, nat_tests, e) in ap Short same
same_id_is (Long m) (Short n) e = cc
same_id_is (Short m) (Long n) e = cc

pub same_id_itself : (a : ClaimId) → same_id a a ≡ true
same_id_itself (Long m) = grind (arith, nat_tests)
same_id_itself (Short m) = grind (arith, nat_tests)

pub same_id_turned : (a b : ClaimId) → same_id a b ≡ false → same_id b a ≡ false
same_id_turned (Long m) (Long n) e = grind (arith, nat_tests)
same_id_turned (Short m) (Short n) e = grind (arith, nat_tests)
same_id_turned (Long m) (Short n) e = refl
same_id_turned (Short m) (Long n) e = refl

-- a claim that is found has the id that was looked for
pub own_id : (line : List Claim) (id : ClaimId) (c : Claim) → claim_of line id ≡ Some c → c.id ≡ id
own_id [] id c e = cc
own_id (x ∷ line) id c e = by_test (same_id x.id id) refl e (own_id line id c)
  where
    by_test : (b : Bool) → same_id x.id id ≡ b → cond b (Some x) (claim_of line id) ≡ Some c → (claim_of line id ≡ Some c → c.id ≡ id) → c.id ≡ id
    by_test true h k rest = let same : x ≡ c = cc in ap (λ (d : Claim). d.id) (sym same) ∙ same_id_is x.id id h
    by_test false h k rest = rest k

-- where none passes, none of fewer does
pub find-filter : {X : Type 0} (p q : X → Bool) (xs : List X) → find p xs ≡ None → find p (filter q xs) ≡ None
find-filter p q [] e = refl
find-filter p q (x ∷ xs) e = by_tests (p x) refl (q x) e (find-filter p q xs)
  where
    by_tests : (b : Bool) → p x ≡ b → (t : Bool) → cond b (Some x) (find p xs) ≡ None → (find p xs ≡ None → find p (filter q xs) ≡ None) → find p (cond t (x ∷ filter q xs) (filter q xs)) ≡ None
    by_tests true g t h ih = cc
    by_tests false g true h ih = rw g (ih h)
    by_tests false g false h ih = ih h

pub held_none : (o : Option Claim) → standing_by (option_map (λ (d : Claim). d.id) o) ≡ Held → o ≡ None
held_none None e = refl
held_none (Some d) e = cc

some_claim : (o : Option Claim) (f : Claim → Standing) (standing : Standing) → option_map f o ≡ Some standing → is_some o ≡ true
some_claim None f standing e = cc
some_claim (Some c) f standing e = refl

-- a held claim is in the line
pub held_there : (tree : List Place) (line : List Claim) (id : ClaimId) → standing_of tree line id ≡ Some Held → is_some (claim_of line id) ≡ true
held_there tree line id held = some_claim (claim_of line id) (λ (c : Claim). standing_behind tree (before line id) c.items) Held held

abbrev pub ids : List Claim → List ClaimId
ids line = map (λ (c : Claim). c.id) line

-- where each has another id, none is found
pub none_of : (id : ClaimId) (line : List Claim) → AllByRecursion (λ k. same_id id k ≡ false) (ids line) → claim_of line id ≡ None
none_of id [] all = refl
none_of id (x ∷ line) all = rw (same_id_turned id x.id all.0) (none_of id line all.1)

-- Some of the claims, in a line where each has an id of its own.
module _ (keep : Claim → Bool) where
  -- one that has gone is not found behind its place
  gone : (x : Claim) (line : List Claim) (id : ClaimId) → AllByRecursion (λ k. same_id x.id k ≡ false) (ids line) → same_id x.id id ≡ true → is_some (claim_of (filter keep line) id) ≡ true → ⊥
  gone x line id apart same some =
      let all : AllByRecursion (λ k. same_id id k ≡ false) (ids line) = subst (λ y. AllByRecursion (λ k. same_id y k ≡ false) (ids line)) (same_id_is x.id id same) apart in
      let none : claim_of (filter keep line) id ≡ None = find-filter (λ c. same_id c.id id) keep line (none_of id line all) in
      let clash : false ≡ true = ap is_some (sym none) ∙ some in
      cc

  -- one that is left is found as before
  pub claim_of-kept : (line : List Claim) (id : ClaimId) → IsDistinct same_id (ids line) → is_some (claim_of (filter keep line) id) ≡ true → claim_of (filter keep line) id ≡ claim_of line id
  unfolding IsDistinct
  claim_of-kept [] id distinct some = refl
  claim_of-kept (x ∷ line) id distinct some = by_tests (keep x) (same_id x.id id) refl some (claim_of-kept line id distinct.1)
    where
      by_tests : (k b : Bool) → same_id x.id id ≡ b → is_some (claim_of (cond k (x ∷ filter keep line) (filter keep line)) id) ≡ true
          → (is_some (claim_of (filter keep line) id) ≡ true → claim_of (filter keep line) id ≡ claim_of line id)
          → claim_of (cond k (x ∷ filter keep line) (filter keep line)) id ≡ cond b (Some x) (claim_of line id)
      by_tests true true g h ih = rw g refl
      by_tests true false g h ih = let h2 = rw g at h in rw g (ih h2)
      by_tests false true g h ih = absurd (gone x line id distinct.0 g h)
      by_tests false false g h ih = ih h

  -- and those before it are those of them that are left
  pub before-kept : (line : List Claim) (id : ClaimId) → IsDistinct same_id (ids line) → is_some (claim_of (filter keep line) id) ≡ true → before (filter keep line) id ≡ filter keep (before line id)
  unfolding IsDistinct
  before-kept [] id distinct some = refl
  before-kept (x ∷ line) id distinct some =
      by_tests (keep x) refl (same_id x.id id) refl some (before-kept line id distinct.1)
      ∙ ap (λ ahead. filter keep ahead) (sym (take_while-cons (λ (d : Claim). not (same_id d.id id)) x line))
    where
      by_tests : (k : Bool) → keep x ≡ k → (b : Bool) → same_id x.id id ≡ b → is_some (claim_of (cond k (x ∷ filter keep line) (filter keep line)) id) ≡ true
          → (is_some (claim_of (filter keep line) id) ≡ true → before (filter keep line) id ≡ filter keep (before line id))
          → before (cond k (x ∷ filter keep line) (filter keep line)) id ≡ filter keep (cond (not b) (x ∷ before line id) [])
      by_tests true e true g h ih = take_while-cons (λ (d : Claim). not (same_id d.id id)) x (filter keep line) ∙ rw g refl
      by_tests true e false g h ih = let h2 = rw g at h in take_while-cons (λ (d : Claim). not (same_id d.id id)) x (filter keep line) ∙ rw (g, e) (ap (λ rest. x ∷ rest) (ih h2))
      by_tests false e true g h ih = absurd (gone x line id distinct.0 g h)
      by_tests false e false g h ih = rw e (ih h)

  -- so one that is held stays held
  pub held_kept : (tree : List Place) (line : List Claim) (id : ClaimId) → IsDistinct same_id (ids line) → is_some (claim_of (filter keep line) id) ≡ true → standing_of tree line id ≡ Some Held → standing_of tree (filter keep line) id ≡ Some Held
  held_kept tree line id distinct some held =
      ap (λ ahead. stood tree ahead (claim_of (filter keep line) id)) (before-kept line id distinct some)
      ∙ ap (λ claim. stood tree (filter keep (before line id)) claim) (claim_of-kept line id distinct some)
      ∙ by_claim (claim_of line id) held
    where
      by_claim : (o : Option Claim) → stood tree (before line id) o ≡ Some Held → stood tree (filter keep (before line id)) o ≡ Some Held
      by_claim None h = h
      by_claim (Some c) h =
          let is : standing_behind tree (before line id) c.items ≡ Held = cc in
          let none = held_none (find (λ d. overlap tree c.items d.items) (before line id)) is in
          ap (λ o. Some (standing_by (option_map (λ (d : Claim). d.id) o))) (find-filter (λ d. overlap tree c.items d.items) keep (before line id) none)

  -- one that passes the test is left
  pub kept_there : (line : List Claim) (id : ClaimId) → ((c : Claim) → c.id ≡ id → keep c ≡ true) → is_some (claim_of line id) ≡ true → is_some (claim_of (filter keep line) id) ≡ true
  kept_there [] id passes some = some
  kept_there (x ∷ line) id passes some = by_tests (keep x) refl (same_id x.id id) refl some (kept_there line id passes)
    where
      by_tests : (k : Bool) → keep x ≡ k → (b : Bool) → same_id x.id id ≡ b → is_some (cond b (Some x) (claim_of line id)) ≡ true
          → (is_some (claim_of line id) ≡ true → is_some (claim_of (filter keep line) id) ≡ true)
          → is_some (claim_of (cond k (x ∷ filter keep line) (filter keep line)) id) ≡ true
      by_tests true e true g h ih = rw g refl
      by_tests true e false g h ih = rw g (ih h)
      by_tests false e true g h ih = let clash : true ≡ false = sym (passes x (same_id_is x.id id g)) ∙ e in cc
      by_tests false e false g h ih = ih h

-- what holds of each claim of the line holds of one that is found
pub claim_there : (P : Claim → Type 0) (line : List Claim) (id : ClaimId) → All P line → (c : Claim) → claim_of line id ≡ Some c → P c
claim_there P [] id all c e = cc
claim_there P (x ∷ xs) id all c e = by_test (same_id x.id id) e (claim_there P xs id (All-tail P x xs all))
  where
    by_test : (b : Bool) → cond b (Some x) (claim_of xs id) ≡ Some c → ((d : Claim) → claim_of xs id ≡ Some d → P d) → P c
    by_test true h rest = let same : x ≡ c = cc in subst P same (All-head P x xs all)
    by_test false h rest = rest c h
