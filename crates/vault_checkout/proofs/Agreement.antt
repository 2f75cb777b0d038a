-- The types of check-outs agree with the line, through each change of it.
use Rattle.std.specs.Prelude.{◌≡◌, ℕ, ◌==◌, ◌||◌, nat_lt, Bool, true, false, not, List, [], ◌∷◌, ◌++◌, length, map, filter, Option, None, Some, is_some, All, refl}
use Rattle.std.specs.List.{AllByRecursion}
use Rattle.std.specs.Option.{option_map}
use Rattle.std.proofs.Common.{arith, ap, sym, subst, cond, ◌∙◌}
use Rattle.std.proofs.lemmas.Bool.Decides.{nat_tests}
use Rattle.std.proofs.lemmas.List.Elements.{All-nil, All-cons, All-head, All-tail, All-weaker, All-map}
use Rattle.vault_state.specs.declared.place.Place.{Place}
use Rattle.vault_state.specs.declared.claims.Claim.{Claim}
use Rattle.vault_state.specs.declared.claims.Standing.{Standing}
use Rattle.vault_state.specs.declared.claims.Standing.TheVariants as standings
use Rattle.vault_state.specs.declared.ids.ClaimId.{ClaimId}
use Rattle.vault_state.specs.declared.ids.ClaimId.TheVariants.{Long}
use Rattle.vault_state.specs.Claims.{same_id, claim_of, before, without, standing_of, standing_behind}
use Rattle.vault_state.proofs.Stays.{take_while-cons, same_id_itself}
use Rattle.check_outs.specs.declared.any.AnyCheckOut.{AnyCheckOut}
use Rattle.check_outs.specs.declared.any.AnyCheckOut.TheVariants.{Waiting, Held}
use Rattle.check_outs.specs.Typed.{number_of, is_granted, check_out_of, is_held_standing, is_holding, granted_if, granted, recalled_unless, IsAscending, Agrees}
use Rattle.check_outs.proofs.OwnDrafts.{all_kept}

-- a claim that is granted, as a test and as a standing
pub held_is : (o : Option Standing) → is_held_standing o ≡ true → o ≡ Some standings.Held
held_is (Some standings.Held) h = refl
held_is (Some (standings.Queued other)) h = cc
held_is None h = cc

-- a claim that passes stays where it was found
pub claim_kept : (P : Claim → Type 0) (keep : Claim → Bool) (line : List Claim) (id : ClaimId) → All P line → ((c : Claim) → P c → same_id c.id id ≡ true → keep c ≡ true) → claim_of (filter keep line) id ≡ claim_of line id
claim_kept P keep [] id all passes = refl
claim_kept P keep (x ∷ line) id all passes = by_tests (keep x) refl (same_id x.id id) refl (claim_kept P keep line id (All-tail P x line all) passes)
  where
    by_tests : (k : Bool) → keep x ≡ k → (b : Bool) → same_id x.id id ≡ b → claim_of (filter keep line) id ≡ claim_of line id → claim_of (cond k (x ∷ filter keep line) (filter keep line)) id ≡ cond b (Some x) (claim_of line id)
    by_tests true e true f rest = rw f refl
    by_tests true e false f rest = rw f rest
    by_tests false e true f rest = let clash : true ≡ false = sym (passes x (All-head P x line all) f) ∙ e in cc
    by_tests false e false f rest = rest

-- and one that is taken out is not found
pub claim_gone : (line : List Claim) (id : ClaimId) → claim_of (without line id) id ≡ None
claim_gone [] id = refl
claim_gone (x ∷ line) id = by_test (same_id x.id id) refl (claim_gone line id)
  where
    by_test : (b : Bool) → same_id x.id id ≡ b → claim_of (without line id) id ≡ None → claim_of (cond (not b) (x ∷ without line id) (without line id)) id ≡ None
    by_test true e rest = rest
    by_test false e rest = rw e rest

-- a claim is found if none before it has its id, and stands behind those
pub found_there : (line : List Claim) (c : Claim) (more : List Claim) → claim_of line c.id ≡ None → claim_of (line ++ c ∷ more) c.id ≡ Some c
found_there [] c more none = rw (same_id_itself c.id) refl
found_there (x ∷ line) c more none = by_test (same_id x.id c.id) none (found_there line c more)
  where
    by_test : (b : Bool) → cond b (Some x) (claim_of line c.id) ≡ None → (claim_of line c.id ≡ None → claim_of (line ++ c ∷ more) c.id ≡ Some c) → cond b (Some x) (claim_of (line ++ c ∷ more) c.id) ≡ Some c
    by_test true h rest = cc
    by_test false h rest = rest h

before_it : (line : List Claim) (c : Claim) (more : List Claim) → claim_of line c.id ≡ None → before (line ++ c ∷ more) c.id ≡ line
before_it [] c more none = take_while-cons (λ (d : Claim). not (same_id d.id c.id)) c more ∙ rw (same_id_itself c.id) refl
before_it (x ∷ line) c more none = take_while-cons (λ (d : Claim). not (same_id d.id c.id)) x (line ++ c ∷ more) ∙ by_test (same_id x.id c.id) none (before_it line c more)
  where
    by_test : (b : Bool) → cond b (Some x) (claim_of line c.id) ≡ None → (claim_of line c.id ≡ None → before (line ++ c ∷ more) c.id ≡ line) → cond (not b) (x ∷ before (line ++ c ∷ more) c.id) [] ≡ x ∷ line
    by_test true h rest = cc
    by_test false h rest = ap (λ xs. x ∷ xs) (rest h)

pub stands_there : (tree : List Place) (line : List Claim) (c : Claim) (more : List Claim) → claim_of line c.id ≡ None → standing_of tree (line ++ c ∷ more) c.id ≡ Some (standing_behind tree line c.items)
stands_there tree line c more none =
    ap (λ o. option_map (λ (d : Claim). standing_behind tree (before (line ++ c ∷ more) c.id) d.items) o) (found_there line c more none)
    ∙ ap (λ ahead. Some (standing_behind tree ahead c.items)) (before_it line c more none)

-- other claims are found as before
pub claim_of-other : (line : List Claim) (c : Claim) (id : ClaimId) → same_id c.id id ≡ false → claim_of (line ++ c ∷ []) id ≡ claim_of line id
claim_of-other [] c id apart = rw apart refl
claim_of-other (x ∷ line) c id apart = by_test (same_id x.id id) (claim_of-other line c id apart)
  where
    by_test : (b : Bool) → claim_of (line ++ c ∷ []) id ≡ claim_of line id → cond b (Some x) (claim_of (line ++ c ∷ []) id) ≡ cond b (Some x) (claim_of line id)
    by_test true rest = refl
    by_test false rest = rest

module _ {A : Type 0} where
  pub mapped_there : (f : AnyCheckOut A → AnyCheckOut A) → ((c : AnyCheckOut A) → number_of (f c) ≡ number_of c) → (xs : List (AnyCheckOut A)) (n : ℕ) → is_some (check_out_of (map f xs) n) ≡ is_some (check_out_of xs n)
  mapped_there f same [] n = refl
  mapped_there f same (x ∷ xs) n = rw (same x) (by_test (number_of x == n) (mapped_there f same xs n))
    where
      by_test : (b : Bool) → is_some (check_out_of (map f xs) n) ≡ is_some (check_out_of xs n) → is_some (cond b (Some (f x)) (check_out_of (map f xs) n)) ≡ is_some (cond b (Some x) (check_out_of xs n))
      by_test true rest = refl
      by_test false rest = rest

  mapped_all : (P : ℕ → Type 0) (f : AnyCheckOut A → AnyCheckOut A) → ((c : AnyCheckOut A) → number_of (f c) ≡ number_of c) → (xs : List (AnyCheckOut A)) → AllByRecursion (λ c. P (number_of c)) xs → AllByRecursion (λ c. P (number_of c)) (map f xs)
  mapped_all P f same [] all = tt
  mapped_all P f same (x ∷ xs) all = (subst P (sym (same x)) all.0, mapped_all P f same xs all.1)

  pub mapped_ascending : (f : AnyCheckOut A → AnyCheckOut A) → ((c : AnyCheckOut A) → number_of (f c) ≡ number_of c) → (xs : List (AnyCheckOut A)) → IsAscending xs → IsAscending (map f xs)
  unfolding IsAscending
  mapped_ascending f same [] ascending = tt
  mapped_ascending f same (x ∷ xs) ascending =
      (subst (λ k. AllByRecursion (λ d. nat_lt k (number_of d) ≡ true) (map f xs)) (sym (same x)) (mapped_all (λ k. nat_lt (number_of x) k ≡ true) f same xs ascending.0), mapped_ascending f same xs ascending.1)

  pub kept_ascending : (keep : AnyCheckOut A → Bool) (xs : List (AnyCheckOut A)) → IsAscending xs → IsAscending (filter keep xs)
  unfolding IsAscending
  kept_ascending keep [] ascending = tt
  kept_ascending keep (x ∷ xs) ascending = by_test (keep x) (kept_ascending keep xs ascending.1)
    where
      by_test : (b : Bool) → IsAscending (filter keep xs) → IsAscending (cond b (x ∷ filter keep xs) (filter keep xs))
      by_test true rest = (all_kept (λ (d : AnyCheckOut A). nat_lt (number_of x) (number_of d) ≡ true) keep xs ascending.0, rest)
      by_test false rest = rest

  -- each check-out is found by its number
  pub each_found : (xs : List (AnyCheckOut A)) → All (λ c. is_some (check_out_of xs (number_of c)) ≡ true) xs
  each_found [] = All-nil (λ (c : AnyCheckOut A). is_some (check_out_of {A = A} [] (number_of c)) ≡ true)
  each_found (x ∷ xs) =
      All-cons (λ c. is_some (check_out_of (x ∷ xs) (number_of c)) ≡ true) x xs
      (let same : (number_of x == number_of x) ≡ true = grind (arith, nat_tests) in rw same refl)
      (All-weaker (λ c. is_some (check_out_of xs (number_of c)) ≡ true) (λ c. is_some (check_out_of (x ∷ xs) (number_of c)) ≡ true) (λ c h. by_test c (number_of x == number_of c) h) xs (each_found xs))
    where
      by_test : (c : AnyCheckOut A) (b : Bool) → is_some (check_out_of xs (number_of c)) ≡ true → is_some (cond b (Some x) (check_out_of xs (number_of c))) ≡ true
      by_test c true h = refl
      by_test c false h = h

  pub both : (P Q R : AnyCheckOut A → Type 0) (xs : List (AnyCheckOut A)) → ((c : AnyCheckOut A) → P c → Q c → R c) → All P xs → All Q xs → All R xs
  both P Q R [] h p q = All-nil R
  both P Q R (x ∷ xs) h p q = All-cons R x xs (h x (All-head P x xs p) (All-head Q x xs q)) (both P Q R xs h (All-tail P x xs p) (All-tail Q x xs q))

  pub number_granted : (held : Bool) (c : AnyCheckOut A) → number_of (granted_if held c) ≡ number_of c
  number_granted true (Waiting c) = refl
  number_granted false (Waiting c) = refl
  number_granted held (Held c) = refl

  pub number_recalled : (held : Bool) (c : AnyCheckOut A) → number_of (recalled_unless held c) ≡ number_of c
  number_recalled held (Waiting c) = refl
  number_recalled held (Held c) = by_test (held || not (length c.state == 0))
    where
      by_test : (b : Bool) → number_of {A = A} (cond b (Held c) (Waiting (record { number = c.number; state = tt }))) ≡ c.number
      by_test true = refl
      by_test false = refl

  granted_type : (held : Bool) (c : AnyCheckOut A) → (is_granted c ≡ true → held ≡ true) → is_granted (granted_if held c) ≡ held
  granted_type true (Waiting c) still = refl
  granted_type false (Waiting c) still = refl
  granted_type held (Held c) still = sym (still refl)

  -- after others were granted: where the claims of those typed as held are still granted, all types agree
  pub agrees_granted : (tree : List Place) (line : List Claim) (xs : List (AnyCheckOut A)) → IsAscending xs → ((n : ℕ) → is_some (check_out_of xs n) ≡ is_some (claim_of line (Long n)))
      → All (λ c. is_granted c ≡ true → is_holding tree line (number_of c) ≡ true) xs → Agrees tree line (map (granted tree line) xs)
  agrees_granted tree line xs ascending numbers still = record {
    ascending = mapped_ascending (granted tree line) (λ c. number_granted (is_holding tree line (number_of c)) c) xs ascending;
    numbers = λ n. mapped_there (granted tree line) (λ c. number_granted (is_holding tree line (number_of c)) c) xs n ∙ numbers n;
    types = All-map (λ c. is_granted c ≡ is_holding tree line (number_of c)) (granted tree line) xs
        (All-weaker (λ c. is_granted c ≡ true → is_holding tree line (number_of c) ≡ true) (λ c. is_granted (granted tree line c) ≡ is_holding tree line (number_of (granted tree line c)))
        (λ c h. granted_type (is_holding tree line (number_of c)) c h ∙ ap (is_holding tree line) (sym (number_granted (is_holding tree line (number_of c)) c))) xs still);
  }

  -- so it is where the line changed, and each claim that was granted still is
  pub agrees_moved : (tree : List Place) (line others : List Claim) (xs : List (AnyCheckOut A)) → IsAscending xs → All (λ c. is_granted c ≡ is_holding tree line (number_of c)) xs
      → ((n : ℕ) → is_some (check_out_of xs n) ≡ is_some (claim_of others (Long n)))
      → ((n : ℕ) → is_some (claim_of others (Long n)) ≡ true → standing_of tree line (Long n) ≡ Some standings.Held → standing_of tree others (Long n) ≡ Some standings.Held)
      → Agrees tree others (map (granted tree others) xs)
  agrees_moved tree line others xs ascending types numbers stays =
      agrees_granted tree others xs ascending numbers
      (both (λ c. is_granted c ≡ is_holding tree line (number_of c)) (λ c. is_some (check_out_of xs (number_of c)) ≡ true) (λ c. is_granted c ≡ true → is_holding tree others (number_of c) ≡ true) xs
      (λ c type there typed.
      let held = held_is (standing_of tree line (Long (number_of c))) (sym type ∙ typed) in
      ap is_held_standing (stays (number_of c) (sym (numbers (number_of c)) ∙ there) held)) types (each_found xs))

  -- types that agreed, with another line that grants the same claims
  pub agrees_same : (tree bigger : List Place) (line others : List Claim) (xs : List (AnyCheckOut A)) → Agrees tree line xs → ((n : ℕ) → is_some (claim_of others (Long n)) ≡ is_some (claim_of line (Long n)))
      → ((n : ℕ) → is_some (claim_of line (Long n)) ≡ true → standing_of bigger others (Long n) ≡ standing_of tree line (Long n)) → Agrees bigger others xs
  agrees_same tree bigger line others xs agrees there same = record {
    ascending = agrees.ascending;
    numbers = λ n. agrees.numbers n ∙ sym (there n);
    types = both (λ c. is_granted c ≡ is_holding tree line (number_of c)) (λ c. is_some (check_out_of xs (number_of c)) ≡ true) (λ c. is_granted c ≡ is_holding bigger others (number_of c)) xs
        (λ c type found. type ∙ ap is_held_standing (sym (same (number_of c) (sym (agrees.numbers (number_of c)) ∙ found)))) agrees.types (each_found xs);
  }
