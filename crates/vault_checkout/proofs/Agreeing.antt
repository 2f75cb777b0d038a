-- The types of check-outs agree with the line after each command and each effect.
use Rattle.vault_state.specs.Claims.{new_check_out}
use Rattle.std.specs.Prelude.{◌≡◌, ℕ, ◌+◌, ◌<◌, ◌≤◌, ◌==◌, nat_lt, Bool, true, false, not, List, [], ◌∷◌, ◌++◌, length, map, filter, Option, None, Some, IfSome, is_some, All, refl}
use Rattle.std.specs.List.{AllByRecursion}
use Rattle.std.specs.Option.{option_map_or}
use Rattle.std.proofs.Common.{arith, ap, sym, subst, cond, ◌∙◌, append-nil}
use Rattle.std.proofs.lemmas.Bool.Decides.{nat_tests}
use Rattle.std.proofs.lemmas.List.Elements.{All-nil, All-cons, All-head, All-tail, All-weaker, All-filter, All-push, All-map}
use Rattle.vault_state.specs.declared.place.Place.{Place}
use Rattle.vault_state.specs.declared.claims.Item.{Item}
use Rattle.vault_state.specs.declared.claims.Claim.{Claim}
use Rattle.vault_state.specs.declared.claims.Owner.{Owner}
use Rattle.vault_state.specs.declared.claims.Owner.TheVariants as owners
use Rattle.vault_state.specs.declared.claims.Standing.TheVariants as standings
use Rattle.vault_state.specs.declared.ids.ClaimId.{ClaimId}
use Rattle.vault_state.specs.declared.ids.ClaimId.TheVariants.{Long, Short}
use Rattle.vault_state.specs.Claims.{same_id, claim_of, without, without_session, without_short, is_session, is_short, standing_of, standing_behind, put_first, in_way_of, changed}
use Rattle.vault_state.proofs.InPlace.{standing_of-changed, stands-changed}
use Rattle.vault_state.specs.Shelf.{Draft}
use Rattle.vault_state.specs.Drafts.{SavedDraft, saved_by, drafts_of}
use Rattle.vault_state.specs.Vault.{Vault, IsVault, IsClaim, AreThere, AreDrafts, IsDraft, Owns, IsGiven}
use Rattle.vault_state.proofs.Overlaps.{eq_from}
use Rattle.vault_state.proofs.Stays.{same_id_is, same_id_turned, own_id, standing_of-push, held_kept, held_there, claim_there}
use Rattle.vault_model.proofs.Fronts.{held_front}
use Rattle.vault_state.proofs.Grown.{standing_of-grown}
use Rattle.vault_state.proofs.Lists.{All-back}
use Rattle.check_outs.specs.declared.any.AnyCheckOut.{AnyCheckOut}
use Rattle.check_outs.specs.declared.any.AnyCheckOut.TheVariants.{Waiting, Held}
use Rattle.check_outs.specs.Typed.{number_of, is_granted, own_drafts, marked, saved, check_out_of, without_check_out, saving, with_saved, is_open, is_held_standing, is_holding, granted_if, granted, recalled_unless, recalled, IsAscending, Agrees}
use Rattle.check_outs.proofs.AllDrafts.{saved-append, ascending_saved, drafts_are}
use Rattle.vault_checkout.proofs.Agreement.{claim_kept, claim_gone, found_there, stands_there, claim_of-other, both, each_found, kept_ascending, mapped_there, mapped_ascending, number_recalled, agrees_granted, agrees_moved, agrees_same}

-- the claim of a new check-out, and the check-out
abbrev long_claim : ℕ → List ℕ → List Item → Claim
long_claim last designer items = new_check_out (last + 1) designer items

abbrev asked : {A : Type 0} → ℕ → Bool → AnyCheckOut A
asked last held = granted_if held (Waiting (record { number = last + 1; state = tt }))

nonzero : (d : Draft) (ds : List Draft) → (length (d ∷ ds) == 0) ≡ false
nonzero d ds = grind (arith, nat_tests)

module _ {A : Type 0} where
  pub agrees_new : Agrees {A = A} [] [] []
  unfolding IsAscending
  agrees_new = record { ascending = tt; numbers = λ n. refl; types = All-nil (λ (c : AnyCheckOut A). is_granted c ≡ is_holding [] [] (number_of c)) }

  -- only the one of this number goes
  gone_there : (xs : List (AnyCheckOut A)) (n k : ℕ) → (n == k) ≡ false → is_some (check_out_of (without_check_out xs n) k) ≡ is_some (check_out_of xs k)
  gone_there [] n k apart = refl
  gone_there (x ∷ xs) n k apart = by_tests (number_of x == n) refl (number_of x == k) refl (gone_there xs n k apart)
    where
      by_tests : (a : Bool) → (number_of x == n) ≡ a → (b : Bool) → (number_of x == k) ≡ b → is_some (check_out_of (without_check_out xs n) k) ≡ is_some (check_out_of xs k)
          → is_some (check_out_of (cond (not a) (x ∷ without_check_out xs n) (without_check_out xs n)) k) ≡ is_some (cond b (Some x) (check_out_of xs k))
      by_tests true e true f rest =
          let one : number_of x ≡ n = eq_from (number_of x) n e in
          let two : number_of x ≡ k = eq_from (number_of x) k f in
          let same : (n == k) ≡ true = let e2 : n ≡ k = sym one ∙ two in grind (arith, nat_tests, e2) in
          let clash : true ≡ false = sym same ∙ apart in
          cc
      by_tests true e false f rest = rest
      by_tests false e true f rest = rw f refl
      by_tests false e false f rest = rw f rest

  itself_gone : (xs : List (AnyCheckOut A)) (n : ℕ) → check_out_of (without_check_out xs n) n ≡ None
  itself_gone [] n = refl
  itself_gone (x ∷ xs) n = by_test (number_of x == n) refl (itself_gone xs n)
    where
      by_test : (a : Bool) → (number_of x == n) ≡ a → check_out_of (without_check_out xs n) n ≡ None → check_out_of (cond (not a) (x ∷ without_check_out xs n) (without_check_out xs n)) n ≡ None
      by_test true e rest = rest
      by_test false e rest = rw e rest

  none_last : (xs : List (AnyCheckOut A)) (c : AnyCheckOut A) (k : ℕ) → (number_of c == k) ≡ false → is_some (check_out_of (xs ++ c ∷ []) k) ≡ is_some (check_out_of xs k)
  none_last [] c k apart = rw apart refl
  none_last (x ∷ xs) c k apart = by_test (number_of x == k) (none_last xs c k apart)
    where
      by_test : (b : Bool) → is_some (check_out_of (xs ++ c ∷ []) k) ≡ is_some (check_out_of xs k) → is_some (cond b (Some x) (check_out_of (xs ++ c ∷ []) k)) ≡ is_some (cond b (Some x) (check_out_of xs k))
      by_test true rest = refl
      by_test false rest = rest

  one_last : (xs : List (AnyCheckOut A)) (c : AnyCheckOut A) (k : ℕ) → (number_of c == k) ≡ true → is_some (check_out_of (xs ++ c ∷ []) k) ≡ true
  one_last [] c k same = rw same refl
  one_last (x ∷ xs) c k same = by_test (number_of x == k) (one_last xs c k same)
    where
      by_test : (b : Bool) → is_some (check_out_of (xs ++ c ∷ []) k) ≡ true → is_some (cond b (Some x) (check_out_of (xs ++ c ∷ []) k)) ≡ true
      by_test true rest = refl
      by_test false rest = rest

  ascending_last : (xs : List (AnyCheckOut A)) (c : AnyCheckOut A) → IsAscending xs → All (λ x. number_of x < number_of c) xs → IsAscending (xs ++ c ∷ [])
  unfolding IsAscending
  ascending_last [] c ascending below = (tt, tt)
  ascending_last (x ∷ xs) c ascending below = (ahead xs ascending.0, ascending_last xs c ascending.1 (All-tail (λ (x : AnyCheckOut A). number_of x < number_of c) x xs below))
    where
      ahead : (ys : List (AnyCheckOut A)) → AllByRecursion (λ d. nat_lt (number_of x) (number_of d) ≡ true) ys → AllByRecursion (λ d. nat_lt (number_of x) (number_of d) ≡ true) (ys ++ c ∷ [])
      ahead [] h = (let less = All-head (λ (x : AnyCheckOut A). number_of x < number_of c) x xs below in grind (arith, nat_tests, less), tt)
      ahead (y ∷ ys) h = (h.0, ahead ys h.1)

  module _ (v : Vault) (kept : IsVault v) (xs : List (AnyCheckOut A)) (agrees : Agrees v.tree v.line xs) where
    of_claims : (n : ℕ) → (c : Claim) → claim_of v.line (Long n) ≡ Some c → IsClaim v.tree v.sessions v.last_long v.last_short c
    of_claims n c found = claim_there (IsClaim v.tree v.sessions v.last_long v.last_short) v.line (Long n) kept.claims c found

    -- numbers that were given are not above the last
    given : (n : ℕ) → is_some (check_out_of xs n) ≡ true → n ≤ v.last_long
    given n some = by_claim (claim_of v.line (Long n)) refl (sym (agrees.numbers n) ∙ some)
      where
        by_claim : (o : Option Claim) → claim_of v.line (Long n) ≡ o → is_some o ≡ true → n ≤ v.last_long
        by_claim None found e = cc
        by_claim (Some c) found e =
            let h : IsGiven v.last_long v.last_short (Long n) = subst (λ k. IsGiven v.last_long v.last_short k) (own_id v.line (Long n) c found) (of_claims n c found).given in
            h.1

    -- a new place
    pub agrees_grown : (place : Place) → place.parent ≤ length v.tree → Agrees (v.tree ++ place ∷ []) v.line xs
    agrees_grown place parent =
        agrees_same v.tree (v.tree ++ place ∷ []) v.line v.line xs agrees (λ n. refl)
        (λ n there. standing_of-grown v.tree place kept.tree.parents parent v.line (Long n)
        (All-weaker (IsClaim v.tree v.sessions v.last_long v.last_short) (λ (c : Claim). AreThere v.tree c.items) (λ c h. h.there) v.line kept.claims))

    fresh : claim_of v.line (Long (v.last_long + 1)) ≡ None
    fresh = by_claim (claim_of v.line (Long (v.last_long + 1))) refl
      where
        by_claim : (o : Option Claim) → claim_of v.line (Long (v.last_long + 1)) ≡ o → o ≡ None
        by_claim None found = refl
        by_claim (Some c) found =
            let h : IsGiven v.last_long v.last_short (Long (v.last_long + 1)) = subst (λ k. IsGiven v.last_long v.last_short k) (own_id v.line (Long (v.last_long + 1)) c found) (of_claims (v.last_long + 1) c found).given in
            let high = h.1 in
            let no : ⊥ = omega arith in
            absurd no

    -- a new check-out
    asked_with : (designer : List ℕ) (items : List Item) (held : Bool) → is_holding v.tree (v.line ++ new_check_out (v.last_long + 1) designer items ∷ []) (v.last_long + 1) ≡ held
        → Agrees v.tree (v.line ++ new_check_out (v.last_long + 1) designer items ∷ []) (xs ++ granted_if held (Waiting (record { number = v.last_long + 1; state = tt })) ∷ [])
    asked_with designer items held is = record {
      ascending = ascending_last xs (asked v.last_long held) agrees.ascending (All-weaker (λ c. is_some (check_out_of xs (number_of c)) ≡ true) (λ c. number_of c < number_of {A = A} (asked v.last_long held)) (λ c found. below c found) xs (each_found xs));
      numbers = λ n. by_number n (v.last_long + 1 == n) refl;
      types = All-push (λ c. is_granted c ≡ is_holding v.tree (v.line ++ long_claim v.last_long designer items ∷ []) (number_of c)) xs (asked v.last_long held)
          (both (λ c. is_granted c ≡ is_holding v.tree v.line (number_of c)) (λ c. is_some (check_out_of xs (number_of c)) ≡ true) (λ c. is_granted c ≡ is_holding v.tree (v.line ++ long_claim v.last_long designer items ∷ []) (number_of c)) xs
          (λ c type found. type ∙ ap is_held_standing (sym (standing_of-push v.tree v.line (long_claim v.last_long designer items) (Long (number_of c)) (sym (agrees.numbers (number_of c)) ∙ found)))) agrees.types (each_found xs))
          (type_is held ∙ sym (ap (is_holding v.tree (v.line ++ long_claim v.last_long designer items ∷ [])) (number_is held) ∙ is));
    }
      where
        number_is : (h : Bool) → number_of {A = A} (asked v.last_long h) ≡ v.last_long + 1
        number_is true = refl
        number_is false = refl

        type_is : (h : Bool) → is_granted {A = A} (asked v.last_long h) ≡ h
        type_is true = refl
        type_is false = refl

        below : (c : AnyCheckOut A) → is_some (check_out_of xs (number_of c)) ≡ true → number_of c < number_of {A = A} (asked v.last_long held)
        below c found = let last = given (number_of c) found in let n = number_is held in omega arith

        by_number : (n : ℕ) (b : Bool) → (v.last_long + 1 == n) ≡ b → is_some (check_out_of (xs ++ asked v.last_long held ∷ []) n) ≡ is_some (claim_of (v.line ++ long_claim v.last_long designer items ∷ []) (Long n))
        by_number n true e =
            one_last xs (asked v.last_long held) n (ap (λ k. k == n) (number_is held) ∙ e)
            ∙ sym (ap (λ k. is_some (claim_of (v.line ++ long_claim v.last_long designer items ∷ []) (Long k))) (sym (eq_from (v.last_long + 1) n e)) ∙ ap is_some (found_there v.line (long_claim v.last_long designer items) [] fresh))
        by_number n false e =
            none_last xs (asked v.last_long held) n (ap (λ k. k == n) (number_is held) ∙ e) ∙ agrees.numbers n ∙ ap is_some (sym (claim_of-other v.line (long_claim v.last_long designer items) (Long n) e))

    pub agrees_asked : (designer : List ℕ) (items : List Item) → Agrees v.tree (v.line ++ new_check_out (v.last_long + 1) designer items ∷ [])
        (xs ++ granted_if (is_held_standing (Some (standing_behind v.tree v.line items))) (Waiting (record { number = v.last_long + 1; state = tt })) ∷ [])
    agrees_asked designer items =
        asked_with designer items (is_held_standing (Some (standing_behind v.tree v.line items)))
        (ap is_held_standing (stands_there v.tree v.line (new_check_out (v.last_long + 1) designer items) [] fresh))

    -- the same line
    pub agrees_still : Agrees v.tree v.line (map (granted v.tree v.line) xs)
    agrees_still = agrees_moved v.tree v.line v.line xs agrees.ascending agrees.types agrees.numbers (λ n there held. held)

    -- a new hold
    pub agrees_held : (c : Claim) (m : ℕ) → c.id ≡ Short m → Agrees v.tree (v.line ++ c ∷ []) xs
    agrees_held c m short =
        agrees_same v.tree v.tree v.line (v.line ++ c ∷ []) xs agrees
        (λ n. ap is_some (claim_of-other v.line c (Long n) (ap (λ k. same_id k (Long n)) short)))
        (λ n there. standing_of-push v.tree v.line c (Long n) there)

    -- claims that go, none of them long
    left : (keep : Claim → Bool) → ((c : Claim) (n : ℕ) → IsClaim v.tree v.sessions v.last_long v.last_short c → same_id c.id (Long n) ≡ true → keep c ≡ true) → Agrees v.tree (filter keep v.line) (map (granted v.tree (filter keep v.line)) xs)
    left keep passes =
        agrees_moved v.tree v.line (filter keep v.line) xs agrees.ascending agrees.types
        (λ n. agrees.numbers n ∙ ap is_some (sym (claim_kept (IsClaim v.tree v.sessions v.last_long v.last_short) keep v.line (Long n) kept.claims (λ c h same. passes c n h same))))
        (λ n there held. held_kept keep v.tree v.line (Long n) kept.apart there held)

    pub agrees_released : (m : ℕ) → Agrees v.tree (without v.line (Short m)) (map (granted v.tree (without v.line (Short m))) xs)
    agrees_released m = left (λ (c : Claim). not (same_id c.id (Short m))) (λ c n h same. by_id c.id n same)
      where
        by_id : (id : ClaimId) (n : ℕ) → same_id id (Long n) ≡ true → not (same_id id (Short m)) ≡ true
        by_id (Long k) n same = refl
        by_id (Short k) n same = cc

    pub agrees_durable : Agrees v.tree (without_short v.line) (map (granted v.tree (without_short v.line)) xs)
    agrees_durable = left (λ (c : Claim). not (is_short c.id)) (λ c n h same. by_id c.id n same)
      where
        by_id : (id : ClaimId) (n : ℕ) → same_id id (Long n) ≡ true → not (is_short id) ≡ true
        by_id (Long k) n same = refl
        by_id (Short k) n same = cc

    pub agrees_gone : (session : ℕ) → Agrees v.tree (without_session session v.line) (map (granted v.tree (without_session session v.line)) xs)
    agrees_gone session = left (λ (c : Claim). not (is_session session c.owner)) (λ c n h same. by_owner c.owner c.id n h.owned same)
      where
        by_owner : (owner : Owner) (id : ClaimId) (n : ℕ) → Owns v.sessions owner id → same_id id (Long n) ≡ true → not (is_session session owner) ≡ true
        by_owner (owners.Designer name) id n owned same = refl
        by_owner (owners.Session number) (Long k) n owned same = absurd owned
        by_owner (owners.Session number) (Short k) n owned same = cc

    -- a check-out that goes
    pub agrees_without : (n : ℕ) → Agrees v.tree (without v.line (Long n)) (map (granted v.tree (without v.line (Long n))) (without_check_out xs n))
    agrees_without n =
        agrees_moved v.tree v.line (without v.line (Long n)) (without_check_out xs n) (kept_ascending (λ c. not (number_of c == n)) xs agrees.ascending)
        (All-filter (λ c. not (number_of c == n)) (λ c. is_granted c ≡ is_holding v.tree v.line (number_of c)) xs agrees.types)
        (λ k. by_number k (n == k) refl)
        (λ k there held. held_kept (λ (c : Claim). not (same_id c.id (Long n))) v.tree v.line (Long k) kept.apart there held)
      where
        passes : (k : ℕ) → (n == k) ≡ false → (id : ClaimId) → same_id id (Long k) ≡ true → not (same_id id (Long n)) ≡ true
        passes k apart (Long m) same =
            let e : m ≡ k = eq_from m k same in
            let other : (m == n) ≡ false = grind (arith, nat_tests, e, apart) in
            rw other refl
        passes k apart (Short m) same = cc

        by_number : (k : ℕ) (b : Bool) → (n == k) ≡ b → is_some (check_out_of (without_check_out xs n) k) ≡ is_some (claim_of (without v.line (Long n)) (Long k))
        by_number k true e =
            let same : n ≡ k = eq_from n k e in
            subst (λ m. is_some (check_out_of (without_check_out xs n) m) ≡ is_some (claim_of (without v.line (Long n)) (Long m))) same
            (ap is_some (itself_gone xs n) ∙ ap is_some (sym (claim_gone v.line (Long n))))
        by_number k false e =
            gone_there xs n k e ∙ agrees.numbers k
            ∙ ap is_some (sym (claim_kept (IsClaim v.tree v.sessions v.last_long v.last_short) (λ (c : Claim). not (same_id c.id (Long n))) v.line (Long k) kept.claims (λ c h same. passes k e c.id same)))

    -- a claim put first stands by the same id, and so do the others
    first_there : (id : ClaimId) (claim : Claim) (items : List Item) → claim_of v.line id ≡ Some claim → (n : ℕ) → is_some (claim_of (put_first v.line id items) (Long n)) ≡ is_some (claim_of v.line (Long n))
    first_there id claim items found n = rw found (by_test (same_id claim.id (Long n)) refl)
      where
        own : claim.id ≡ id
        own = own_id v.line id claim found

        keeps : same_id claim.id (Long n) ≡ false → (k : ClaimId) → same_id k (Long n) ≡ true → not (same_id k id) ≡ true
        keeps apart k same =
            let is : k ≡ Long n = same_id_is k (Long n) same in
            let other : same_id (Long n) claim.id ≡ false = same_id_turned claim.id (Long n) apart in
            let other2 : same_id k id ≡ false = subst (λ j. same_id j id ≡ false) (sym is) (subst (λ j. same_id (Long n) j ≡ false) own other) in
            rw other2 refl

        by_test : (b : Bool) → same_id claim.id (Long n) ≡ b → is_some (claim_of (record claim { items = items } ∷ without v.line id) (Long n)) ≡ is_some (claim_of v.line (Long n))
        by_test true e =
            let same : id ≡ Long n = sym own ∙ same_id_is claim.id (Long n) e in
            rw e (sym (ap is_some (subst (λ k. claim_of v.line k ≡ Some claim) same found)))
        by_test false e =
            rw e (ap is_some (claim_kept (IsClaim v.tree v.sessions v.last_long v.last_short) (λ (c : Claim). not (same_id c.id id)) v.line (Long n) kept.claims (λ c h same. keeps e c.id same)))

    -- an extension that was granted
    pub agrees_first : (id : ClaimId) (claim : Claim) (items : List Item) → claim_of v.line id ≡ Some claim → in_way_of v.tree v.line id items ≡ None → Agrees v.tree (put_first v.line id items) (map (granted v.tree (put_first v.line id items)) xs)
    agrees_first id claim items found free =
        agrees_moved v.tree v.line (put_first v.line id items) xs agrees.ascending agrees.types
        (λ n. agrees.numbers n ∙ sym (first_there id claim items found n))
        (λ n there held. held_front v.tree v.line id items kept.apart (rw found refl) free (Long n) held)

    -- an extension that is not judged: check-outs whose claims are no longer granted are recalled first
    recalled_then_granted : (line : List Claim) → ((n : ℕ) → is_some (claim_of line (Long n)) ≡ is_some (claim_of v.line (Long n))) → AreDrafts v.tree line (saved xs)
        → Agrees v.tree line (map (granted v.tree line) (map (recalled v.tree line) xs))
    recalled_then_granted line there drafts =
        agrees_granted v.tree line (map (recalled v.tree line) xs) (mapped_ascending (recalled v.tree line) (λ c. number_recalled (is_holding v.tree line (number_of c)) c) xs agrees.ascending)
        (λ n. mapped_there (recalled v.tree line) (λ c. number_recalled (is_holding v.tree line (number_of c)) c) xs n ∙ agrees.numbers n ∙ sym (there n))
        (All-map (λ c. is_granted c ≡ true → is_holding v.tree line (number_of c) ≡ true) (recalled v.tree line) xs (each xs drafts.each))
      where
        with_drafts : (c : AnyCheckOut A) (others : List SavedDraft) → All (IsDraft v.tree line) (marked (number_of c) (own_drafts c) ++ others) → (own_drafts c ≡ [] → ⊥) → is_holding v.tree line (number_of c) ≡ true
        with_drafts (Waiting c) others all some = absurd (some refl)
        with_drafts (Held c) others all some = by_drafts c.state refl
          where
            by_drafts : (drafts : List Draft) → c.state ≡ drafts → is_holding v.tree line c.number ≡ true
            by_drafts [] e = absurd (some e)
            by_drafts (d ∷ ds) e =
                let all2 : All (IsDraft v.tree line) (saved_by c.number d ∷ (marked c.number ds ++ others)) = subst (λ ys. All (IsDraft v.tree line) (marked c.number ys ++ others)) e all in
                ap is_held_standing (All-head (IsDraft v.tree line) (saved_by c.number d) (marked c.number ds ++ others) all2).held

        one : (c : AnyCheckOut A) → ((own_drafts c ≡ [] → ⊥) → is_holding v.tree line (number_of c) ≡ true) → is_granted (recalled v.tree line c) ≡ true → is_holding v.tree line (number_of (recalled v.tree line c)) ≡ true
        one (Waiting c) held typed = cc
        one (Held c) held typed = by_test (is_holding v.tree line c.number) refl typed
          where
            by_test : (b : Bool) → is_holding v.tree line c.number ≡ b → is_granted {A = A} (recalled_unless b (Held c)) ≡ true → is_holding v.tree line (number_of {A = A} (recalled_unless b (Held c))) ≡ true
            by_test true e typed = e
            by_test false e typed = by_drafts c.state refl typed
              where
                by_drafts : (drafts : List Draft) → c.state ≡ drafts → is_granted {A = A} (cond (not (length drafts == 0)) (Held c) (Waiting (record { number = c.number; state = tt }))) ≡ true
                    → is_holding v.tree line (number_of {A = A} (cond (not (length drafts == 0)) (Held c) (Waiting (record { number = c.number; state = tt })))) ≡ true
                by_drafts [] same typed = cc
                by_drafts (d ∷ ds) same typed = rw (nonzero d ds) (held (λ none. let clash : d ∷ ds ≡ [] = sym same ∙ none in cc))

        each : (ys : List (AnyCheckOut A)) → All (IsDraft v.tree line) (saved ys) → All (λ c. is_granted (recalled v.tree line c) ≡ true → is_holding v.tree line (number_of (recalled v.tree line c)) ≡ true) ys
        each [] all = All-nil (λ (c : AnyCheckOut A). is_granted (recalled v.tree line c) ≡ true → is_holding v.tree line (number_of (recalled v.tree line c)) ≡ true)
        each (y ∷ ys) all =
            All-cons (λ c. is_granted (recalled v.tree line c) ≡ true → is_holding v.tree line (number_of (recalled v.tree line c)) ≡ true) y ys
            (one y (with_drafts y (saved ys) all)) (each ys (All-back (IsDraft v.tree line) (marked (number_of y) (own_drafts y)) (saved ys) all))

    pub agrees_put_first : (id : ClaimId) (claim : Claim) (items : List Item) → claim_of v.line id ≡ Some claim → AreDrafts v.tree (put_first v.line id items) (saved xs)
        → Agrees v.tree (put_first v.line id items) (map (granted v.tree (put_first v.line id items)) (map (recalled v.tree (put_first v.line id items)) xs))
    agrees_put_first id claim items found drafts = recalled_then_granted (put_first v.line id items) (first_there id claim items found) drafts

    -- a claim that changes in its place
    pub agrees_changed : (id : ClaimId) (f : Claim → Claim) → ((c : Claim) → (f c).id ≡ c.id) → ((c : Claim) → (f c).items ≡ c.items) → Agrees v.tree (changed v.line id f) xs
    agrees_changed id f own same =
        agrees_same v.tree v.tree v.line (changed v.line id f) xs agrees (λ n. stands-changed id f own same v.line (Long n)) (λ n there. standing_of-changed id f own same v.tree v.line (Long n))

    -- one more draft in a check-out
    pub agrees_saved : (n : ℕ) (draft : Draft) → Agrees v.tree v.line (with_saved xs n draft)
    agrees_saved n draft = record {
      ascending = ascending_saved n draft xs agrees.ascending;
      numbers = λ k. saved_there xs k ∙ agrees.numbers k;
      types = saved_types xs agrees.types;
    }
      where
        number_saving : (c : AnyCheckOut A) → number_of (saving draft c) ≡ number_of c
        number_saving (Waiting c) = refl
        number_saving (Held c) = refl

        type_saving : (c : AnyCheckOut A) → is_granted (saving draft c) ≡ is_granted c
        type_saving (Waiting c) = refl
        type_saving (Held c) = refl

        saved_there : (ys : List (AnyCheckOut A)) (k : ℕ) → is_some (check_out_of (with_saved ys n draft) k) ≡ is_some (check_out_of ys k)
        saved_there [] k = refl
        saved_there (y ∷ ys) k = by_test (number_of y == n) (saved_there ys k)
          where
            first : (b : Bool) → is_some (cond b (Some (saving draft y)) (check_out_of ys k)) ≡ is_some (cond b (Some y) (check_out_of ys k))
            first true = refl
            first false = refl

            later : (b : Bool) → is_some (check_out_of (with_saved ys n draft) k) ≡ is_some (check_out_of ys k) → is_some (cond b (Some y) (check_out_of (with_saved ys n draft) k)) ≡ is_some (cond b (Some y) (check_out_of ys k))
            later true rest = refl
            later false rest = rest

            by_test : (b : Bool) → is_some (check_out_of (with_saved ys n draft) k) ≡ is_some (check_out_of ys k) → is_some (check_out_of (cond b (saving draft y ∷ ys) (y ∷ with_saved ys n draft)) k) ≡ is_some (cond (number_of y == k) (Some y) (check_out_of ys k))
            by_test true rest = rw (number_saving y) (first (number_of y == k))
            by_test false rest = later (number_of y == k) rest

        saved_types : (ys : List (AnyCheckOut A)) → All (λ c. is_granted c ≡ is_holding v.tree v.line (number_of c)) ys → All (λ c. is_granted c ≡ is_holding v.tree v.line (number_of c)) (with_saved ys n draft)
        saved_types [] all = all
        saved_types (y ∷ ys) all = by_test (number_of y == n) (saved_types ys (All-tail (λ c. is_granted c ≡ is_holding v.tree v.line (number_of c)) y ys all))
          where
            by_test : (b : Bool) → All (λ c. is_granted c ≡ is_holding v.tree v.line (number_of c)) (with_saved ys n draft) → All (λ c. is_granted c ≡ is_holding v.tree v.line (number_of c)) (cond b (saving draft y ∷ ys) (y ∷ with_saved ys n draft))
            by_test true rest =
                All-cons (λ c. is_granted c ≡ is_holding v.tree v.line (number_of c)) (saving draft y) ys
                (type_saving y ∙ All-head (λ c. is_granted c ≡ is_holding v.tree v.line (number_of c)) y ys all ∙ ap (is_holding v.tree v.line) (sym (number_saving y)))
                (All-tail (λ c. is_granted c ≡ is_holding v.tree v.line (number_of c)) y ys all)
            by_test false rest = All-cons (λ c. is_granted c ≡ is_holding v.tree v.line (number_of c)) y (with_saved ys n draft) (All-head (λ c. is_granted c ≡ is_holding v.tree v.line (number_of c)) y ys all) rest

  -- a granted check-out has no drafts yet, and a recalled one none any more
  granted_drafts : (held : Bool) (c : AnyCheckOut A) → marked (number_of (granted_if held c)) (own_drafts (granted_if held c)) ≡ marked (number_of c) (own_drafts c)
  granted_drafts true (Waiting c) = refl
  granted_drafts false (Waiting c) = refl
  granted_drafts held (Held c) = refl

  recalled_drafts : (held : Bool) (c : AnyCheckOut A) → marked (number_of (recalled_unless held c)) (own_drafts (recalled_unless held c)) ≡ marked (number_of c) (own_drafts c)
  recalled_drafts held (Waiting c) = refl
  recalled_drafts true (Held c) = refl
  recalled_drafts false (Held c) = by_drafts c.state refl
    where
      by_drafts : (drafts : List Draft) → c.state ≡ drafts → marked (number_of {A = A} (cond (not (length drafts == 0)) (Held c) (Waiting (record { number = c.number; state = tt })))) (own_drafts {A = A} (cond (not (length drafts == 0)) (Held c) (Waiting (record { number = c.number; state = tt })))) ≡ marked c.number c.state
      by_drafts [] same = rw same refl
      by_drafts (d ∷ ds) same = rw (nonzero d ds) refl

  pub saved_granted : (tree : List Place) (line : List Claim) (xs : List (AnyCheckOut A)) → saved (map (granted tree line) xs) ≡ saved xs
  saved_granted tree line [] = refl
  saved_granted tree line (x ∷ xs) = ap (λ own. own ++ saved (map (granted tree line) xs)) (granted_drafts (is_holding tree line (number_of x)) x) ∙ ap (λ rest. marked (number_of x) (own_drafts x) ++ rest) (saved_granted tree line xs)

  pub saved_recalled : (tree : List Place) (line : List Claim) (xs : List (AnyCheckOut A)) → saved (map (recalled tree line) xs) ≡ saved xs
  saved_recalled tree line [] = refl
  saved_recalled tree line (x ∷ xs) = ap (λ own. own ++ saved (map (recalled tree line) xs)) (recalled_drafts (is_holding tree line (number_of x)) x) ∙ ap (λ rest. marked (number_of x) (own_drafts x) ++ rest) (saved_recalled tree line xs)

  -- a new check-out has none
  pub saved_asked : (xs : List (AnyCheckOut A)) (held : Bool) (number : ℕ) → saved (xs ++ granted_if held (Waiting (record { number = number; state = tt })) ∷ []) ≡ saved xs
  saved_asked xs held number = saved-append xs (granted_if held (Waiting (record { number = number; state = tt })) ∷ []) ∙ by_test held
    where
      by_test : (b : Bool) → saved xs ++ saved {A = A} (granted_if b (Waiting (record { number = number; state = tt })) ∷ []) ≡ saved xs
      by_test true = append-nil (saved xs)
      by_test false = append-nil (saved xs)

  -- a check-out whose claim is granted is typed so
  found_type : (P : AnyCheckOut A → Type 0) (xs : List (AnyCheckOut A)) (n : ℕ) → All P xs → (c : AnyCheckOut A) → check_out_of xs n ≡ Some c → P c × (number_of c ≡ n)
  found_type P [] n all c e = cc
  found_type P (x ∷ xs) n all c e = by_test (number_of x == n) refl e (found_type P xs n (All-tail P x xs all) c)
    where
      by_test : (b : Bool) → (number_of x == n) ≡ b → cond b (Some x) (check_out_of xs n) ≡ Some c → (check_out_of xs n ≡ Some c → P c × (number_of c ≡ n)) → P c × (number_of c ≡ n)
      by_test true f h rest = let same : x ≡ c = cc in (subst P same (All-head P x xs all), subst (λ y. number_of y ≡ n) same (eq_from (number_of x) n f))
      by_test false f h rest = rest h

  pub open_held : (tree : List Place) (line : List Claim) (xs : List (AnyCheckOut A)) → Agrees tree line xs → (n : ℕ) → standing_of tree line (Long n) ≡ Some standings.Held → is_open xs n ≡ true
  open_held tree line xs agrees n held = by_found (check_out_of xs n) refl (agrees.numbers n ∙ held_there tree line (Long n) held)
    where
      by_found : (o : Option (AnyCheckOut A)) → check_out_of xs n ≡ o → is_some o ≡ true → option_map_or is_granted o false ≡ true
      by_found None found e = cc
      by_found (Some c) found e =
          let h = found_type (λ c. is_granted c ≡ is_holding tree line (number_of c)) xs n agrees.types c found in
          h.0 ∙ ap (is_holding tree line) h.1 ∙ ap is_held_standing held

  -- a check-out that is found has the number, the type of its claim, and its own drafts
  module _ (tree : List Place) (line : List Claim) (xs : List (AnyCheckOut A)) (agrees : Agrees tree line xs) (n : ℕ) where
    pub stands_found : (o : Option (AnyCheckOut A)) → o ≡ check_out_of xs n → is_some o ≡ is_some (claim_of line (Long n))
    stands_found o e = ap is_some e ∙ agrees.numbers n

    pub found_number : (o : Option (AnyCheckOut A)) → o ≡ check_out_of xs n → IfSome o (λ c. number_of c ≡ n)
    found_number None e = tt
    found_number (Some c) e = (found_type (λ c. is_granted c ≡ is_holding tree line (number_of c)) xs n agrees.types c (sym e)).1

    pub found_typed : (o : Option (AnyCheckOut A)) → o ≡ check_out_of xs n → IfSome o (λ c. is_granted c ≡ is_holding tree line n)
    found_typed None e = tt
    found_typed (Some c) e =
        let h = found_type (λ c. is_granted c ≡ is_holding tree line (number_of c)) xs n agrees.types c (sym e) in
        h.0 ∙ ap (is_holding tree line) h.1

    pub found_drafts : (o : Option (AnyCheckOut A)) → o ≡ check_out_of xs n → IfSome o (λ c. own_drafts c ≡ drafts_of (saved xs) n)
    found_drafts None e = tt
    found_drafts (Some c) e = ap (λ o. option_map_or own_drafts o []) e ∙ sym (drafts_are n xs agrees.ascending)
