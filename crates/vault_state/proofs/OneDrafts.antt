-- The drafts of each check-out determine the list of all drafts in order.
use Rattle.std.proofs.Common.{◌≡◌, ℕ, ◌<◌, ◌≤◌, ◌==◌, Bool, true, false, cond, List, [], ◌∷◌, map, filter, Option, None, Some, refl, sym, ◌∙◌, ap, subst, arith, All, inl, inr}
use Rattle.std.specs.List.{AllByRecursion}
use Rattle.std.specs.Option.{option_map}
use Rattle.std.proofs.lemmas.Bool.{cases_lt, eqb-true, eq-eqb}
use Rattle.std.proofs.lemmas.Bool.Decides.{nat_tests}
use Rattle.std.proofs.lemmas.List.Elements.{All-head, All-tail}
use Rattle.vault_state.specs.declared.claims.Claim.{Claim}
use Rattle.vault_state.specs.declared.claims.Standing.TheVariants.{Held}
use Rattle.vault_state.specs.declared.ids.ClaimId.TheVariants.{Long}
use Rattle.vault_state.specs.declared.place.Place.{Place}
use Rattle.vault_state.specs.Claims.{before, claim_of, standing_behind, standing_of}
use Rattle.vault_state.specs.Drafts.{SavedDraft, comes_before, drafts_of, IsOrdered}

-- the first of some drafts is of a check-out, or of another
first_of : (d : SavedDraft) (ds : List SavedDraft) (n : ℕ) → d.claim ≡ n → drafts_of (d ∷ ds) n ≡ d.draft ∷ drafts_of ds n
first_of d ds n is = ap (λ (b : Bool). map (λ (x : SavedDraft). x.draft) (cond b (d ∷ filter (λ (x : SavedDraft). x.claim == n) ds) (filter (λ (x : SavedDraft). x.claim == n) ds))) (eq-eqb d.claim n is)

not_first : (d : SavedDraft) (ds : List SavedDraft) (n : ℕ) → (d.claim == n) ≡ false → drafts_of (d ∷ ds) n ≡ drafts_of ds n
not_first d ds n other = ap (λ (b : Bool). map (λ (x : SavedDraft). x.draft) (cond b (d ∷ filter (λ (x : SavedDraft). x.claim == n) ds) (filter (λ (x : SavedDraft). x.claim == n) ds))) other

-- drafts all of later check-outs
later_drafts : (ds : List SavedDraft) (n m : ℕ) → n < m → AllByRecursion (λ (x : SavedDraft). m ≤ x.claim) ds → drafts_of ds n ≡ []
later_drafts [] n m less later = refl
later_drafts (d ∷ ds) n m less later = let here = later.0 in not_first d ds n (grind (arith, nat_tests, here, less)) ∙ later_drafts ds n m less later.1

-- what stands behind the first is of no earlier check-out
none_before : (d : SavedDraft) (ds : List SavedDraft) → AllByRecursion (λ y. comes_before d y ≡ true) ds → AllByRecursion (λ (x : SavedDraft). d.claim ≤ x.claim) ds
none_before d [] before = tt
none_before d (x ∷ ds) before = (let here = before.0 in grind (arith, nat_tests, here), none_before d ds before.1)

-- what stands behind the first ones, which are of one check-out
tails : (d e : SavedDraft) (ds es : List SavedDraft) (n : ℕ) → d.claim ≡ e.claim → drafts_of (d ∷ ds) n ≡ drafts_of (e ∷ es) n → drafts_of ds n ≡ drafts_of es n
tails d e ds es n claims same = by_test (d.claim == n) refl
  where
    by_test : (b : Bool) → (d.claim == n) ≡ b → drafts_of ds n ≡ drafts_of es n
    by_test true is = let here = eqb-true d.claim n is in let both : d.draft ∷ drafts_of ds n ≡ e.draft ∷ drafts_of es n = sym (first_of d ds n here) ∙ same ∙ first_of e es n (sym claims ∙ here) in cc
    by_test false is = sym (not_first d ds n is) ∙ same ∙ not_first e es n (ap (λ (k : ℕ). k == n) (sym claims) ∙ is)

-- the first drafts of two lists are of one check-out
same_first : (d e : SavedDraft) (ds es : List SavedDraft) → AllByRecursion (λ y. comes_before e y ≡ true) es → ((n : ℕ) → drafts_of (d ∷ ds) n ≡ drafts_of (e ∷ es) n) → d.claim < e.claim → ⊥
same_first d e ds es before same less =
    let none = sym (first_of d ds d.claim refl) ∙ same d.claim ∙ later_drafts (e ∷ es) d.claim e.claim less (omega arith, none_before e es before) in cc

-- the drafts of each check-out determine the list of all drafts in order
pub one_drafts : (ds es : List SavedDraft) → IsOrdered ds → IsOrdered es → ((n : ℕ) → drafts_of ds n ≡ drafts_of es n) → ds ≡ es
unfolding IsOrdered
one_drafts [] [] order_ds order_es same = refl
one_drafts [] (e ∷ es) order_ds order_es same = let none = same e.claim ∙ first_of e es e.claim refl in absurd (cc)
one_drafts (d ∷ ds) [] order_ds order_es same = let none = sym (first_of d ds d.claim refl) ∙ same d.claim in absurd (cc)
one_drafts (d ∷ ds) (e ∷ es) order_ds order_es same =
    let claims : d.claim ≡ e.claim = elim (cases_lt d.claim e.claim) [
      | inl less ↦ absurd (same_first d e ds es order_es.0 same less)
      | inr not_less ↦ elim (cases_lt e.claim d.claim) [ inl more ↦ absurd (same_first e d es ds order_ds.0 (λ n. sym (same n)) more) | inr not_more ↦ omega (arith, not_less, not_more) ]
    ] in
    let heads : d.draft ∷ drafts_of ds d.claim ≡ e.draft ∷ drafts_of es d.claim = sym (first_of d ds d.claim refl) ∙ same d.claim ∙ first_of e es d.claim (sym claims) in
    let drafts : d.draft ≡ e.draft = cc in
    let first : d ≡ e = λ i. record { claim = claims i; draft = drafts i } in
    let others : (n : ℕ) → drafts_of ds n ≡ drafts_of es n = λ n. tails d e ds es n claims (same n) in
    ap (λ (x : SavedDraft). x ∷ ds) first ∙ ap (λ (xs : List SavedDraft). e ∷ xs) (one_drafts ds es order_ds.1 order_es.1 others)

-- a claim that isn't in the queue has no drafts, where each draft's check-out is granted
pub no_drafts_of : (tree : List Place) (line : List Claim) (ds : List SavedDraft) (n : ℕ) → claim_of line (Long n) ≡ None → All (λ (x : SavedDraft). standing_of tree line (Long x.claim) ≡ Some Held) ds → drafts_of ds n ≡ []
no_drafts_of tree line [] n gone held = refl
no_drafts_of tree line (d ∷ ds) n gone held =
    by_test (d.claim == n) refl (All-head (λ (x : SavedDraft). standing_of tree line (Long x.claim) ≡ Some Held) d ds held)
    (no_drafts_of tree line ds n gone (All-tail (λ (x : SavedDraft). standing_of tree line (Long x.claim) ≡ Some Held) d ds held))
  where
    by_test : (b : Bool) → (d.claim == n) ≡ b → standing_of tree line (Long d.claim) ≡ Some Held → drafts_of ds n ≡ [] → drafts_of (d ∷ ds) n ≡ []
    by_test true is stands others =
        let here : standing_of tree line (Long n) ≡ Some Held = subst (λ (k : ℕ). standing_of tree line (Long k) ≡ Some Held) (eqb-true d.claim n is) stands in
        let none : option_map (λ (c : Claim). standing_behind tree (before line (Long n)) c.items) None ≡ Some Held = subst (λ (o : Option Claim). option_map (λ (c : Claim). standing_behind tree (before line (Long n)) c.items) o ≡ Some Held) gone here in
        absurd (cc)
    by_test false is stands others = not_first d ds n is ∙ others
