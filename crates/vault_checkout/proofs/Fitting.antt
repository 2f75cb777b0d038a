-- What is asked of claims and their drafts, one after another.
use Rattle.std.specs.Prelude.{◌≡◌, ◌≢◌, ◌↔◌, ℕ, ◌+◌, ◌-◌, ◌<◌, ◌==◌, true, false, List, [], ◌∷◌, ◌++◌, length, take, drop, All}
use Rattle.std.proofs.Common.{ap, sym, refl, subst, ◌∙◌, arith, add-one, get_or}
use Rattle.std.proofs.Math.Seq.{take-suc}
use Rattle.std.proofs.lemmas.List.{drop_more, nil_from_length}
use Rattle.std.proofs.lemmas.List.Elements.{All-nil, All-get_or, All-take}
use Rattle.vault_state.specs.declared.place.Place.{Place}
use Rattle.vault_state.specs.declared.claims.Claim.{Claim}
use Rattle.vault_state.specs.declared.claims.Item.{Item}
use Rattle.vault_state.specs.Shelf.{Draft}
use Rattle.vault_state.proofs.Overlaps.{eq_from}
use Rattle.check_outs.specs.CheckOuts.{IsRising}
use Rattle.check_outs.specs.Parts.{MayBe, MayHave, EachMayHave}

-- a list that isn't empty
pub is_some_list : {A : Type 0} (xs : List A) → (length xs == 0) ≡ false → xs ≢ []
is_some_list [] e = λ same. cc
is_some_list (x ∷ xs) e = λ same. cc

-- a claim may have no drafts
pub may_have_none : (tree : List Place) (before : List Claim) (items : List Item) (drafts : List Draft) → (length drafts == 0) ≡ true → MayHave tree before items drafts
may_have_none tree before items drafts e =
    rw (nil_from_length drafts (eq_from (length drafts) 0 e)) (record { few = omega arith; rising = tt; each = All-nil (MayBe tree items); held = λ some. absurd (some refl) })

-- nothing is asked where none is left
pub none_left : (tree : List Place) (before claims : List Claim) (drafts : List (List Draft)) → claims ≡ [] → drafts ≡ [] → EachMayHave tree before claims drafts
none_left tree before claims drafts no_claims no_drafts = rw (no_claims, no_drafts) tt

-- one of them, and those behind it
pub each_at : (tree : List Place) (claims : List Claim) (drafts : List (List Draft)) (i : ℕ) (claim : Claim) (own : List Draft) → i < length claims → i < length drafts
    → claim ≡ get_or claims i claim → own ≡ get_or drafts i own
    → EachMayHave tree (take i claims) (drop i claims) (drop i drafts) ↔ (MayHave tree (take i claims) claim.items own × EachMayHave tree (take (i + 1) claims) (drop (i + 1) claims) (drop (i + 1) drafts))
each_at tree claims drafts i claim own claims_go drafts_go claim_is own_is =
    let first : drop i claims ≡ claim ∷ drop (i + 1) claims = drop_more claims i claim claims_go ∙ ap (λ x. x ∷ drop (i + 1) claims) (sym claim_is) in
    let first_own : drop i drafts ≡ own ∷ drop (i + 1) drafts = drop_more drafts i own drafts_go ∙ ap (λ x. x ∷ drop (i + 1) drafts) (sym own_is) in
    let before : take (i + 1) claims ≡ take i claims ++ claim ∷ [] = ap (λ n. take n claims) (add-one i) ∙ take-suc claims i claim claims_go ∙ ap (λ x. take i claims ++ x ∷ []) (sym claim_is) in
    rw (first, first_own, before) (λ all. all, λ all. all)

-- the last of drafts of which some are left
pub last_rising : (all rest : List (List Draft)) (n : ℕ) (own : List Draft) → All IsRising all → rest ≡ take n all → n ≡ length rest → 0 < n → own ≡ get_or rest (n - 1) own → IsRising own
last_rising all rest n own rising rest_is len some own_is =
    let left : All IsRising rest = rw rest_is (All-take IsRising n all rising) in
    subst IsRising (sym own_is) (All-get_or IsRising rest (n - 1) own (omega (arith, len, some)) left)
