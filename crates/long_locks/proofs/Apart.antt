-- Claims that have different ids, one after another.
use Rattle.std.specs.Prelude.{◌≡◌, ℕ, zero, suc, ◌+◌, ◌<◌, Bool, true, false, ◌||◌, List, [], ◌∷◌, ◌++◌, take, length, None, All, refl}
use Rattle.std.proofs.Common.{sym, ap, subst, ◌∙◌, arith, get_or}
use Rattle.std.specs.List.{IsDistinct, AllByRecursion, list_any}
use Rattle.std.proofs.lemmas.List.{take_more}
use Rattle.std.proofs.lemmas.List.Elements.{All-nil, All-cons}
use Rattle.vault_state.specs.declared.claims.Claim.{Claim}
use Rattle.vault_state.specs.declared.ids.ClaimId.{ClaimId}
use Rattle.vault_state.specs.Claims.{same_id, claim_of}
use Rattle.vault_state.proofs.Distinct.{IsDistinct-push}
use Rattle.vault_state.proofs.Stays.{ids}

-- some claim has this id
abbrev pub has_id : List Claim → ClaimId → Bool
has_id claims id = list_any (λ (c : Claim). same_id c.id id) claims

pub none_has : (claims : List Claim) (id : ClaimId) → has_id claims id ≡ false → claim_of claims id ≡ None
none_has [] id none = refl
none_has (c ∷ claims) id none = by_test (same_id c.id id) refl none (none_has claims id)
  where
    by_test : (b : Bool) → same_id c.id id ≡ b → b || has_id claims id ≡ false → (has_id claims id ≡ false → claim_of claims id ≡ None) → claim_of (c ∷ claims) id ≡ None
    by_test true h k rest = cc
    by_test false h k rest = rw h (rest k)

each_other : (claims : List Claim) (id : ClaimId) → has_id claims id ≡ false → All (λ (c : Claim). same_id c.id id ≡ false) claims
each_other [] id none = All-nil (λ (c : Claim). same_id c.id id ≡ false)
each_other (c ∷ claims) id none = by_test (same_id c.id id) refl none (each_other claims id)
  where
    by_test : (b : Bool) → same_id c.id id ≡ b → b || has_id claims id ≡ false → (has_id claims id ≡ false → All (λ (d : Claim). same_id d.id id ≡ false) claims) → All (λ (d : Claim). same_id d.id id ≡ false) (c ∷ claims)
    by_test true h k rest = cc
    by_test false h k rest = All-cons (λ (d : Claim). same_id d.id id ≡ false) c claims h (rest k)

id_at : (P : ClaimId → Type 0) (claims : List Claim) (i : ℕ) (d : Claim) → AllByRecursion P (ids claims) → i < length claims → P (get_or claims i d).id
id_at P [] i d all h = absurd (omega (arith, h))
id_at P (c ∷ claims) zero d all h = all.0
id_at P (c ∷ claims) (suc i) d all h = id_at P claims i d all.1 (omega (arith, h))

-- where claims have different ids, none of those before one has its
pub new_at : (claims : List Claim) (i : ℕ) (d : Claim) → IsDistinct same_id (ids claims) → i < length claims → has_id (take i claims) (get_or claims i d).id ≡ false
unfolding IsDistinct
new_at [] i d distinct h = absurd (omega (arith, h))
new_at (c ∷ claims) zero d distinct h = refl
new_at (c ∷ claims) (suc i) d distinct h =
    let here = id_at (λ k. same_id c.id k ≡ false) claims i d distinct.0 (omega (arith, h)) in
    rw here (new_at claims i d distinct.1 (omega (arith, h)))

-- the claim x at an index
module _ (claims : List Claim) (i : ℕ) (x : Claim) (within : i < length claims) (at : x ≡ get_or claims i x) where
  its_own : IsDistinct same_id (ids claims) → has_id (take i claims) x.id ≡ false
  its_own distinct = ap (λ (c : Claim). has_id (take i claims) c.id) at ∙ new_at claims i x distinct within

  pub none_before : IsDistinct same_id (ids claims) → claim_of (take i claims) x.id ≡ None
  none_before distinct = none_has (take i claims) x.id (its_own distinct)

  pub not_apart : has_id (take i claims) x.id ≡ true → IsDistinct same_id (ids claims) → false ≡ true
  not_apart some distinct = sym (its_own distinct) ∙ some

  -- with an id that none before it has, it is apart from them
  pub apart_more : IsDistinct same_id (ids (take i claims)) → has_id (take i claims) x.id ≡ false → IsDistinct same_id (ids (take (i + 1) claims))
  apart_more distinct none =
      subst (λ cs. IsDistinct same_id (ids cs)) (sym (take_more claims i x within ∙ ap (λ c. take i claims ++ c ∷ []) (sym at)))
      (IsDistinct-push same_id (λ (c : Claim). c.id) (take i claims) x distinct (each_other (take i claims) x.id none))
