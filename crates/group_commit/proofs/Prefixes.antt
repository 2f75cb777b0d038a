-- Entries of a list's part, and of the list; no short claim is left.
use Rattle.std.proofs.Common.{◌≡◌, ℕ, zero, suc, ◌+◌, ◌<◌, cond, List, [], ◌∷◌, ◌++◌, length, take, drop, Some, refl, arith}
use Rattle.std.specs.Prelude.{slice_get, not, None}
use Rattle.vault_state.specs.declared.claims.Claim.{Claim}
use Rattle.vault_state.specs.declared.ids.ClaimId.{ClaimId}
use Rattle.vault_state.specs.declared.ids.ClaimId.TheVariants.{Long, Short}
use Rattle.vault_state.specs.Claims.{claim_of, is_short, without_short}

pub get_take : {A : Type 0} (n : ℕ) (xs : List A) (k : ℕ) (x : A) → k < n → slice_get xs k ≡ Some x → slice_get (take n xs) k ≡ Some x
get_take zero xs k x h e = absurd (omega arith)
get_take (suc n) [] k x h e = absurd (cc)
get_take (suc n) (z ∷ xs) zero x h e = e
get_take (suc n) (z ∷ xs) (suc k) x h e = get_take n xs k x (omega arith) e

pub get_drop : {A : Type 0} (n : ℕ) (xs : List A) (k : ℕ) (x : A) → slice_get (drop n xs) k ≡ Some x → slice_get xs (n + k) ≡ Some x
get_drop zero xs k x e = rw (zero_more k) e
  where
    zero_more : (k : ℕ) → zero + k ≡ k
    zero_more k = omega arith
get_drop (suc n) [] k x e = absurd (cc)
get_drop (suc n) (z ∷ xs) k x e = rw (one_more n k) (get_drop n xs k x e)
  where
    one_more : (n k : ℕ) → suc n + k ≡ suc (n + k)
    one_more n k = omega arith

pub get_behind : {A : Type 0} (xs ys : List A) (k : ℕ) (x : A) → slice_get ys k ≡ Some x → slice_get (xs ++ ys) (length xs + k) ≡ Some x
get_behind [] ys k x e = rw (zero_more k) e
  where
    zero_more : (k : ℕ) → zero + k ≡ k
    zero_more k = omega arith
get_behind (z ∷ xs) ys k x e = rw (one_more (length xs) k) (get_behind xs ys k x e)
  where
    one_more : (n k : ℕ) → suc n + k ≡ suc (n + k)
    one_more n k = omega arith

pub no_short : (line : List Claim) (number : ℕ) → claim_of (without_short line) (Short number) ≡ None
no_short [] number = refl
no_short (claim ∷ line) number = by_id claim.id (no_short line number)
  where
    by_id : (id : ClaimId) → claim_of (without_short line) (Short number) ≡ None → claim_of (cond (not (is_short id)) (record claim { id = id } ∷ without_short line) (without_short line)) (Short number) ≡ None
    by_id (Long m) others = others
    by_id (Short m) others = others
