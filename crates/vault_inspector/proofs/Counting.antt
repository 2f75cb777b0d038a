-- How many versions and drafts there are: each version is of one place of the tree, each draft of one claim in the queue.
use Rattle.std.proofs.Common.{◌≡◌, ℕ, zero, suc, ◌+◌, ◌<◌, ◌≤◌, Bool, true, false, cond, List, [], ◌∷◌, length, map, filter, refl, sym, ap, ◌∙◌, subst, arith, take, ◌++◌, Some, ◌⊎◌, inl, inr}
use Rattle.std.specs.Prelude.{sum_by, count_by, is_some, slice_get, All, ◌==◌}
use Rattle.std.specs.List.{IsDistinct, AllByRecursion, range_with_len}
use Rattle.std.proofs.lemmas.List.FromFn.{sum_by-map-range_with_len_more}
use Rattle.std.proofs.lemmas.Bool.{false≢true, cases_lt}
use Rattle.std.proofs.lemmas.Bool.Decides.{nat_tests}
use Rattle.std.proofs.lemmas.List.Elements.{All-head, All-tail}
use Rattle.std.proofs.lemmas.List.Sums.{sum_by-cons, sum_by-append}
use Rattle.std.proofs.lemmas.List.{take_more, take_all, get_or_past}
use Rattle.std.proofs.lemmas.Option.{get_or_from_slice_get, slice_get-get_or, slice_get_within}
use Rattle.vault_state.specs.declared.claims.Claim.{Claim}
use Rattle.vault_state.specs.declared.ids.ClaimId.{ClaimId}
use Rattle.vault_state.specs.declared.ids.ClaimId.TheVariants.{Long, Short}
use Rattle.vault_state.specs.declared.place.Place.{Place}
use Rattle.vault_state.specs.Claims.{same_id, claim_of}
use Rattle.vault_state.specs.Drafts.{SavedDraft, drafts_of}
use Rattle.vault_state.specs.Shelf.{versions_of}
use Rattle.vault_state.specs.Vault.{Vault, IsVault, IsDraft}
use Rattle.vault_state.proofs.Stays.{ids, same_id_is, same_id_itself, held_there}
use Rattle.vault_inspector.specs.Counts.{version_count, own_drafts, CountsAreTotals}

-- the sum over one more of a list
pub sum_next : {X : Type 0} (f : X → ℕ) (xs : List X) (i : ℕ) (x : X) → slice_get xs i ≡ Some x → sum_by f (take (i + 1) xs) ≡ sum_by f (take i xs) + f x
sum_next f xs i x at =
    let within = slice_get_within xs i x at in
    let cut = take_more xs i x within ∙ ap (λ (y : _). take i xs ++ y ∷ []) (get_or_from_slice_get xs i x x at) in
    let one : sum_by f (x ∷ []) ≡ f x = omega arith in
    ap (sum_by f) cut ∙ sum_by-append f (take i xs) (x ∷ []) ∙ ap (λ (n : ℕ). sum_by f (take i xs) + n) one

-- the count over one more of a list
pub count_next : {X : Type 0} (p : X → Bool) (xs : List X) (i : ℕ) (x : X) → slice_get xs i ≡ Some x → count_by p (take (i + 1) xs) ≡ count_by p (take i xs) + cond (p x) 1 0
count_next {X} p xs i x at = sum_next (λ (y : X). cond (p y) 1 0) xs i x at

-- a draft more, of the claim that it is of
own_more : (x : SavedDraft) (drafts : List SavedDraft) (id : ClaimId) → own_drafts (x ∷ drafts) id ≡ own_drafts drafts id + cond (same_id id (Long x.claim)) 1 0
own_more x drafts (Long n) = by_test (x.claim == n) (n == x.claim) refl refl
  where
    by_test : (b d : Bool) → (x.claim == n) ≡ b → (n == x.claim) ≡ d → length (map (λ (y : SavedDraft). y.draft) (cond b (x ∷ filter (λ (y : SavedDraft). y.claim == n) drafts) (filter (λ (y : SavedDraft). y.claim == n) drafts))) ≡ length (drafts_of drafts n) + cond d 1 0
    by_test true true e f = omega arith
    by_test false false e f = omega arith
    by_test true false e f = absurd (let same : x.claim ≡ n = grind (arith, nat_tests, e) in grind (arith, nat_tests, f, same))
    by_test false true e f = absurd (let same : n ≡ x.claim = grind (arith, nat_tests, f) in grind (arith, nat_tests, e, same))
own_more x drafts (Short n) = refl

-- of all claims of a line
sum_more : (x : SavedDraft) (drafts : List SavedDraft) (line : List Claim)
    → sum_by (λ (c : Claim). own_drafts (x ∷ drafts) c.id) line ≡ sum_by (λ (c : Claim). own_drafts drafts c.id) line + count_by (λ (c : Claim). same_id c.id (Long x.claim)) line
sum_more x drafts [] = refl
sum_more x drafts (c ∷ line) =
    let whole = sum_by-cons (λ (d : Claim). own_drafts (x ∷ drafts) d.id) c line in
    let before = sum_by-cons (λ (d : Claim). own_drafts drafts d.id) c line in
    let counts = sum_by-cons (λ (d : Claim). cond (same_id d.id (Long x.claim)) 1 0) c line in
    let one = own_more x drafts c.id in
    let rest = sum_more x drafts line in
    omega (arith, whole, before, counts, one, rest)

-- no drafts
sum_none : (line : List Claim) → sum_by (λ (c : Claim). own_drafts [] c.id) line ≡ 0
sum_none [] = refl
sum_none (c ∷ line) = sum_by-cons (λ (d : Claim). own_drafts [] d.id) c line ∙ (let none = by_id c.id in let rest = sum_none line in omega (arith, none, rest))
  where
    by_id : (id : ClaimId) → own_drafts [] id ≡ 0
    by_id (Long n) = refl
    by_id (Short n) = refl

-- none of these claims has this id
none_has : (id : ClaimId) (line : List Claim) → AllByRecursion (λ k. same_id id k ≡ false) (ids line) → count_by (λ (c : Claim). same_id c.id id) line ≡ 0
none_has id [] all = refl
none_has id (c ∷ line) all = by_test (same_id c.id id) refl (none_has id line all.1)
  where
    by_test : (b : Bool) → same_id c.id id ≡ b → count_by (λ (d : Claim). same_id d.id id) line ≡ 0 → count_by (λ (d : Claim). same_id d.id id) (c ∷ line) ≡ 0
    by_test true e rest =
        let same : same_id id c.id ≡ true = subst (λ (k : ClaimId). same_id id k ≡ true) (sym (same_id_is c.id id e)) (same_id_itself id) in
        absurd (false≢true (sym all.0 ∙ same))
    by_test false e rest =
        let counts = sum_by-cons (λ (d : Claim). cond (same_id d.id id) 1 0) c line in
        let own : ◌≡◌ {A = ℕ} (cond (same_id c.id id) 1 0) 0 = ap (λ (b : Bool). cond {A = ℕ} b 1 0) e in
        omega (arith, counts, rest, own)

-- one claim of the line has it, where one is there
pub one_has : (id : ClaimId) (line : List Claim) → IsDistinct same_id (ids line) → is_some (claim_of line id) ≡ true → count_by (λ (c : Claim). same_id c.id id) line ≡ 1
unfolding IsDistinct
one_has id [] distinct some = absurd (false≢true some)
one_has id (c ∷ line) distinct some = by_test (same_id c.id id) refl some (one_has id line distinct.1)
  where
    by_test : (b : Bool) → same_id c.id id ≡ b → is_some (cond b (Some c) (claim_of line id)) ≡ true → (is_some (claim_of line id) ≡ true → count_by (λ (d : Claim). same_id d.id id) line ≡ 1)
        → count_by (λ (d : Claim). same_id d.id id) (c ∷ line) ≡ 1
    by_test true e h further =
        let counts = sum_by-cons (λ (d : Claim). cond (same_id d.id id) 1 0) c line in
        let others : AllByRecursion (λ k. same_id id k ≡ false) (ids line) = subst (λ (k : ClaimId). AllByRecursion (λ j. same_id k j ≡ false) (ids line)) (same_id_is c.id id e) distinct.0 in
        let rest = none_has id line others in
        let own : ◌≡◌ {A = ℕ} (cond (same_id c.id id) 1 0) 1 = ap (λ (b : Bool). cond {A = ℕ} b 1 0) e in
        omega (arith, counts, rest, own)
    by_test false e h further =
        let counts = sum_by-cons (λ (d : Claim). cond (same_id d.id id) 1 0) c line in
        let rest = further h in
        let own : ◌≡◌ {A = ℕ} (cond (same_id c.id id) 1 0) 0 = ap (λ (b : Bool). cond {A = ℕ} b 1 0) e in
        omega (arith, counts, rest, own)

sum_all : (tree : List Place) (line : List Claim) (drafts : List SavedDraft) → IsDistinct same_id (ids line) → All (IsDraft tree line) drafts
    → sum_by (λ (c : Claim). own_drafts drafts c.id) line ≡ length drafts
sum_all tree line [] distinct all = sum_none line
sum_all tree line (x ∷ drafts) distinct all =
    let held = (All-head (IsDraft tree line) x drafts all).held in
    let more = sum_more x drafts line in
    let one = one_has (Long x.claim) line distinct (held_there tree line (Long x.claim) held) in
    let rest = sum_all tree line drafts distinct (All-tail (IsDraft tree line) x drafts all) in
    omega (arith, more, one, rest)

-- each draft of a vault is of one claim of its line
drafts_are_owned : (v : Vault) → IsVault v → sum_by (λ (c : Claim). own_drafts v.drafts c.id) v.line ≡ length v.drafts
drafts_are_owned v is = sum_all v.tree v.line v.drafts is.apart is.drafts.each

-- the versions of the first places are those of the shelf's first parts, also behind its end
versions_of_first : (shelf : List (List (List ℕ))) (n : ℕ) → sum_by length (map (versions_of shelf) (range_with_len 0 n)) ≡ sum_by length (take n shelf)
versions_of_first shelf zero = refl
versions_of_first shelf (suc n) =
    let here : 0 + n ≡ n = omega arith in
    let next : suc n ≡ n + 1 = omega arith in
    let more = sum_by-map-range_with_len_more length (versions_of shelf) 0 n n here in
    let parts = by_order (cases_lt n (length shelf)) in
    let rest = versions_of_first shelf n in
    subst (λ (k : ℕ). sum_by length (map (versions_of shelf) (range_with_len 0 k)) ≡ sum_by length (take k shelf)) (sym next) (more ∙ ap (λ (k : ℕ). k + length (versions_of shelf n)) rest ∙ parts)
  where
    by_order : (n < length shelf) ⊎ (length shelf ≤ n) → sum_by length (take n shelf) + length (versions_of shelf n) ≡ sum_by length (take (n + 1) shelf)
    by_order (inr past) =
        let behind : length shelf ≤ n + 1 = omega arith in
        let none : length (versions_of shelf n) ≡ 0 = ap length (get_or_past shelf n [] past) in
        let same : sum_by length (take n shelf) ≡ sum_by length (take (n + 1) shelf) = ap (sum_by length) (take_all n shelf past ∙ sym (take_all (n + 1) shelf behind)) in
        omega (arith, none, same)
    by_order (inl within) = sym (sum_next length shelf n (versions_of shelf n) (slice_get-get_or shelf n [] within))

-- no version is of a place behind the tree's
shelf_is_short : (v : Vault) → IsVault v → length v.shelf ≤ length v.tree + 1
shelf_is_short v is = by_length (length v.shelf) refl
  where
    by_length : (n : ℕ) → n ≡ length v.shelf → n ≤ length v.tree + 1
    by_length zero e = omega arith
    by_length (suc p) e =
        let there = (is.versions.parts p (is.versions.shelf_is.trimmed p e)).0 in
        omega (arith, there)

versions_are_placed : (v : Vault) → IsVault v → version_count v ≡ sum_by length v.shelf
versions_are_placed v is = versions_of_first v.shelf (length v.tree + 1) ∙ ap (sum_by length) (take_all (length v.tree + 1) v.shelf (shelf_is_short v is))

pub counts_are_totals : CountsAreTotals
counts_are_totals v is = (versions_are_placed v is, drafts_are_owned v is)
