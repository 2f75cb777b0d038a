-- What all drafts weigh: each is of one claim in the queue.
use Rattle.std.proofs.Common.{◌≡◌, ℕ, suc, ◌+◌, ◌<◌, ◌≤◌, Bool, true, false, cond, get_or, length, Fits, w64, List, [], ◌∷◌, map, filter, refl, sym, ap, ◌∙◌, arith, take, drop, ◌++◌, Some}
use Rattle.std.specs.Prelude.{sum_by, count_by, slice_get, All, ◌==◌}
use Rattle.std.specs.List.{IsDistinct}
use Rattle.std.proofs.Math.Seq.{split_at}
use Rattle.std.proofs.lemmas.Bool.Decides.{nat_tests}
use Rattle.std.proofs.lemmas.List.Elements.{All-head, All-tail}
use Rattle.std.proofs.lemmas.List.{at_drop_all, at_drop_more, take_all}
use Rattle.std.proofs.lemmas.List.Sums.{sum_by-cons, sum_by-append}
use Rattle.std.proofs.lemmas.Option.{get_or_from_slice_get, slice_get_within}
use Rattle.vault_state.specs.declared.claims.Claim.{Claim}
use Rattle.vault_state.specs.declared.ids.ClaimId.{ClaimId}
use Rattle.vault_state.specs.declared.ids.ClaimId.TheVariants.{Long, Short}
use Rattle.vault_state.specs.declared.place.Place.{Place}
use Rattle.vault_state.specs.Claims.{same_id}
use Rattle.vault_state.specs.Drafts.{SavedDraft, drafts_of, saved_weight}
use Rattle.vault_state.specs.Limits.{most_weight}
use Rattle.vault_state.specs.Shelf.{Draft, content_weight, drafts_weight, weight}
use Rattle.vault_state.specs.Vault.{Vault, IsVault, IsDraft}
use Rattle.vault_state.proofs.Stays.{ids, held_there}
use Rattle.vault_inspector.specs.Figures.{own_weight, draft_weight, WeightIsTotal}
use Rattle.vault_inspector.proofs.Counting.{one_has}

-- what one more of a list adds is within the whole
pub within_sum : {X : Type 0} (f : X → ℕ) (xs : List X) (i : ℕ) (x : X) → slice_get xs i ≡ Some x → sum_by f (take i xs) + f x ≤ sum_by f xs
within_sum f xs i x at =
    let within = slice_get_within xs i x at in
    let cut = split_at xs i x within ∙ ap (λ (y : _). take i xs ++ y ∷ drop (suc i) xs) (get_or_from_slice_get xs i x x at) in
    let all = ap (sum_by f) cut ∙ sum_by-append f (take i xs) (x ∷ drop (suc i) xs) in
    let one = sum_by-cons f x (drop (suc i) xs) in
    omega (arith, all, one)

-- what a draft weighs
weighs : Draft → ℕ
weighs draft = content_weight draft.content

-- a draft more, of the claim that it is of
own_more : (x : SavedDraft) (drafts : List SavedDraft) (id : ClaimId) → own_weight (x ∷ drafts) id ≡ own_weight drafts id + cond (same_id id (Long x.claim)) (content_weight x.draft.content) 0
own_more x drafts (Long n) = by_test (x.claim == n) (n == x.claim) refl refl
  where
    rest : List SavedDraft
    rest = filter (λ (y : SavedDraft). y.claim == n) drafts

    by_test : (b d : Bool) → (x.claim == n) ≡ b → (n == x.claim) ≡ d → drafts_weight (map (λ (y : SavedDraft). y.draft) (cond b (x ∷ rest) rest)) ≡ drafts_weight (drafts_of drafts n) + cond d (content_weight x.draft.content) 0
    by_test true true e f = let more = sum_by-cons (λ (draft : Draft). content_weight draft.content) x.draft (map (λ (y : SavedDraft). y.draft) rest) in omega (arith, more)
    by_test false false e f = omega arith
    by_test true false e f = absurd (let same : x.claim ≡ n = grind (arith, nat_tests, e) in grind (arith, nat_tests, f, same))
    by_test false true e f = absurd (let same : n ≡ x.claim = grind (arith, nat_tests, f) in grind (arith, nat_tests, e, same))
own_more x drafts (Short n) = refl

-- of all claims of a line
sum_more : (x : SavedDraft) (drafts : List SavedDraft) (line : List Claim)
    → sum_by (λ (c : Claim). own_weight (x ∷ drafts) c.id) line
    ≡ sum_by (λ (c : Claim). own_weight drafts c.id) line + sum_by (λ (c : Claim). cond (same_id c.id (Long x.claim)) (content_weight x.draft.content) 0) line
sum_more x drafts [] = refl
sum_more x drafts (c ∷ line) =
    let whole = sum_by-cons (λ (d : Claim). own_weight (x ∷ drafts) d.id) c line in
    let before = sum_by-cons (λ (d : Claim). own_weight drafts d.id) c line in
    let weights = sum_by-cons (λ (d : Claim). cond (same_id d.id (Long x.claim)) (content_weight x.draft.content) 0) c line in
    let one = own_more x drafts c.id in
    let rest = sum_more x drafts line in
    omega (arith, whole, before, weights, one, rest)

-- no drafts
sum_none : (line : List Claim) → sum_by (λ (c : Claim). own_weight [] c.id) line ≡ 0
sum_none [] = refl
sum_none (c ∷ line) = sum_by-cons (λ (d : Claim). own_weight [] d.id) c line ∙ (let none = by_id c.id in let rest = sum_none line in omega (arith, none, rest))
  where
    by_id : (id : ClaimId) → own_weight [] id ≡ 0
    by_id (Long n) = refl
    by_id (Short n) = refl

-- the sum of a weight over those that are counted: 0 where none is, and the weight where one is
none_weighed : {X : Type 0} (p : X → Bool) (w : ℕ) (xs : List X) → count_by p xs ≡ 0 → sum_by (λ (x : X). cond (p x) w 0) xs ≡ 0
none_weighed {X} p w [] none = refl
none_weighed {X} p w (x ∷ xs) none = by_test (p x) refl (none_weighed p w xs)
  where
    by_test : (b : Bool) → p x ≡ b → (count_by p xs ≡ 0 → sum_by (λ (y : X). cond (p y) w 0) xs ≡ 0) → sum_by (λ (y : X). cond (p y) w 0) (x ∷ xs) ≡ 0
    by_test true e further =
        let counts = sum_by-cons (λ (y : X). cond (p y) 1 0) x xs in
        let own : ◌≡◌ {A = ℕ} (cond (p x) 1 0) 1 = ap (λ (b : Bool). cond {A = ℕ} b 1 0) e in
        absurd (omega (arith, counts, own, none))
    by_test false e further =
        let counts = sum_by-cons (λ (y : X). cond (p y) 1 0) x xs in
        let weights = sum_by-cons (λ (y : X). cond (p y) w 0) x xs in
        let counted : ◌≡◌ {A = ℕ} (cond (p x) 1 0) 0 = ap (λ (b : Bool). cond {A = ℕ} b 1 0) e in
        let own : ◌≡◌ {A = ℕ} (cond (p x) w 0) 0 = ap (λ (b : Bool). cond {A = ℕ} b w 0) e in
        let fewer : count_by p xs ≡ 0 = omega (arith, counts, counted, none) in
        let rest = further fewer in
        omega (arith, weights, own, rest)

one_weighed : {X : Type 0} (p : X → Bool) (w : ℕ) (xs : List X) → count_by p xs ≡ 1 → sum_by (λ (x : X). cond (p x) w 0) xs ≡ w
one_weighed {X} p w [] one = absurd (omega (arith, one))
one_weighed {X} p w (x ∷ xs) one = by_test (p x) refl (one_weighed p w xs)
  where
    by_test : (b : Bool) → p x ≡ b → (count_by p xs ≡ 1 → sum_by (λ (y : X). cond (p y) w 0) xs ≡ w) → sum_by (λ (y : X). cond (p y) w 0) (x ∷ xs) ≡ w
    by_test true e further =
        let counts = sum_by-cons (λ (y : X). cond (p y) 1 0) x xs in
        let weights = sum_by-cons (λ (y : X). cond (p y) w 0) x xs in
        let counted : ◌≡◌ {A = ℕ} (cond (p x) 1 0) 1 = ap (λ (b : Bool). cond {A = ℕ} b 1 0) e in
        let own : ◌≡◌ {A = ℕ} (cond (p x) w 0) w = ap (λ (b : Bool). cond {A = ℕ} b w 0) e in
        let none : count_by p xs ≡ 0 = omega (arith, counts, counted, one) in
        let rest = none_weighed p w xs none in
        omega (arith, weights, own, rest)
    by_test false e further =
        let counts = sum_by-cons (λ (y : X). cond (p y) 1 0) x xs in
        let weights = sum_by-cons (λ (y : X). cond (p y) w 0) x xs in
        let counted : ◌≡◌ {A = ℕ} (cond (p x) 1 0) 0 = ap (λ (b : Bool). cond {A = ℕ} b 1 0) e in
        let own : ◌≡◌ {A = ℕ} (cond (p x) w 0) 0 = ap (λ (b : Bool). cond {A = ℕ} b w 0) e in
        let same : count_by p xs ≡ 1 = omega (arith, counts, counted, one) in
        let rest = further same in
        omega (arith, weights, own, rest)

sum_all : (tree : List Place) (line : List Claim) (drafts : List SavedDraft) → IsDistinct same_id (ids line) → All (IsDraft tree line) drafts
    → sum_by (λ (c : Claim). own_weight drafts c.id) line ≡ saved_weight drafts
sum_all tree line [] distinct all = sum_none line
sum_all tree line (x ∷ drafts) distinct all =
    let held = (All-head (IsDraft tree line) x drafts all).held in
    let more = sum_more x drafts line in
    let one = one_weighed (λ (c : Claim). same_id c.id (Long x.claim)) (content_weight x.draft.content) line (one_has (Long x.claim) line distinct (held_there tree line (Long x.claim) held)) in
    let rest = sum_all tree line drafts distinct (All-tail (IsDraft tree line) x drafts all) in
    let weights = sum_by-cons (λ (draft : Draft). content_weight draft.content) x.draft (map (λ (y : SavedDraft). y.draft) drafts) in
    omega (arith, more, one, rest, weights)

-- the drafts of all claims weigh what all drafts weigh
pub all_weighed : (v : Vault) → IsVault v → draft_weight v ≡ saved_weight v.drafts
all_weighed v is = sum_all v.tree v.line v.drafts is.apart is.drafts.each

pub weight_is_total : WeightIsTotal
weight_is_total v is = ap (λ (n : ℕ). weight v.shelf + n) (all_weighed v is)

-- the drafts of the first claims, with the next one, stay within the weight limit
pub light_so_far : (v : Vault) → IsVault v → (i : ℕ) (c : Claim) → slice_get v.line i ≡ Some c
    → sum_by (λ (d : Claim). own_weight v.drafts d.id) (take i v.line) + own_weight v.drafts c.id ≤ most_weight
light_so_far v is i c at =
    let within = within_sum (λ (d : Claim). own_weight v.drafts d.id) v.line i c at in
    let all = all_weighed v is in
    let light = is.light in
    omega (arith, within, all, light)

-- drafts weighed one by one
module _ (xs : List Draft) (i sum all : ℕ) (so_far : sum + drafts_weight (drop i xs) ≡ all) where
  pub weighed_all : length xs ≤ i → sum ≡ all
  weighed_all past = let none = at_drop_all drafts_weight xs i past in omega arith

  module _ (x : Draft) (content : List ℕ) (inside : i < length xs) (is : x ≡ get_or xs i x) (same : content ≡ x.content) where
    taken : drafts_weight (drop i xs) ≡ content_weight x.content + drafts_weight (drop (i + 1) xs)
    taken =
        at_drop_more drafts_weight xs i x inside
        ∙ sum_by-cons (λ (d : Draft). content_weight d.content) (get_or xs i x) (drop (i + 1) xs)
        ∙ ap (λ (y : Draft). content_weight y.content + drafts_weight (drop (i + 1) xs)) (sym is)

    pub weighed_next : sum + (length content + 8) + drafts_weight (drop (i + 1) xs) ≡ all
    weighed_next = let one = taken in let size = ap length same in omega arith

    pub weighed_fits : all ≤ most_weight → Fits w64 (sum + (length content + 8))
    weighed_fits light = let next = weighed_next in omega arith

-- the sum at the end of the queue stays within the weight limit
pub light_at_end : (v : Vault) → IsVault v → (i total : ℕ) → length v.line ≤ i → total ≡ sum_by (λ (c : Claim). own_weight v.drafts c.id) (take i v.line)
    → weight v.shelf + total ≤ most_weight
light_at_end v is i total past summed =
    let whole : total ≡ draft_weight v = summed ∙ ap (sum_by (λ (c : Claim). own_weight v.drafts c.id)) (take_all i v.line past) in
    let all = all_weighed v is in
    let light : weight v.shelf + saved_weight v.drafts ≤ most_weight = is.light in
    omega (arith, whole, all, light)
