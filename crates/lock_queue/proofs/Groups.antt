-- The group of the held requests without one claim's own request.
use Rattle.std.specs.Prelude.{◌≡◌, ℕ, ◌+◌, ◌<◌, Bool, true, false, not, ◌&&◌, List, [], ◌∷◌, ◌++◌, filter, find, Option, None, Some, refl}
use Rattle.std.proofs.Common.{sym, ap, subst, ◌∙◌, cond, arith}
use Rattle.std.specs.List.{list_all, AllByRecursion}
use Rattle.vault_state.specs.declared.ids.ClaimId.{ClaimId}
use Rattle.vault_state.specs.Claims.{same_id}
use Rattle.lock_modes.specs.declared.mode.Mode.{Mode}
use Rattle.lock_modes.specs.declared.mode.Mode.TheVariants.{IS, IX, S, SIX, X}
use Rattle.lock_modes.specs.Modes.{compatible}
use Rattle.lock_modes.specs.Groups.{Counts, members, with_one, group_of, count_of}
use Rattle.lock_modes.proofs.Tables.{and_both, compatible_symmetric}
use Rattle.lock_modes.proofs.GroupModes.{list_all-group_of}
use Rattle.lock_queue.specs.declared.queue.Request.{Request}
use Rattle.lock_queue.specs.Queue.{AreCounted, request_modes, held_requests, is_held_in_way, other_held, with_own, HasOwn, IsOwn, requests_without, restood}

more : (a b : ℕ) → a + 1 ≡ b + 1 → a ≡ b
more a b e = omega (arith, e)

same_counts : (g h : Counts) → g.is ≡ h.is → g.ix ≡ h.ix → g.s ≡ h.s → g.six ≡ h.six → g.x ≡ h.x → g ≡ h
same_counts g h a b c d e =
    ap (λ n. record { is = n; ix = g.ix; s = g.s; six = g.six; x = g.x }) a
    ∙ (ap (λ n. record { is = h.is; ix = n; s = g.s; six = g.six; x = g.x }) b
    ∙ (ap (λ n. record { is = h.is; ix = h.ix; s = n; six = g.six; x = g.x }) c
    ∙ (ap (λ n. record { is = h.is; ix = h.ix; s = h.s; six = n; x = g.x }) d
    ∙ ap (λ n. record { is = h.is; ix = h.ix; s = h.s; six = h.six; x = n }) e)))

-- groups are the same if they are the same with one more member of the same mode
pub with_one_same : (g h : Counts) (m : Mode) → with_one g m ≡ with_one h m → g ≡ h
with_one_same g h IS e = same_counts g h (more g.is h.is (ap (λ (k : Counts). k.is) e)) (ap (λ (k : Counts). k.ix) e) (ap (λ (k : Counts). k.s) e) (ap (λ (k : Counts). k.six) e) (ap (λ (k : Counts). k.x) e)
with_one_same g h IX e = same_counts g h (ap (λ (k : Counts). k.is) e) (more g.ix h.ix (ap (λ (k : Counts). k.ix) e)) (ap (λ (k : Counts). k.s) e) (ap (λ (k : Counts). k.six) e) (ap (λ (k : Counts). k.x) e)
with_one_same g h S e = same_counts g h (ap (λ (k : Counts). k.is) e) (ap (λ (k : Counts). k.ix) e) (more g.s h.s (ap (λ (k : Counts). k.s) e)) (ap (λ (k : Counts). k.six) e) (ap (λ (k : Counts). k.x) e)
with_one_same g h SIX e = same_counts g h (ap (λ (k : Counts). k.is) e) (ap (λ (k : Counts). k.ix) e) (ap (λ (k : Counts). k.s) e) (more g.six h.six (ap (λ (k : Counts). k.six) e)) (ap (λ (k : Counts). k.x) e)
with_one_same g h X e = same_counts g h (ap (λ (k : Counts). k.is) e) (ap (λ (k : Counts). k.ix) e) (ap (λ (k : Counts). k.s) e) (ap (λ (k : Counts). k.six) e) (more g.x h.x (ap (λ (k : Counts). k.x) e))

pub count_own : (g : Counts) (m : Mode) → 0 < count_of (with_one g m) m
count_own g IS = omega arith
count_own g IX = omega arith
count_own g S = omega arith
count_own g SIX = omega arith
count_own g X = omega arith

none_held : (id : ClaimId) (mode : Mode) (requests : List Request) → list_all (λ m. compatible m mode) (request_modes (other_held id requests)) ≡ true → find (is_held_in_way id mode) requests ≡ None
none_held id mode [] e = refl
none_held id mode (s ∷ requests) e = by_tests s.is_held (same_id s.id id) refl (compatible mode s.mode) refl e (none_held id mode requests)
  where
    by_tests : (b c : Bool) → same_id s.id id ≡ c → (k : Bool) → compatible mode s.mode ≡ k
        → list_all (λ m. compatible m mode) (request_modes (filter (λ (x : Request). not (same_id x.id id)) (cond b (s ∷ held_requests requests) (held_requests requests)))) ≡ true
        → (list_all (λ m. compatible m mode) (request_modes (other_held id requests)) ≡ true → find (is_held_in_way id mode) requests ≡ None)
        → cond ((not c && not k) && b) (Some s) (find (is_held_in_way id mode) requests) ≡ None
    by_tests false true q true h e rest = rest e
    by_tests false true q false h e rest = rest e
    by_tests false false q true h e rest = rest e
    by_tests false false q false h e rest = rest e
    by_tests true true q true h e rest = rest (rw q at e)
    by_tests true true q false h e rest = rest (rw q at e)
    by_tests true false q true h e rest =
        let f : list_all (λ m. compatible m mode) (s.mode ∷ request_modes (other_held id requests)) ≡ true = rw q at e in
        rest (and_both (compatible s.mode mode) (list_all (λ m. compatible m mode) (request_modes (other_held id requests))) f).1
    by_tests true false q false h e rest =
        let f : list_all (λ m. compatible m mode) (s.mode ∷ request_modes (other_held id requests)) ≡ true = rw q at e in
        let here : compatible mode s.mode ≡ true = compatible_symmetric mode s.mode ∙ (and_both (compatible s.mode mode) (list_all (λ m. compatible m mode) (request_modes (other_held id requests))) f).0 in
        cc

-- what is left of the group without the claim's own mode is the group of the others
left_group : (id : ClaimId) (own : Option Mode) (requests : List Request) (others : Counts) → IsOwn id own requests → group_of (request_modes (held_requests requests)) ≡ with_own own others → others ≡ group_of (request_modes (other_held id requests))
left_group id None requests others own e = sym e ∙ own
left_group id (Some m) requests others own e = with_one_same others (group_of (request_modes (other_held id requests))) m (sym e ∙ own)

-- where the group without the claim's own mode admits a mode, no held request of another claim is in its way
pub free_of_others : (id : ClaimId) (own : Option Mode) (mode : Mode) (requests : List Request) (all held others : Counts) → AreCounted requests all held → IsOwn id own requests → held ≡ with_own own others
    → list_all (λ m. compatible m mode) (members others) ≡ true → find (is_held_in_way id mode) requests ≡ None
free_of_others id own mode requests all held others counted is left e =
    none_held id mode requests (sym (list_all-group_of (λ m. compatible m mode) (request_modes (other_held id requests)))
    ∙ (ap (λ g. list_all (λ m. compatible m mode) (members g)) (sym (left_group id own requests others is (sym counted.1 ∙ left))) ∙ e))

pub has_own : (id : ClaimId) (own : Option Mode) (requests : List Request) (all held : Counts) → AreCounted requests all held → IsOwn id own requests → HasOwn own held
has_own id None requests all held counted is = tt
has_own id (Some m) requests all held counted is = subst (λ (g : Counts). 0 < count_of g m) (sym (counted.1 ∙ is)) (count_own (group_of (request_modes (other_held id requests))) m)

-- the requests without a claim's, and the requests with its standing changed
abbrev pub NoRequest : ClaimId → List Request → Type 0
NoRequest id requests = AllByRecursion (λ (s : Request). same_id s.id id ≡ false) requests

pub without_none : (id : ClaimId) (requests : List Request) → NoRequest id requests → requests_without id requests ≡ requests
without_none id [] all = refl
without_none id (s ∷ requests) all = rw all.0 (ap (λ xs. s ∷ xs) (without_none id requests all.1))

pub restood_none : (id : ClaimId) (b : Bool) (requests : List Request) → NoRequest id requests → restood id b requests ≡ requests
restood_none id b [] all = refl
restood_none id b (s ∷ requests) all = rw all.0 (ap (λ xs. s ∷ xs) (restood_none id b requests all.1))
