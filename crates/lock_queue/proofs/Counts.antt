-- Groups of requests: adding one request, and what a group that admits a mode says of the requests.
use Rattle.std.specs.Prelude.{◌≡◌, suc, ◌≤◌, Bool, true, false, ◌&&◌, List, [], ◌∷◌, ◌++◌, length, find, None, Some, refl}
use Rattle.std.proofs.Common.{sym, ap, ◌∙◌, cond, arith}
use Rattle.std.specs.List.{list_all}
use Rattle.lock_modes.specs.declared.mode.Mode.{Mode}
use Rattle.lock_modes.specs.declared.mode.Mode.TheVariants.{IS, IX, S, SIX, X}
use Rattle.lock_modes.specs.Modes.{compatible, at_least}
use Rattle.lock_modes.specs.Groups.{Counts, no_members, size, members, with_one, group_of}
use Rattle.lock_modes.proofs.Tables.{and_both, compatible_symmetric}
use Rattle.lock_modes.proofs.GroupModes.{list_all-group_of}
use Rattle.lock_queue.specs.declared.queue.Request.{Request}
use Rattle.lock_queue.specs.Queue.{request_modes, held_requests, AreCounted, is_in_way, is_cover}

pub with_one_swap : (g : Counts) (m n : Mode) → with_one (with_one g m) n ≡ with_one (with_one g n) m
with_one_swap g IS IS = refl
with_one_swap g IS IX = refl
with_one_swap g IS S = refl
with_one_swap g IS SIX = refl
with_one_swap g IS X = refl
with_one_swap g IX IS = refl
with_one_swap g IX IX = refl
with_one_swap g IX S = refl
with_one_swap g IX SIX = refl
with_one_swap g IX X = refl
with_one_swap g S IS = refl
with_one_swap g S IX = refl
with_one_swap g S S = refl
with_one_swap g S SIX = refl
with_one_swap g S X = refl
with_one_swap g SIX IS = refl
with_one_swap g SIX IX = refl
with_one_swap g SIX S = refl
with_one_swap g SIX SIX = refl
with_one_swap g SIX X = refl
with_one_swap g X IS = refl
with_one_swap g X IX = refl
with_one_swap g X S = refl
with_one_swap g X SIX = refl
with_one_swap g X X = refl

pub group_of-push : (ms : List Mode) (m : Mode) → group_of (ms ++ m ∷ []) ≡ with_one (group_of ms) m
group_of-push [] m = refl
group_of-push (x ∷ ms) m = ap (λ g. with_one g x) (group_of-push ms m) ∙ with_one_swap (group_of ms) m x

pub size-with_one : (g : Counts) (m : Mode) → size (with_one g m) ≡ suc (size g)
size-with_one g IS = omega arith
size-with_one g IX = omega arith
size-with_one g S = omega arith
size-with_one g SIX = omega arith
size-with_one g X = omega arith

pub size-group_of : (ms : List Mode) → size (group_of ms) ≡ length ms
size-group_of [] = refl
size-group_of (m ∷ ms) = size-with_one (group_of ms) m ∙ ap suc (size-group_of ms)

request_modes-push : (requests : List Request) (s : Request) → request_modes (requests ++ s ∷ []) ≡ request_modes requests ++ s.mode ∷ []
request_modes-push [] s = refl
request_modes-push (x ∷ requests) s = ap (λ ms. x.mode ∷ ms) (request_modes-push requests s)

held_requests-push : (requests : List Request) (s : Request) → held_requests (requests ++ s ∷ []) ≡ held_requests requests ++ cond s.is_held (s ∷ []) []
held_requests-push [] s = refl
held_requests-push (x ∷ requests) s = by_test x.is_held (held_requests-push requests s)
  where
    by_test : (b : Bool) → held_requests (requests ++ s ∷ []) ≡ held_requests requests ++ cond s.is_held (s ∷ []) []
        → cond b (x ∷ held_requests (requests ++ s ∷ [])) (held_requests (requests ++ s ∷ [])) ≡ cond b (x ∷ held_requests requests) (held_requests requests) ++ cond s.is_held (s ∷ []) []
    by_test true ih = ap (λ ys. x ∷ ys) ih
    by_test false ih = ih

append_nothing : {T : Type 0} (xs : List T) → xs ++ [] ≡ xs
append_nothing [] = refl
append_nothing (x ∷ xs) = ap (λ ys. x ∷ ys) (append_nothing xs)

held_modes-push : (requests : List Request) (s : Request) → group_of (request_modes (held_requests (requests ++ s ∷ []))) ≡ cond s.is_held (with_one (group_of (request_modes (held_requests requests))) s.mode) (group_of (request_modes (held_requests requests)))
held_modes-push requests s = ap (λ ys. group_of (request_modes ys)) (held_requests-push requests s) ∙ by_test s.is_held
  where
    by_test : (b : Bool) → group_of (request_modes (held_requests requests ++ cond b (s ∷ []) [])) ≡ cond b (with_one (group_of (request_modes (held_requests requests))) s.mode) (group_of (request_modes (held_requests requests)))
    by_test true = ap group_of (request_modes-push (held_requests requests) s) ∙ group_of-push (request_modes (held_requests requests)) s.mode
    by_test false = ap (λ ys. group_of (request_modes ys)) (append_nothing (held_requests requests))

pub counted_none : (requests : List Request) (all held : Counts) → requests ≡ [] → all ≡ no_members → held ≡ no_members → AreCounted requests all held
counted_none requests all held e a h = rw (e, a, h) (refl, refl)

-- one more request
pub counted_push : (requests more : List Request) (all held : Counts) (s : Request) (all' held' : Counts) → AreCounted requests all held → more ≡ requests ++ s ∷ []
    → all' ≡ with_one all s.mode → held' ≡ cond s.is_held (with_one held s.mode) held → AreCounted more all' held'
counted_push requests more all held s all' held' counted pushed a h = (
  a ∙ ap (λ g. with_one g s.mode) counted.0 ∙ sym (ap (λ xs. group_of (request_modes xs)) pushed ∙ (ap group_of (request_modes-push requests s) ∙ group_of-push (request_modes requests) s.mode)),
  h ∙ ap (λ g. cond s.is_held (with_one g s.mode) g) counted.1 ∙ sym (ap (λ xs. group_of (request_modes (held_requests xs))) pushed ∙ held_modes-push requests s),
)

pub length_modes : (requests : List Request) → length (request_modes requests) ≡ length requests
length_modes [] = refl
length_modes (s ∷ requests) = ap suc (length_modes requests)

-- at most all requests are granted
pub length_held : (requests : List Request) → length (held_requests requests) ≤ length requests
length_held [] = omega arith
length_held (s ∷ requests) = by_test s.is_held (length_held requests)
  where
    by_test : (b : Bool) → length (held_requests requests) ≤ length requests → length (cond b (s ∷ held_requests requests) (held_requests requests)) ≤ suc (length requests)
    by_test true ih = omega (arith, ih)
    by_test false ih = omega (arith, ih)

-- neither group has more members than there are requests
pub size_all : (requests : List Request) (all held : Counts) → AreCounted requests all held → size all ≡ length requests
size_all requests all held counted = ap size counted.0 ∙ (size-group_of (request_modes requests) ∙ length_modes requests)

pub size_held_is : (requests : List Request) (all held : Counts) → AreCounted requests all held → size held ≡ length (held_requests requests)
size_held_is requests all held counted = ap size counted.1 ∙ (size-group_of (request_modes (held_requests requests)) ∙ length_modes (held_requests requests))

pub size_held : (requests : List Request) (all held : Counts) → AreCounted requests all held → size held ≤ length requests
size_held requests all held counted =
    let same : size held ≡ length (held_requests requests) = ap size counted.1 ∙ (size-group_of (request_modes (held_requests requests)) ∙ length_modes (held_requests requests)) in
    let fewer = length_held requests in
    omega (arith, same, fewer)

none_refused : (mode : Mode) (requests : List Request) → list_all (λ m. compatible m mode) (request_modes requests) ≡ true → find (is_in_way mode) requests ≡ None
none_refused mode [] e = refl
none_refused mode (s ∷ requests) e =
    let parts = and_both (compatible s.mode mode) (list_all (λ m. compatible m mode) (request_modes requests)) e in
    let here : compatible mode s.mode ≡ true = compatible_symmetric mode s.mode ∙ parts.0 in
    rw here (none_refused mode requests parts.1)

-- where the group admits a mode, no request is in its way
pub admitted : (mode : Mode) (requests : List Request) (all held : Counts) → AreCounted requests all held → list_all (λ m. compatible m mode) (members all) ≡ true → find (is_in_way mode) requests ≡ None
admitted mode requests all held counted e =
    none_refused mode requests (sym (list_all-group_of (λ m. compatible m mode) (request_modes requests)) ∙ (ap (λ g. list_all (λ m. compatible m mode) (members g)) (sym counted.0) ∙ e))

no_cover : (m : Mode) → compatible m IX ≡ true → at_least m S ≡ false
no_cover IS e = refl
no_cover IX e = refl
no_cover S e = cc
no_cover SIX e = cc
no_cover X e = cc

none_covers : (requests : List Request) → list_all (λ m. compatible m IX) (request_modes (held_requests requests)) ≡ true → find is_cover requests ≡ None
none_covers [] e = refl
none_covers (s ∷ requests) e = by_held s.is_held refl (at_least s.mode S) refl e (none_covers requests)
  where
    by_held : (b : Bool) → s.is_held ≡ b → (c : Bool) → at_least s.mode S ≡ c → list_all (λ m. compatible m IX) (request_modes (cond b (s ∷ held_requests requests) (held_requests requests))) ≡ true
        → (list_all (λ m. compatible m IX) (request_modes (held_requests requests)) ≡ true → find is_cover requests ≡ None) → cond (c && b) (Some s) (find is_cover requests) ≡ None
    by_held true h false c e rest = rest (and_both (compatible s.mode IX) (list_all (λ m. compatible m IX) (request_modes (held_requests requests))) e).1
    by_held true h true c e rest =
        let parts = and_both (compatible s.mode IX) (list_all (λ m. compatible m IX) (request_modes (held_requests requests))) e in
        let low = no_cover s.mode parts.0 in
        cc
    by_held false h true c e rest = rest e
    by_held false h false c e rest = rest e

-- where the group of the held requests admits IX, none of them covers the place
pub uncovered : (requests : List Request) (all held : Counts) → AreCounted requests all held → list_all (λ m. compatible m IX) (members held) ≡ true → find is_cover requests ≡ None
uncovered requests all held counted e =
    none_covers requests (sym (list_all-group_of (λ m. compatible m IX) (request_modes (held_requests requests))) ∙ (ap (λ g. list_all (λ m. compatible m IX) (members g)) (sym counted.1) ∙ e))
