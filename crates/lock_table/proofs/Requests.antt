-- The requests of a table's entries through each change.
use Rattle.std.specs.Prelude.{◌≡◌, ℕ, zero, suc, Bool, true, false, not, List, [], ◌∷◌, ◌++◌, slice_get, Option, None, Some, is_some, is_none, All, refl}
use Rattle.std.proofs.Common.{sym, ap, subst, ◌∙◌, cond}
use Rattle.std.specs.List.{IsDistinct, AllByRecursion}
use Rattle.std.proofs.lemmas.Option.{same_Some}
use Rattle.std.proofs.lemmas.List.Elements.{All-head, All-tail}
use Rattle.vault_state.specs.declared.ids.ClaimId.{ClaimId}
use Rattle.vault_state.specs.Claims.{same_id}
use Rattle.vault_state.proofs.Stays.{same_id_itself}
use Rattle.lock_modes.specs.declared.mode.Mode.{Mode}
use Rattle.lock_table.specs.declared.entry.Entry.{Entry}
use Rattle.lock_table.specs.Locks.{mode_at}
use Rattle.lock_table.specs.Tables.{entry_of, entries_without}
use Rattle.lock_queue.specs.Queue.{requests_without, restood, by_lock}
use Rattle.lock_table.specs.Queues.{request_of, requests_by, held_by}
use Rattle.lock_table.proofs.Leaving.{is_id, kept_by}
use Rattle.lock_table.proofs.Removals.{ids}
use Rattle.lock_queue.proofs.Groups.{restood_none, without_none}
use Rattle.lock_table.proofs.Others.{no_mode, rest_apart}

-- the requests of a table
pub requests_same : (f g : Entry → Bool) (es : List Entry) (p : ℕ) → All (λ (e : Entry). f e ≡ g e) es → requests_by f es p ≡ requests_by g es p
requests_same f g [] p all = refl
requests_same f g (e ∷ es) p all =
    ap (λ b. request_of b e.id (mode_at e.locks p) ++ requests_by f es p) (All-head (λ (x : Entry). f x ≡ g x) e es all)
    ∙ ap (λ xs. request_of (g e) e.id (mode_at e.locks p) ++ xs) (requests_same f g es p (All-tail (λ (x : Entry). f x ≡ g x) e es all))

apart_same : (held : Entry → Bool) (id : ClaimId) (b : Bool) (es : List Entry) (p : ℕ) → AllByRecursion (λ k. same_id k id ≡ false) (ids es) → requests_by (held_by held id b) es p ≡ requests_by held es p
apart_same held id b [] p all = refl
apart_same held id b (e ∷ es) p all = rw all.0 (ap (λ xs. request_of (held e) e.id (mode_at e.locks p) ++ xs) (apart_same held id b es p all.1))

pub restood_by : (id : ClaimId) (held : Entry → Bool) (b : Bool) (es : List Entry) (p : ℕ) → IsDistinct same_id (ids es) → restood id b (requests_by held es p) ≡ requests_by (held_by held id b) es p
unfolding IsDistinct
restood_by id held b [] p distinct = refl
restood_by id held b (e ∷ es) p distinct = by_tests (mode_at e.locks p) (same_id e.id id) refl (restood_by id held b es p distinct.1)
  where
    by_tests : (o : Option Mode) (c : Bool) → same_id e.id id ≡ c → restood id b (requests_by held es p) ≡ requests_by (held_by held id b) es p
        → restood id b (request_of (held e) e.id o ++ requests_by held es p) ≡ request_of (cond c b (held e)) e.id o ++ requests_by (held_by held id b) es p
    by_tests None c k ih = ih
    by_tests (Some m) true k ih = rw k (ap (λ xs. record { id = e.id; mode = m; is_held = b } ∷ xs) (sym (apart_same held id b es p (rest_apart e es id k distinct.0))))
    by_tests (Some m) false k ih = rw k (ap (λ xs. record { id = e.id; mode = m; is_held = held e } ∷ xs) ih)

-- a claim's requests removed, and with their standing changed, at the places of its locks
pub left_by : (id : ClaimId) (held : Entry → Bool) (es : List Entry) (p : ℕ) (e : Entry) → IsDistinct same_id (ids es) → entry_of es id ≡ Some e
    → by_lock (λ m. requests_without id) (mode_at e.locks p) (requests_by held es p) ≡ requests_by held (entries_without es id) p
left_by id held es p e distinct found = by_mode (mode_at e.locks p) refl
  where
    by_mode : (o : Option Mode) → mode_at e.locks p ≡ o → by_lock (λ m. requests_without id) o (requests_by held es p) ≡ requests_by held (entries_without es id) p
    by_mode None h = sym (without_none id (requests_by held es p) (no_mode id held es p e distinct found h)) ∙ kept_by (is_id id) held es p
    by_mode (Some m) h = kept_by (is_id id) held es p

pub stood_by : (id : ClaimId) (held : Entry → Bool) (b : Bool) (es : List Entry) (p : ℕ) (e : Entry) → IsDistinct same_id (ids es) → entry_of es id ≡ Some e
    → by_lock (λ m. restood id b) (mode_at e.locks p) (requests_by held es p) ≡ requests_by (held_by held id b) es p
stood_by id held b es p e distinct found = by_mode (mode_at e.locks p) refl
  where
    by_mode : (o : Option Mode) → mode_at e.locks p ≡ o → by_lock (λ m. restood id b) o (requests_by held es p) ≡ requests_by (held_by held id b) es p
    by_mode None h = sym (restood_none id b (requests_by held es p) (no_mode id held es p e distinct found h)) ∙ restood_by id held b es p distinct
    by_mode (Some m) h = restood_by id held b es p distinct

-- an entry is found by its own id
entry_id : (P : ClaimId → Type 0) (es : List Entry) (i : ℕ) (e : Entry) → AllByRecursion P (ids es) → slice_get es i ≡ Some e → P e.id
entry_id P [] i e all h = cc
entry_id P (x ∷ es) zero e all h = subst (λ (y : Entry). P y.id) (same_Some x e h) all.0
entry_id P (x ∷ es) (suc i) e all h = entry_id P es i e all.1 h

pub found_own : (es : List Entry) (i : ℕ) (e : Entry) → IsDistinct same_id (ids es) → slice_get es i ≡ Some e → entry_of es e.id ≡ Some e
unfolding IsDistinct
found_own [] i e distinct h = cc
found_own (x ∷ es) zero e distinct h = subst (λ (y : Entry). entry_of (x ∷ es) y.id ≡ Some y) (same_Some x e h) (rw (same_id_itself x.id) refl)
found_own (x ∷ es) (suc i) e distinct h = rw (entry_id (λ k. same_id x.id k ≡ false) es i e distinct.0 h) (found_own es i e distinct.1 h)

-- a claim that stands as before
pub held_kept : (held : Entry → Bool) (b : Bool) (es : List Entry) (i : ℕ) (e : Entry) (p : ℕ) → IsDistinct same_id (ids es) → slice_get es i ≡ Some e → held e ≡ b → requests_by held es p ≡ requests_by (held_by held e.id b) es p
unfolding IsDistinct
held_kept held b [] i e p distinct there h = cc
held_kept held b (x ∷ es) zero e p distinct there h =
    let is : x ≡ e = same_Some x e there in
    let flag : cond (same_id x.id e.id) b (held x) ≡ held x = rw (ap (λ (y : Entry). same_id x.id y.id) (sym is) ∙ same_id_itself x.id) (sym (ap held is ∙ h)) in
    let behind = apart_same held e.id b es p (rest_apart x es e.id (ap (λ (y : Entry). same_id x.id y.id) (sym is) ∙ same_id_itself x.id) distinct.0) in
    ap (λ c. request_of c x.id (mode_at x.locks p) ++ requests_by held es p) (sym flag) ∙ ap (λ xs. request_of (held_by held e.id b x) x.id (mode_at x.locks p) ++ xs) (sym behind)
held_kept held b (x ∷ es) (suc i) e p distinct there h =
    let apart = entry_id (λ k. same_id x.id k ≡ false) es i e distinct.0 there in
    let flag : cond (same_id x.id e.id) b (held x) ≡ held x = rw apart refl in
    ap (λ c. request_of c x.id (mode_at x.locks p) ++ requests_by held es p) (sym flag) ∙ ap (λ xs. request_of (held_by held e.id b x) x.id (mode_at x.locks p) ++ xs) (held_kept held b es i e p distinct.1 there h)

-- what std says of is_none
pub none_flag : {T : Type 0} (o : Option T) (b : Bool) → is_some o ≡ not b → b ≡ is_none o
none_flag o true e = ap not (sym e)
none_flag o false e = ap not (sym e)
