-- The requests of one claim, and those of the others.
use Rattle.std.specs.Prelude.{◌≡◌, ℕ, Bool, true, false, not, List, [], ◌∷◌, ◌++◌, position, slice_get, Option, None, Some, is_none, refl}
use Rattle.std.proofs.Common.{sym, ap, subst, ◌∙◌, cond}
use Rattle.std.specs.List.{IsDistinct, AllByRecursion}
use Rattle.std.specs.Option.{option_map}
use Rattle.vault_state.specs.declared.ids.ClaimId.{ClaimId}
use Rattle.vault_state.specs.declared.claims.Standing.TheVariants.{Held}
use Rattle.vault_state.specs.Claims.{same_id, standing_by}
use Rattle.vault_state.proofs.Stays.{same_id_is, same_id_turned}
use Rattle.std.proofs.lemmas.Option.{same_Some}
use Rattle.lock_modes.specs.declared.mode.Mode.{Mode}
use Rattle.lock_modes.specs.Groups.{Counts, with_one, group_of}
use Rattle.lock_queue.specs.declared.queue.Request.{Request}
use Rattle.lock_table.specs.declared.entry.Entry.{Entry}
use Rattle.lock_table.specs.Locks.{mode_at}
use Rattle.lock_table.specs.Tables.{IsTable, first_in_way, entry_of, entries_before, is_held_in, standing_in}
use Rattle.lock_queue.specs.Queue.{QueueSeen, request_modes, held_requests, with_own, IsOwn, HasRequest, requests_without}
use Rattle.lock_table.specs.Queues.{AreQueues, requests_at, request_of, requests_by}
use Rattle.lock_table.proofs.Removals.{ids, is_its}
use Rattle.lock_table.proofs.Queuing.{located, own_id}
use Rattle.lock_queue.proofs.Counts.{with_one_swap}
use Rattle.lock_queue.proofs.Groups.{NoRequest, without_none}

turned_ids : (id : ClaimId) (xs : List ClaimId) → AllByRecursion (λ k. same_id id k ≡ false) xs → AllByRecursion (λ k. same_id k id ≡ false) xs
turned_ids id [] all = tt
turned_ids id (x ∷ xs) all = (same_id_turned id x all.0, turned_ids id xs all.1)

-- the other claims' requests
pub none_requested : (id : ClaimId) (held : Entry → Bool) (es : List Entry) (p : ℕ) → AllByRecursion (λ k. same_id k id ≡ false) (ids es) → NoRequest id (requests_by held es p)
none_requested id held [] p all = tt
none_requested id held (x ∷ es) p all = by_mode (mode_at x.locks p) (none_requested id held es p all.1)
  where
    by_mode : (o : Option Mode) → NoRequest id (requests_by held es p) → NoRequest id (request_of (held x) x.id o ++ requests_by held es p)
    by_mode None ih = ih
    by_mode (Some m) ih = (all.0, ih)

pub rest_apart : (x : Entry) (es : List Entry) (id : ClaimId) → same_id x.id id ≡ true → AllByRecursion (λ k. same_id x.id k ≡ false) (ids es) → AllByRecursion (λ k. same_id k id ≡ false) (ids es)
rest_apart x es id same all = turned_ids id (ids es) (subst (λ k. AllByRecursion (λ y. same_id k y ≡ false) (ids es)) (same_id_is x.id id same) all)

-- a claim that has no mode at a place has no request there
pub no_mode : (id : ClaimId) (held : Entry → Bool) (es : List Entry) (p : ℕ) (e : Entry) → IsDistinct same_id (ids es) → entry_of es id ≡ Some e → mode_at e.locks p ≡ None → NoRequest id (requests_by held es p)
unfolding IsDistinct
no_mode id held [] p e distinct found h = cc
no_mode id held (x ∷ es) p e distinct found h = by_id (same_id x.id id) refl found (λ k. no_mode id held es p e distinct.1 k h)
  where
    by_id : (b : Bool) → same_id x.id id ≡ b → cond b (Some x) (entry_of es id) ≡ Some e → (entry_of es id ≡ Some e → NoRequest id (requests_by held es p)) → NoRequest id (request_of (held x) x.id (mode_at x.locks p) ++ requests_by held es p)
    by_id true same k ih =
        let none : mode_at x.locks p ≡ None = subst (λ (y : Entry). mode_at y.locks p ≡ None) (sym (same_Some x e k)) h in
        rw none (none_requested id held es p (rest_apart x es id same distinct.0))
    by_id false other k ih = by_mode (mode_at x.locks p) (ih k)
      where
        by_mode : (o : Option Mode) → NoRequest id (requests_by held es p) → NoRequest id (request_of (held x) x.id o ++ requests_by held es p)
        by_mode None ih = ih
        by_mode (Some m) ih = (other, ih)

over : (o : Option Mode) (m : Mode) (g : Counts) → with_one (with_own o g) m ≡ with_own o (with_one g m)
over None m g = refl
over (Some k) m g = with_one_swap g k m

-- a claim's own request, in the requests of its table
pub has_request : (id : ClaimId) (held : Entry → Bool) (es : List Entry) (p : ℕ) (e : Entry) (m : Mode) → IsDistinct same_id (ids es) → entry_of es id ≡ Some e → mode_at e.locks p ≡ Some m → HasRequest id m (held e) (requests_by held es p)
unfolding IsDistinct
has_request id held [] p e m distinct found h = cc
has_request id held (x ∷ es) p e m distinct found h = by_id (same_id x.id id) refl found (λ k. has_request id held es p e m distinct.1 k h)
  where
    rest : List Request
    rest = requests_by held es p

    its : same_id x.id id ≡ true → HasRequest id m (held x) (record { id = x.id; mode = m; is_held = held x } ∷ rest)
    its same = record {
      all = ap (λ xs. with_one (group_of (request_modes xs)) m) (sym out);
      held_ones = by_held (held x) ∙ ap (λ xs. with_own (cond (held x) (Some m) None) (group_of (request_modes (held_requests xs)))) (sym out);
    }
      where
        out : requests_without id (record { id = x.id; mode = m; is_held = held x } ∷ rest) ≡ rest
        out = rw same (without_none id rest (none_requested id held es p (rest_apart x es id same distinct.0)))

        by_held : (b : Bool) → group_of (request_modes (held_requests (record { id = x.id; mode = m; is_held = b } ∷ rest))) ≡ with_own (cond b (Some m) None) (group_of (request_modes (held_requests rest)))
        by_held true = refl
        by_held false = refl

    other : same_id x.id id ≡ false → (o : Option Mode) → HasRequest id m (held e) rest → HasRequest id m (held e) (request_of (held x) x.id o ++ rest)
    other apart None ih = ih
    other apart (Some k) ih = record {
      all = ap (λ g. with_one g k) ih.all ∙ (with_one_swap (group_of (request_modes (requests_without id rest))) m k ∙ ap (λ xs. with_one (group_of (request_modes xs)) m) (sym out));
      held_ones = by_held (held x) ∙ ap (λ xs. with_own (cond (held e) (Some m) None) (group_of (request_modes (held_requests xs)))) (sym out);
    }
      where
        out : requests_without id (record { id = x.id; mode = k; is_held = held x } ∷ rest) ≡ record { id = x.id; mode = k; is_held = held x } ∷ requests_without id rest
        out = rw apart refl

        by_held : (b : Bool) → group_of (request_modes (held_requests (record { id = x.id; mode = k; is_held = b } ∷ rest)))
            ≡ with_own (cond (held e) (Some m) None) (group_of (request_modes (held_requests (record { id = x.id; mode = k; is_held = b } ∷ requests_without id rest))))
        by_held true = ap (λ g. with_one g k) ih.held_ones ∙ over (cond (held e) (Some m) None) k (group_of (request_modes (held_requests (requests_without id rest))))
        by_held false = ih.held_ones

    by_id : (b : Bool) → same_id x.id id ≡ b → cond b (Some x) (entry_of es id) ≡ Some e → (entry_of es id ≡ Some e → HasRequest id m (held e) rest) → HasRequest id m (held e) (request_of (held x) x.id (mode_at x.locks p) ++ rest)
    by_id true same k ih =
        let is : x ≡ e = same_Some x e k in
        let mine : mode_at x.locks p ≡ Some m = subst (λ (y : Entry). mode_at y.locks p ≡ Some m) (sym is) h in
        subst (λ o. HasRequest id m (held e) (request_of (held x) x.id o ++ rest)) (sym mine) (subst (λ (y : Entry). HasRequest id m (held y) (record { id = x.id; mode = m; is_held = held x } ∷ rest)) is (its same))
    by_id false apart k ih = other apart (mode_at x.locks p) (ih k)

held_swap : (id : ClaimId) (requests : List Request) → held_requests (requests_without id requests) ≡ requests_without id (held_requests requests)
held_swap id [] = refl
held_swap id (s ∷ requests) = by_tests (same_id s.id id) refl s.is_held refl (held_swap id requests)
  where
    by_tests : (b : Bool) → same_id s.id id ≡ b → (h : Bool) → s.is_held ≡ h → held_requests (requests_without id requests) ≡ requests_without id (held_requests requests)
        → held_requests (cond (not b) (s ∷ requests_without id requests) (requests_without id requests)) ≡ requests_without id (cond h (s ∷ held_requests requests) (held_requests requests))
    by_tests true e true k ih = ih ∙ sym (ap (λ c. cond (not c) (s ∷ requests_without id (held_requests requests)) (requests_without id (held_requests requests))) e)
    by_tests true e false k ih = ih
    by_tests false e true k ih =
        ap (λ c. cond c (s ∷ held_requests (requests_without id requests)) (held_requests (requests_without id requests))) k
        ∙ (ap (λ xs. s ∷ xs) ih ∙ sym (ap (λ c. cond (not c) (s ∷ requests_without id (held_requests requests)) (requests_without id (held_requests requests))) e))
    by_tests false e false k ih = ap (λ c. cond c (s ∷ held_requests (requests_without id requests)) (held_requests (requests_without id requests))) k ∙ ih

-- a held claim's own mode at a place is that of its entry
own_mode : (id : ClaimId) (held : Entry → Bool) (es : List Entry) (p : ℕ) (e : Entry) → IsDistinct same_id (ids es) → entry_of es id ≡ Some e → held e ≡ true → IsOwn id (mode_at e.locks p) (requests_by held es p)
own_mode id held es p e distinct found h = by_mode (mode_at e.locks p) refl
  where
    requests : List Request
    requests = requests_by held es p

    by_mode : (o : Option Mode) → mode_at e.locks p ≡ o → IsOwn id o requests
    by_mode None k = ap (λ xs. group_of (request_modes (held_requests xs))) (sym (without_none id requests (no_mode id held es p e distinct found k))) ∙ ap (λ xs. group_of (request_modes xs)) (held_swap id requests)
    by_mode (Some m) k =
        let mine = has_request id held es p e m distinct found k in
        mine.held_ones ∙ (ap (λ b. with_own (cond b (Some m) None) (group_of (request_modes (held_requests (requests_without id requests))))) h ∙ ap (λ xs. with_one (group_of (request_modes xs)) m) (held_swap id requests))

held_some : (table : List Entry) (id : ClaimId) (e : Entry) → entry_of table id ≡ Some e → standing_in table id ≡ Some Held → is_none (first_in_way (entries_before table id) e.locks) ≡ true
held_some table id e found held = by_way (first_in_way (entries_before table id) e.locks) (sym (ap (option_map (λ (x : Entry). standing_by (first_in_way (entries_before table id) x.locks))) found) ∙ held)
  where
    by_way : (o : Option ClaimId) → Some (standing_by o) ≡ Some Held → is_none o ≡ true
    by_way None k = refl
    by_way (Some other) k = cc

-- a held claim's own mode at each place, in the queues of its table
pub own_law : (table : List Entry) (queues : List QueueSeen) (id : ClaimId) (i : ℕ) (e : Entry) → IsTable table → AreQueues table queues → position (is_its id) table ≡ Some i → slice_get table i ≡ Some e → standing_in table id ≡ Some Held
    → (p : ℕ) → IsOwn id (mode_at e.locks p) (requests_at queues p)
own_law table queues id i e kept are_queues at there held p =
    let here = located table id i at in
    let same : here.entry ≡ e = same_Some here.entry e (sym here.there ∙ there) in
    let found : entry_of table id ≡ Some e = here.found ∙ ap Some same in
    let own : e.id ≡ id = own_id table id e found in
    let is : is_held_in table e ≡ true = ap (λ k. is_none (first_in_way (entries_before table k) e.locks)) own ∙ held_some table id e found held in
    subst (λ (xs : List Request). IsOwn id (mode_at e.locks p) xs) (sym (are_queues.requests p)) (own_mode id (is_held_in table) table p e kept.distinct found is)
