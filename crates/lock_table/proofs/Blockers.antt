-- What claims wait for, before and after a claim leaves the line or moves to its front.
use Rattle.std.specs.Prelude.{◌≡◌, ℕ, zero, suc, Bool, true, false, List, [], ◌∷◌, map, find, take, drop, position, slice_get, Option, None, Some, is_some, All, refl}
use Rattle.std.proofs.Common.{sym, ap, subst, ◌∙◌, cond}
use Rattle.std.specs.List.{position_or_len, remove, IsDistinct}
use Rattle.std.specs.Option.{option_map}
use Rattle.std.proofs.lemmas.List.Elements.{All-nil, All-cons, All-head, All-tail}
use Rattle.vault_state.specs.declared.ids.ClaimId.{ClaimId}
use Rattle.vault_state.specs.Claims.{same_id}
use Rattle.vault_state.proofs.Stays.{same_id_itself}
use Rattle.lock_modes.specs.declared.mode.Mode.{Mode}
use Rattle.lock_modes.specs.Modes.{incompatible}
use Rattle.lock_modes.proofs.Joins.{incompatible_symmetric}
use Rattle.lock_table.specs.declared.locks.Lock.{Lock}
use Rattle.lock_table.specs.declared.entry.Entry.{Entry}
use Rattle.lock_table.specs.declared.again.Again.TheVariants.{Behind}
use Rattle.lock_table.specs.Locks.{mode_at, AreApart, conflict}
use Rattle.lock_table.specs.Tables.{entry_of, entries_before, entries_without, is_held_in}
use Rattle.lock_queue.specs.Queue.{QueueSeen}
use Rattle.lock_table.specs.Queues.{IsWeighing, requests_at, requests_by, blocker_at, blockers_of, is_taken}
use Rattle.lock_table.proofs.Leaving.{is_id, before_its, before_other, still_waits, all_stay}
use Rattle.lock_table.proofs.LockConflicts.{lock_from, lock_to}
use Rattle.std.proofs.lemmas.Option.{same_Some}
use Rattle.lock_table.proofs.Removals.{ids, is_its, own_index, remove_first, none_its}
use Rattle.lock_table.proofs.Queuing.{located, not_located, own_id}
use Rattle.lock_table.proofs.Stale.{all_map, all_both}

-- conflict is the same both ways
conflict_from : (xs ys : List Lock) → AreApart xs → conflict xs ys ≡ true → conflict ys xs ≡ true
conflict_from xs ys apart e =
    let found = lock_from (λ p m. incompatible (Some m) (mode_at ys p)) xs apart e in
    by_mode found.place found.mode found.here (mode_at ys found.place) refl found.passes
  where
    by_mode : (p : ℕ) (m : Mode) → mode_at xs p ≡ Some m → (o : Option Mode) → mode_at ys p ≡ o → incompatible (Some m) (mode_at ys p) ≡ true → conflict ys xs ≡ true
    by_mode p m here None h k = let none : incompatible (Some m) None ≡ true = rw h at k in cc
    by_mode p m here (Some n) h k =
        let clash : incompatible (Some m) (Some n) ≡ true = rw h at k in
        lock_to (λ q l. incompatible (Some l) (mode_at xs q)) ys p n h (ap (incompatible (Some n)) here ∙ (incompatible_symmetric (Some n) (Some m) ∙ clash))

pub conflict_none : (xs ys : List Lock) → AreApart ys → conflict xs ys ≡ false → conflict ys xs ≡ false
conflict_none xs ys apart e = by_test (conflict ys xs) refl
  where
    by_test : (b : Bool) → conflict ys xs ≡ b → b ≡ false
    by_test true h = let back = conflict_from ys xs apart h in cc
    by_test false h = refl

pub none_passes : (t : Entry → Bool) (es : List Entry) → option_map (λ (e : Entry). e.id) (find t es) ≡ None → All (λ (e : Entry). t e ≡ false) es
none_passes t [] h = All-nil (λ (e : Entry). t e ≡ false)
none_passes t (x ∷ es) h = by_test (t x) refl h (none_passes t es)
  where
    by_test : (b : Bool) → t x ≡ b → option_map (λ (e : Entry). e.id) (cond b (Some x) (find t es)) ≡ None → (option_map (λ (e : Entry). e.id) (find t es) ≡ None → All (λ (e : Entry). t e ≡ false) es) → All (λ (e : Entry). t e ≡ false) (x ∷ es)
    by_test true g k ih = cc
    by_test false g k ih = All-cons (λ (e : Entry). t e ≡ false) x es g (ih k)

-- two lists with the same removals and insertions
pub remove_map : (f : Entry → Option ClaimId) (xs : List Entry) (i : ℕ) → remove (map f xs) i ≡ map f (remove xs i)
remove_map f [] zero = refl
remove_map f [] (suc i) = refl
remove_map f (x ∷ xs) zero = refl
remove_map f (x ∷ xs) (suc i) = ap (λ ys. f x ∷ ys) (remove_map f xs i)

-- the requests that a claim leaves, read from a copy of the line
pub leave_law : (table now : List Entry) (queues : List QueueSeen) (id : ClaimId) (i : ℕ) → now ≡ table → position (is_its id) table ≡ Some i
    → ((e : Entry) → slice_get now i ≡ Some e → (p : ℕ) → requests_at queues p ≡ requests_by (is_held_in now) (entries_without now e.id) p) → (p : ℕ) → requests_at queues p ≡ requests_by (is_held_in table) (entries_without table id) p
leave_law table now queues id i same at left p =
    let here = located table id i at in
    let own = own_id table id here.entry here.found in
    let all = subst (λ (t : List Entry). (e : Entry) → slice_get t i ≡ Some e → (q : ℕ) → requests_at queues q ≡ requests_by (is_held_in t) (entries_without t e.id) q) same left in
    all here.entry here.there p ∙ ap (λ k. requests_by (is_held_in table) (entries_without table k) p) own

-- at the index that `position` gives, the claim's entry is removed, and its blocker
pub taken_out : (table : List Entry) (id : ClaimId) (i : ℕ) → IsDistinct same_id (ids table) → position (is_its id) table ≡ Some i → remove table i ≡ entries_without table id
taken_out table id i distinct at =
    let here = located table id i at in
    let there : is_some (entry_of table id) ≡ true = ap is_some here.found in
    let same : position_or_len (is_its id) table ≡ i = same_Some (position_or_len (is_its id) table) i (sym (own_index id table there) ∙ at) in
    subst (λ k. remove table k ≡ entries_without table id) same (remove_first id table distinct there)

pub taken_beside : (table : List Entry) (blockers : List (Option ClaimId)) (id : ClaimId) (i : ℕ) → IsDistinct same_id (ids table) → position (is_its id) table ≡ Some i → blockers ≡ blockers_of table
    → remove blockers i ≡ map (blocker_at table) (entries_without table id)
taken_beside table blockers id i distinct at beside =
    ap (λ (xs : List (Option ClaimId)). remove xs i) beside ∙ (remove_map (blocker_at table) table i ∙ ap (map (blocker_at table)) (taken_out table id i distinct at))

-- nobody before a claim waits for it
abbrev IsFree : ClaimId → List Entry → Entry → Type 0
IsFree id xs e = All (λ (y : Entry). same_id y.id id ≡ false) (entries_before xs e.id)

free_behind : (x : Entry) (xs : List Entry) (id : ClaimId) → same_id x.id id ≡ false → (e : Entry) → IsFree id xs e → IsFree id (x ∷ xs) e
free_behind x xs id h e all = by_test (same_id x.id e.id) refl
  where
    by_test : (b : Bool) → same_id x.id e.id ≡ b → IsFree id (x ∷ xs) e
    by_test true g = subst (λ (ys : List Entry). All (λ (y : Entry). same_id y.id id ≡ false) ys) (sym (before_its x xs e.id g)) (All-nil (λ (y : Entry). same_id y.id id ≡ false))
    by_test false g = subst (λ (ys : List Entry). All (λ (y : Entry). same_id y.id id ≡ false) ys) (sym (before_other x xs e.id g)) (All-cons (λ (y : Entry). same_id y.id id ≡ false) x (entries_before xs e.id) h all)

front_free : (xs : List Entry) (id : ClaimId) → All (IsFree id xs) (entries_before xs id)
front_free [] id = All-nil (IsFree id [])
front_free (x ∷ xs) id = by_test (same_id x.id id) refl (front_free xs id)
  where
    by_test : (b : Bool) → same_id x.id id ≡ b → All (IsFree id xs) (entries_before xs id) → All (IsFree id (x ∷ xs)) (entries_before (x ∷ xs) id)
    by_test true h ih = subst (λ (ys : List Entry). All (IsFree id (x ∷ xs)) ys) (sym (before_its x xs id h)) (All-nil (IsFree id (x ∷ xs)))
    by_test false h ih = subst (λ (ys : List Entry). All (IsFree id (x ∷ xs)) ys) (sym (before_other x xs id h))
        (All-cons (IsFree id (x ∷ xs)) x (entries_before xs id)
        (subst (λ (ys : List Entry). All (λ (y : Entry). same_id y.id id ≡ false) ys) (sym (before_its x xs x.id (same_id_itself x.id))) (All-nil (λ (y : Entry). same_id y.id id ≡ false)))
        (all_map (IsFree id xs) (IsFree id (x ∷ xs)) (free_behind x xs id h) (entries_before xs id) ih))

front_others : (xs : List Entry) (id : ClaimId) → All (λ (e : Entry). same_id e.id id ≡ false) (entries_before xs id)
front_others [] id = All-nil (λ (e : Entry). same_id e.id id ≡ false)
front_others (x ∷ xs) id = by_test (same_id x.id id) refl (front_others xs id)
  where
    by_test : (b : Bool) → same_id x.id id ≡ b → All (λ (e : Entry). same_id e.id id ≡ false) (entries_before xs id) → All (λ (e : Entry). same_id e.id id ≡ false) (entries_before (x ∷ xs) id)
    by_test true h ih = subst (λ (ys : List Entry). All (λ (e : Entry). same_id e.id id ≡ false) ys) (sym (before_its x xs id h)) (All-nil (λ (e : Entry). same_id e.id id ≡ false))
    by_test false h ih = subst (λ (ys : List Entry). All (λ (e : Entry). same_id e.id id ≡ false) ys) (sym (before_other x xs id h)) (All-cons (λ (e : Entry). same_id e.id id ≡ false) x (entries_before xs id) h ih)

free_waits : (t : Entry → Bool) (ys : List Entry) (id : ClaimId) → All (λ (y : Entry). same_id y.id id ≡ false) ys → is_taken (Behind id) (option_map (λ (e : Entry). e.id) (find t ys)) ≡ false
free_waits t [] id all = refl
free_waits t (y ∷ ys) id all = by_test (t y) (free_waits t ys id (All-tail (λ (x : Entry). same_id x.id id ≡ false) y ys all))
  where
    by_test : (b : Bool) → is_taken (Behind id) (option_map (λ (e : Entry). e.id) (find t ys)) ≡ false → is_taken (Behind id) (option_map (λ (e : Entry). e.id) (cond b (Some y) (find t ys))) ≡ false
    by_test true ih = All-head (λ (x : Entry). same_id x.id id ≡ false) y ys all
    by_test false ih = ih

front_stays : (table : List Entry) (id : ClaimId) → All (λ (e : Entry). blocker_at table e ≡ blocker_at (entries_without table id) e) (entries_before table id)
front_stays table id =
    all_both (IsFree id table) (λ (e : Entry). same_id e.id id ≡ false) (λ (e : Entry). blocker_at table e ≡ blocker_at (entries_without table id) e)
    (λ e free other. still_waits (is_id id) table e other (free_waits (λ (x : Entry). conflict e.locks x.locks) (entries_before table e.id) id free)) (entries_before table id) (front_free table id) (front_others table id)

take_removed : (xs : List Entry) (i : ℕ) → take i (remove xs i) ≡ take i xs
take_removed [] zero = refl
take_removed [] (suc i) = refl
take_removed (x ∷ xs) zero = refl
take_removed (x ∷ xs) (suc i) = ap (λ ys. x ∷ ys) (take_removed xs i)

front_is : (table : List Entry) (id : ClaimId) (i : ℕ) → IsDistinct same_id (ids table) → position (is_its id) table ≡ Some i → take i (entries_without table id) ≡ entries_before table id
front_is table id i distinct at =
    let here = located table id i at in
    let there : is_some (entry_of table id) ≡ true = ap is_some here.found in
    let same : position_or_len (is_its id) table ≡ i = same_Some (position_or_len (is_its id) table) i (sym (own_index id table there) ∙ at) in
    ap (take i) (sym (taken_out table id i distinct at)) ∙ (take_removed table i ∙ ap (λ k. take k table) (sym same))

all_behind : (P : Entry → Type 0) (xs : List Entry) (i : ℕ) → All P xs → All P (drop i xs)
all_behind P xs zero all = all
all_behind P [] (suc i) all = All-nil P
all_behind P (x ∷ xs) (suc i) all = all_behind P xs i (All-tail P x xs all)

-- when a claim leaves, those before it and those that didn't wait for it stay right
pub weighing_left : (table : List Entry) (id : ClaimId) (i : ℕ) → IsDistinct same_id (ids table) → position (is_its id) table ≡ Some i → (blockers : List (Option ClaimId)) (queues : List QueueSeen)
    → blockers ≡ map (blocker_at table) (entries_without table id) → ((p : ℕ) → requests_at queues p ≡ requests_by (is_held_in table) (entries_without table id) p) → IsWeighing (Behind id) (entries_without table id) blockers queues i
weighing_left table id i distinct at blockers queues were requests = record {
  old = blocker_at table;
  were = were;
  requests = requests;
  done = subst (λ (xs : List Entry). All (λ (e : Entry). blocker_at table e ≡ blocker_at (entries_without table id) e) xs) (sym (front_is table id i distinct at)) (front_stays table id);
  left = all_behind (λ (e : Entry). is_taken (Behind id) (blocker_at table e) ≡ false → blocker_at table e ≡ blocker_at (entries_without table id) e) (entries_without table id) i
      (all_stay (is_id id) (λ (e : Entry). is_taken (Behind id) (blocker_at table e) ≡ false → blocker_at table e ≡ blocker_at (entries_without table id) e) (λ e h. still_waits (is_id id) table e h) table);
}

-- where a claim isn't there, the line without it is the line
pub none_out : (table : List Entry) (id : ClaimId) → position (is_its id) table ≡ None → entries_without table id ≡ table
none_out table id e = out table (none_its id table (ap is_some (not_located table id e)))
  where
    out : (xs : List Entry) → All (λ (x : Entry). same_id x.id id ≡ false) xs → entries_without xs id ≡ xs
    out [] all = refl
    out (x ∷ xs) all = rw (All-head (λ (y : Entry). same_id y.id id ≡ false) x xs all) (ap (λ (ys : List Entry). x ∷ ys) (out xs (All-tail (λ (y : Entry). same_id y.id id ≡ false) x xs all)))
