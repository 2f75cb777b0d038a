-- Claims weighed again, one after another.
use Rattle.std.specs.Prelude.{◌≡◌, ℕ, zero, suc, ◌+◌, ◌<◌, ◌≤◌, Bool, true, false, List, [], ◌∷◌, ◌++◌, length, map, take, drop, set, slice_get, Option, Some, is_none, All, refl}
use Rattle.std.proofs.Common.{sym, ap, subst, ◌∙◌, cond, arith, get_or}
use Rattle.std.specs.List.{IsDistinct, AllByRecursion}
use Rattle.std.proofs.lemmas.List.{take-append-drop, take_more, take_all}
use Rattle.std.proofs.lemmas.List.Elements.{All-nil, All-cons, All-head, All-tail}
use Rattle.std.proofs.lemmas.Option.{same_Some}
use Rattle.vault_state.specs.declared.ids.ClaimId.{ClaimId}
use Rattle.vault_state.specs.Claims.{same_id}
use Rattle.vault_state.proofs.Stays.{same_id_itself}
use Rattle.lock_table.specs.declared.entry.Entry.{Entry}
use Rattle.lock_table.specs.declared.again.Again.{Again}
use Rattle.lock_table.specs.Tables.{first_in_way, entries_before, is_held_in}
use Rattle.lock_queue.specs.Queue.{QueueSeen}
use Rattle.lock_table.specs.Queues.{AreStale, IsWeighing, requests_at, requests_by, queue_of, held_by, blocker_at, blockers_of, is_taken}
use Rattle.lock_table.proofs.Positions.{drop_is}
use Rattle.lock_table.proofs.Removals.{ids}
use Rattle.lock_table.proofs.Others.{rest_apart}
use Rattle.lock_table.proofs.Queuing.{mapped_at}
use Rattle.lock_table.proofs.Requests.{requests_same}
use Rattle.lock_table.proofs.Weighing.{all_push, in_front}

pub all_of : {T : Type 0} (P : T → Type 0) → ((x : T) → P x) → (xs : List T) → All P xs
all_of P f [] = All-nil P
all_of P f (x ∷ xs) = All-cons P x xs (f x) (all_of P f xs)

pub all_map : {T : Type 0} (P Q : T → Type 0) → ((x : T) → P x → Q x) → (xs : List T) → All P xs → All Q xs
all_map P Q f [] all = All-nil Q
all_map P Q f (x ∷ xs) all = All-cons Q x xs (f x (All-head P x xs all)) (all_map P Q f xs (All-tail P x xs all))

pub all_both : {T : Type 0} (P Q R : T → Type 0) → ((x : T) → P x → Q x → R x) → (xs : List T) → All P xs → All Q xs → All R xs
all_both P Q R f [] ps qs = All-nil R
all_both P Q R f (x ∷ xs) ps qs = All-cons R x xs (f x (All-head P x xs ps) (All-head Q x xs qs)) (all_both P Q R f xs (All-tail P x xs ps) (All-tail Q x xs qs))

pub map_same : (f g : Entry → Option ClaimId) (es : List Entry) → All (λ (e : Entry). f e ≡ g e) es → map f es ≡ map g es
map_same f g [] all = refl
map_same f g (e ∷ es) all =
    ap (λ y. y ∷ map f es) (All-head (λ (x : Entry). f x ≡ g x) e es all) ∙ ap (λ ys. g e ∷ ys) (map_same f g es (All-tail (λ (x : Entry). f x ≡ g x) e es all))

pub weigh_start : (again : Again) (table : List Entry) (blockers : List (Option ClaimId)) (queues : List QueueSeen) → AreStale again table blockers queues → IsWeighing again table blockers queues 0
weigh_start again table blockers queues stale = record {
  old = stale.old;
  were = stale.were;
  requests = stale.requests;
  done = All-nil (λ (e : Entry). stale.old e ≡ blocker_at table e);
  left = stale.right;
}

module _ (again : Again) (table : List Entry) (blockers : List (Option ClaimId)) (queues : List QueueSeen) (i : ℕ) (weighing : IsWeighing again table blockers queues i) where
  all_done : length table ≤ i → All (λ (e : Entry). weighing.old e ≡ blocker_at table e) table
  all_done h = subst (λ (es : List Entry). All (λ (e : Entry). weighing.old e ≡ blocker_at table e) es) (take_all i table h) weighing.done

  pub done_blockers : length table ≤ i → blockers ≡ blockers_of table
  done_blockers h = weighing.were ∙ map_same weighing.old (blocker_at table) table (all_done h)

  pub done_queues : length table ≤ i → (p : ℕ) → requests_at queues p ≡ queue_of table p
  done_queues h p = weighing.requests p ∙ requests_same (λ (e : Entry). is_none (weighing.old e)) (is_held_in table) table p
      (all_map (λ (e : Entry). weighing.old e ≡ blocker_at table e) (λ (e : Entry). is_none (weighing.old e) ≡ is_held_in table e) (λ e is. ap is_none is) table (all_done h))

apart_front : (before es : List Entry) (e : Entry) → IsDistinct same_id (ids (before ++ e ∷ es)) → All (λ (x : Entry). same_id x.id e.id ≡ false) before
unfolding IsDistinct
apart_front [] es e distinct = All-nil (λ (x : Entry). same_id x.id e.id ≡ false)
apart_front (b ∷ before) es e distinct = All-cons (λ (x : Entry). same_id x.id e.id ≡ false) b before (last before distinct.0) (apart_front before es e distinct.1)
  where
    last : (xs : List Entry) → AllByRecursion (λ k. same_id b.id k ≡ false) (ids (xs ++ e ∷ es)) → same_id b.id e.id ≡ false
    last [] all = all.0
    last (x ∷ xs) all = last xs all.1

pub listed : (P : ClaimId → Type 0) (es : List Entry) → AllByRecursion P (ids es) → All (λ (x : Entry). P x.id) es
listed P [] all = All-nil (λ (x : Entry). P x.id)
listed P (x ∷ es) all = All-cons (λ (y : Entry). P y.id) x es all.0 (listed P es all.1)

apart_behind : (before es : List Entry) (e : Entry) → IsDistinct same_id (ids (before ++ e ∷ es)) → All (λ (x : Entry). same_id x.id e.id ≡ false) es
unfolding IsDistinct
apart_behind [] es e distinct = listed (λ k. same_id k e.id ≡ false) es (rest_apart e es e.id (same_id_itself e.id) distinct.0)
apart_behind (b ∷ before) es e distinct = apart_behind before es e distinct.1

-- another blocker for one claim
abbrev pub now_waits : (Entry → Option ClaimId) → ClaimId → Option ClaimId → Entry → Option ClaimId
now_waits old id b x = cond (same_id x.id id) b (old x)

set_front : (old : Entry → Option ClaimId) (before es : List Entry) (e : Entry) (b : Option ClaimId) → All (λ (x : Entry). same_id x.id e.id ≡ false) before → All (λ (x : Entry). same_id x.id e.id ≡ false) es
    → set (map old (before ++ e ∷ es)) (length before) b ≡ map (now_waits old e.id b) (before ++ e ∷ es)
set_front old [] es e b front behind = rw (same_id_itself e.id) (ap (λ ys. b ∷ ys) (map_same old (now_waits old e.id b) es (all_map (λ (x : Entry). same_id x.id e.id ≡ false) (λ (x : Entry). old x ≡ now_waits old e.id b x) (λ x h. rw h refl) es behind)))
set_front old (x ∷ before) es e b front behind =
    rw (All-head (λ (x : Entry). same_id x.id e.id ≡ false) x before front)
    (ap (λ ys. old x ∷ ys) (set_front old before es e b (All-tail (λ (x : Entry). same_id x.id e.id ≡ false) x before front) behind))

module _ (again : Again) (table : List Entry) (blockers : List (Option ClaimId)) (queues : List QueueSeen) (i : ℕ) (e : Entry) (distinct : IsDistinct same_id (ids table)) (inside : i < length table) (is : e ≡ get_or table i e)
    (weighing : IsWeighing again table blockers queues i) where
  pub rest_is : drop i table ≡ e ∷ drop (i + 1) table
  rest_is = drop_is table i e inside is

  pub whole_is : table ≡ take i table ++ e ∷ drop (i + 1) table
  whole_is = sym (ap (λ xs. take i table ++ xs) (sym rest_is) ∙ take-append-drop i table)

  next_is : take (i + 1) table ≡ take i table ++ e ∷ []
  next_is = take_more table i e inside ∙ ap (λ x. take i table ++ x ∷ []) (sym is)

  front : All (λ (x : Entry). same_id x.id e.id ≡ false) (take i table)
  front = apart_front (take i table) (drop (i + 1) table) e (subst (λ (xs : List Entry). IsDistinct same_id (ids xs)) whole_is distinct)

  behind : All (λ (x : Entry). same_id x.id e.id ≡ false) (drop (i + 1) table)
  behind = apart_behind (take i table) (drop (i + 1) table) e (subst (λ (xs : List Entry). IsDistinct same_id (ids xs)) whole_is distinct)

  pub way_is : first_in_way (take i table) e.locks ≡ blocker_at table e
  way_is = ap (λ (xs : List Entry). first_in_way xs e.locks)
      (sym (ap (λ (xs : List Entry). entries_before xs e.id) whole_is ∙ in_front (take i table) (drop (i + 1) table) e (subst (λ (xs : List Entry). IsDistinct same_id (ids xs)) whole_is distinct)))

  pub entry_there : slice_get table i ≡ Some e
  entry_there = at table i inside is
    where
      at : (xs : List Entry) (k : ℕ) → k < length xs → e ≡ get_or xs k e → slice_get xs k ≡ Some e
      at [] k h g = absurd (omega (arith, h))
      at (x ∷ xs) zero h g = ap Some (sym g)
      at (x ∷ xs) (suc k) h g = at xs k (omega (arith, h)) g

  pub beside : slice_get blockers i ≡ Some (weighing.old e)
  beside = ap (λ xs. slice_get xs i) weighing.were ∙ mapped_at weighing.old table i e entry_there

  pub keep_step : (b : Option ClaimId) → slice_get blockers i ≡ Some b → is_taken again b ≡ false → IsWeighing again table blockers queues (i + 1)
  keep_step b there kept = record {
    old = weighing.old;
    were = weighing.were;
    requests = weighing.requests;
    done = subst (λ (xs : List Entry). All (λ (x : Entry). weighing.old x ≡ blocker_at table x) xs) (sym next_is)
        (all_push (λ (x : Entry). weighing.old x ≡ blocker_at table x) (take i table) e weighing.done here);
    left = All-tail (λ (x : Entry). is_taken again (weighing.old x) ≡ false → weighing.old x ≡ blocker_at table x) e (drop (i + 1) table) rest;
  }
    where
      rest : All (λ (x : Entry). is_taken again (weighing.old x) ≡ false → weighing.old x ≡ blocker_at table x) (e ∷ drop (i + 1) table)
      rest = subst (λ (xs : List Entry). All (λ (x : Entry). is_taken again (weighing.old x) ≡ false → weighing.old x ≡ blocker_at table x) xs) rest_is weighing.left

      same : weighing.old e ≡ b
      same = same_Some (weighing.old e) b (sym beside ∙ there)

      here : weighing.old e ≡ blocker_at table e
      here = All-head (λ (x : Entry). is_taken again (weighing.old x) ≡ false → weighing.old x ≡ blocker_at table x) e (drop (i + 1) table) rest (ap (is_taken again) same ∙ kept)

  pub take_step : (blockers' : List (Option ClaimId)) (queues' : List QueueSeen) → blockers' ≡ set blockers i (first_in_way (take i table) e.locks)
      → ((p : ℕ) → requests_at queues' p ≡ requests_by (held_by (λ (x : Entry). is_none (weighing.old x)) e.id (is_none (first_in_way (take i table) e.locks))) table p) → IsWeighing again table blockers' queues' (i + 1)
  take_step blockers' queues' changed stood = record {
    old = now;
    were = changed ∙ (ap (λ b. set blockers i b) way_is ∙ (ap (λ xs. set xs i (blocker_at table e)) weighing.were ∙ placed));
    requests = λ p. stood p ∙ requests_same (held_by (λ (x : Entry). is_none (weighing.old x)) e.id (is_none (first_in_way (take i table) e.locks))) (λ (x : Entry). is_none (now x)) table p
        (all_of (λ (x : Entry). held_by (λ (y : Entry). is_none (weighing.old y)) e.id (is_none (first_in_way (take i table) e.locks)) x ≡ is_none (now x)) (λ x. held_now (same_id x.id e.id) x) table);
    done = subst (λ (xs : List Entry). All (λ (x : Entry). now x ≡ blocker_at table x) xs) (sym next_is)
        (all_push (λ (x : Entry). now x ≡ blocker_at table x) (take i table) e
        (all_both (λ (x : Entry). weighing.old x ≡ blocker_at table x) (λ (x : Entry). same_id x.id e.id ≡ false) (λ (x : Entry). now x ≡ blocker_at table x) (λ x was h. rw h was) (take i table) weighing.done front) (rw (same_id_itself e.id) refl));
    left = all_both (λ (x : Entry). is_taken again (weighing.old x) ≡ false → weighing.old x ≡ blocker_at table x) (λ (x : Entry). same_id x.id e.id ≡ false) (λ (x : Entry). is_taken again (now x) ≡ false → now x ≡ blocker_at table x) (λ x was h. rw h was) (drop (i + 1) table)
        (All-tail (λ (x : Entry). is_taken again (weighing.old x) ≡ false → weighing.old x ≡ blocker_at table x) e (drop (i + 1) table) rest) behind;
  }
    where
      now : Entry → Option ClaimId
      now x = now_waits weighing.old e.id (blocker_at table e) x

      rest : All (λ (x : Entry). is_taken again (weighing.old x) ≡ false → weighing.old x ≡ blocker_at table x) (e ∷ drop (i + 1) table)
      rest = subst (λ (xs : List Entry). All (λ (x : Entry). is_taken again (weighing.old x) ≡ false → weighing.old x ≡ blocker_at table x) xs) rest_is weighing.left

      taken : (k : ℕ) (xs : List Entry) → k < length xs → length (take k xs) ≡ k
      taken zero xs h = refl
      taken (suc k) [] h = absurd (omega (arith, h))
      taken (suc k) (x ∷ xs) h = ap suc (taken k xs (omega (arith, h)))

      placed : set (map weighing.old table) i (blocker_at table e) ≡ map now table
      placed = subst (λ (xs : List Entry). set (map weighing.old xs) i (blocker_at table e) ≡ map now xs) (sym whole_is)
          (subst (λ k. set (map weighing.old (take i table ++ e ∷ drop (i + 1) table)) k (blocker_at table e) ≡ map now (take i table ++ e ∷ drop (i + 1) table)) (taken i table inside)
          (set_front weighing.old (take i table) (drop (i + 1) table) e (blocker_at table e) front behind))

      held_now : (c : Bool) (x : Entry) → cond c (is_none (first_in_way (take i table) e.locks)) (is_none (weighing.old x)) ≡ is_none (cond c (blocker_at table e) (weighing.old x))
      held_now true x = ap is_none way_is
      held_now false x = refl

-- an entry at a position
pub record HasEntry (table : List Entry) (i : ℕ) : Type 0 where
  pub entry : Entry
  pub is : entry ≡ get_or table i entry

pub entry_at : (table : List Entry) (i : ℕ) → i < length table → HasEntry table i
entry_at [] i h = absurd (omega (arith, h))
entry_at (x ∷ xs) zero h = record { entry = x; is = refl }
entry_at (x ∷ xs) (suc i) h = let rest = entry_at xs i (omega (arith, h)) in record { entry = rest.entry; is = rest.is }
