-- All short claims taken out together.
use Rattle.std.specs.Prelude.{◌≡◌, ◌≢◌, ◌⊎◌, ℕ, zero, suc, ◌+◌, ◌<◌, ◌≤◌, Bool, true, false, not, List, [], ◌∷◌, length, map, drop, slice_get, Option, Some, All, refl}
use Rattle.std.proofs.Common.{sym, ap, subst, ◌∙◌, cond, arith, inl, inr, eqb}
use Rattle.std.specs.List.{remove}
use Rattle.std.proofs.lemmas.Bool.{cases_lt}
use Rattle.std.proofs.lemmas.Bool.Decides.{eqb_tells}
use Rattle.std.proofs.lemmas.List.Elements.{All-nil, All-cons, All-head, All-tail}
use Rattle.std.proofs.lemmas.Option.{same_Some}
use Rattle.vault_state.specs.declared.ids.ClaimId.{ClaimId}
use Rattle.vault_state.specs.Claims.{is_short}
use Rattle.lock_table.specs.declared.entry.Entry.{Entry}
use Rattle.lock_table.specs.declared.again.Again.TheVariants.{BehindShort}
use Rattle.lock_table.specs.Tables.{is_held_in, long_entries}
use Rattle.lock_queue.specs.Queue.{QueueSeen, long_requests}
use Rattle.lock_table.specs.Queues.{AreStale, requests_at, room_at, queue_of, blocker_at, is_taken}
use Rattle.lock_table.proofs.Putting.{requests_past}
use Rattle.lock_table.proofs.Leaving.{kept_by, still_waits, all_stay}

-- the places so far have only the requests of long claims, and the later ones have what they had
pub record IsEmptying (start queues : List QueueSeen) (i : ℕ) : Type 0 where
  pub done : (p : ℕ) → p < i → requests_at queues p ≡ long_requests (requests_at start p)
  pub left : (p : ℕ) → i ≤ p → requests_at queues p ≡ requests_at start p
  pub room : (p : ℕ) → room_at start p ≤ room_at queues p

pub emptied_next : (start queues new : List QueueSeen) (i : ℕ) → IsEmptying start queues i → requests_at new i ≡ long_requests (requests_at queues i) → ((p : ℕ) → p ≢ i → requests_at new p ≡ requests_at queues p)
    → ((p : ℕ) → room_at queues p ≤ room_at new p) → IsEmptying start new (i + 1)
emptied_next start queues new i so here elsewhere more = record {
  done = λ p h. by_place p h (eqb_tells p i);
  left = λ p h. elsewhere p (λ e. absurd (omega (arith, h, e))) ∙ so.left p (omega (arith, h));
  room = λ p. let before = so.room p in let after = more p in omega (arith, before, after);
}
  where
    by_place : (p : ℕ) → p < i + 1 → ((eqb p i ≡ true) × (p ≡ i)) ⊎ ((eqb p i ≡ false) × (p ≢ i)) → requests_at new p ≡ long_requests (requests_at start p)
    by_place p h (inl same) = subst (λ k. requests_at new k ≡ long_requests (requests_at start k)) (sym same.1) (here ∙ ap long_requests (so.left i (omega arith)))
    by_place p h (inr other) = elsewhere p other.1 ∙ so.done p (let differ = other.1 in omega (arith, h, differ))

pub emptied_all : (start queues : List QueueSeen) (i : ℕ) → IsEmptying start queues i → length start ≤ i → (p : ℕ) → requests_at queues p ≡ long_requests (requests_at start p)
emptied_all start queues i so end p = by_order (cases_lt p i)
  where
    by_order : (p < i) ⊎ (i ≤ p) → requests_at queues p ≡ long_requests (requests_at start p)
    by_order (inl before) = so.done p before
    by_order (inr behind) =
        let none = requests_past start p (omega (arith, end, behind)) in
        so.left p behind ∙ (none ∙ ap long_requests (sym none))

-- when all short claims leave, those that didn't wait for one stay right
pub stale_long : (table : List Entry) (blockers : List (Option ClaimId)) (queues : List QueueSeen) → blockers ≡ map (blocker_at table) (long_entries table)
    → ((p : ℕ) → requests_at queues p ≡ long_requests (queue_of table p)) → AreStale BehindShort (long_entries table) blockers queues
stale_long table blockers queues were requests = record {
  old = blocker_at table;
  were = were;
  requests = λ p. requests p ∙ kept_by is_short (is_held_in table) table p;
  right = all_stay is_short (λ (e : Entry). is_taken BehindShort (blocker_at table e) ≡ false → blocker_at table e ≡ blocker_at (long_entries table) e) (still_waits is_short table) table;
}

-- a list read from its end: no short claim is left behind the position, and its long claims are the old ones
pub record IsThinning (start now : List Entry) (i : ℕ) : Type 0 where
  pub kept : long_entries now ≡ long_entries start
  pub behind : All (λ (e : Entry). is_short e.id ≡ false) (drop i now)
  pub inside : i ≤ length now

pub thin_start : (start : List Entry) → IsThinning start start (length start)
thin_start start = record { kept = refl; behind = none_left start; inside = omega arith }
  where
    none_left : (xs : List Entry) → All (λ (e : Entry). is_short e.id ≡ false) (drop (length xs) xs)
    none_left [] = All-nil (λ (e : Entry). is_short e.id ≡ false)
    none_left (x ∷ xs) = none_left xs

out_kept : (xs : List Entry) (i : ℕ) (e : Entry) → slice_get xs i ≡ Some e → is_short e.id ≡ true → long_entries (remove xs i) ≡ long_entries xs
out_kept [] i e there short = cc
out_kept (x ∷ xs) zero e there short = let same : x ≡ e = same_Some x e there in let here : is_short x.id ≡ true = ap (λ (y : Entry). is_short y.id) same ∙ short in rw here refl
out_kept (x ∷ xs) (suc i) e there short = ap (λ ys. cond (not (is_short x.id)) (x ∷ ys) ys) (out_kept xs i e there short)

out_behind : (xs : List Entry) (i : ℕ) → drop i (remove xs i) ≡ drop (suc i) xs
out_behind [] zero = refl
out_behind [] (suc i) = refl
out_behind (x ∷ xs) zero = refl
out_behind (x ∷ xs) (suc i) = out_behind xs i

out_inside : (xs : List Entry) (i : ℕ) → i < length xs → i ≤ length (remove xs i)
out_inside [] i h = absurd (omega (arith, h))
out_inside (x ∷ xs) zero h = omega arith
out_inside (x ∷ xs) (suc i) h = let ih = out_inside xs i (omega (arith, h)) in omega (arith, ih)

stays_behind : (xs : List Entry) (i : ℕ) (e : Entry) → slice_get xs i ≡ Some e → is_short e.id ≡ false → All (λ (x : Entry). is_short x.id ≡ false) (drop (suc i) xs) → All (λ (x : Entry). is_short x.id ≡ false) (drop i xs)
stays_behind [] i e there long all = cc
stays_behind (x ∷ xs) zero e there long all = let same : x ≡ e = same_Some x e there in All-cons (λ (y : Entry). is_short y.id ≡ false) x xs (ap (λ (y : Entry). is_short y.id) same ∙ long) all
stays_behind (x ∷ xs) (suc i) e there long all = stays_behind xs i e there long all

pub thin_step : (start now new : List Entry) (i : ℕ) (e : Entry) → IsThinning start now (suc i) → slice_get now i ≡ Some e → new ≡ cond (is_short e.id) (remove now i) now → IsThinning start new i
thin_step start now new i e so there is = by_test (is_short e.id) refl is
  where
    by_test : (b : Bool) → is_short e.id ≡ b → new ≡ cond b (remove now i) now → IsThinning start new i
    by_test true h done = subst (λ (xs : List Entry). IsThinning start xs i) (sym done) (record {
      kept = out_kept now i e there h ∙ so.kept;
      behind = subst (λ (xs : List Entry). All (λ (x : Entry). is_short x.id ≡ false) xs) (sym (out_behind now i)) so.behind;
      inside = out_inside now i (omega (arith, so.inside));
    })
    by_test false h done = subst (λ (xs : List Entry). IsThinning start xs i) (sym done) (record {
      kept = so.kept;
      behind = stays_behind now i e there h so.behind;
      inside = omega (arith, so.inside);
    })

pub thin_done : (start now : List Entry) → IsThinning start now 0 → now ≡ long_entries start
thin_done start now so = sym (all_stay now so.behind) ∙ so.kept
  where
    all_stay : (xs : List Entry) → All (λ (e : Entry). is_short e.id ≡ false) xs → long_entries xs ≡ xs
    all_stay [] all = refl
    all_stay (x ∷ xs) all = rw (All-head (λ (e : Entry). is_short e.id ≡ false) x xs all) (ap (λ ys. x ∷ ys) (all_stay xs (All-tail (λ (e : Entry). is_short e.id ≡ false) x xs all)))
