-- Some claims leave the line: what that leaves of entries, requests and what the others wait for.
use Rattle.std.specs.Prelude.{◌≡◌, ℕ, suc, ◌+◌, Bool, true, false, not, List, [], ◌∷◌, ◌++◌, filter, find, Option, None, Some, All, refl}
use Rattle.std.proofs.Common.{sym, ap, ◌∙◌, cond, arith}
use Rattle.std.specs.List.{prefix_len}
use Rattle.std.specs.Option.{option_map}
use Rattle.std.proofs.lemmas.List.Elements.{All-nil, All-cons}
use Rattle.std.proofs.lemmas.List.Sums.{length-filter, count_by-le-length}
use Rattle.vault_state.specs.declared.ids.ClaimId.{ClaimId}
use Rattle.vault_state.specs.Claims.{same_id}
use Rattle.vault_state.proofs.Distinct.{IsDistinct-filter}
use Rattle.vault_state.proofs.Stays.{same_id_is}
use Rattle.lock_modes.specs.declared.mode.Mode.{Mode}
use Rattle.lock_table.specs.declared.entry.Entry.{Entry}
use Rattle.lock_queue.specs.declared.queue.Request.{Request}
use Rattle.lock_table.specs.Locks.{mode_at, conflict}
use Rattle.lock_table.specs.Tables.{IsTable, first_in_way, entries_before}
use Rattle.lock_table.specs.Queues.{requests_by, request_of, blocker_at, waits_for}

-- the entries before one, entry by entry
pub before_its : (x : Entry) (xs : List Entry) (k : ClaimId) → same_id x.id k ≡ true → entries_before (x ∷ xs) k ≡ []
before_its x xs k h = rw h refl

pub before_other : (x : Entry) (xs : List Entry) (k : ClaimId) → same_id x.id k ≡ false → entries_before (x ∷ xs) k ≡ x ∷ entries_before xs k
before_other x xs k h = rw h (let one : 1 + prefix_len (λ (y : Entry). not (same_id y.id k)) xs ≡ suc (prefix_len (λ (y : Entry). not (same_id y.id k)) xs) = omega arith in rw one refl)

-- one claim that leaves
abbrev pub is_id : ClaimId → ClaimId → Bool
is_id id k = same_id k id

module _ (gone : ClaimId → Bool) where
  -- the entries that stay, and their requests
  abbrev pub stay : List Entry → List Entry
  stay es = filter (λ (e : Entry). not (gone e.id)) es

  abbrev pub requests_stay : List Request → List Request
  requests_stay requests = filter (λ (s : Request). not (gone s.id)) requests

  pub table_kept : (table : List Entry) → IsTable table → IsTable (stay table)
  table_kept table kept = record {
    distinct = IsDistinct-filter same_id (λ (x : Entry). x.id) (λ (x : Entry). not (gone x.id)) table kept.distinct;
    few = let same = length-filter (λ (x : Entry). not (gone x.id)) table in let bound = count_by-le-length (λ (x : Entry). not (gone x.id)) table in let few = kept.few in omega arith;
  }

  -- the requests that stay are those of the entries that stay
  pub kept_by : (held : Entry → Bool) (es : List Entry) (p : ℕ) → requests_stay (requests_by held es p) ≡ requests_by held (stay es) p
  kept_by held [] p = refl
  kept_by held (e ∷ es) p = by_tests (mode_at e.locks p) refl (gone e.id) refl (kept_by held es p)
    where
      by_tests : (o : Option Mode) → mode_at e.locks p ≡ o → (b : Bool) → gone e.id ≡ b → requests_stay (requests_by held es p) ≡ requests_by held (stay es) p
          → requests_stay (request_of (held e) e.id o ++ requests_by held es p) ≡ requests_by held (cond (not b) (e ∷ stay es) (stay es)) p
      by_tests None h true k ih = ih
      by_tests None h false k ih = rw h ih
      by_tests (Some m) h true k ih = rw k ih
      by_tests (Some m) h false k ih = rw (h, k) (ap (λ xs. record { id = e.id; mode = m; is_held = held e } ∷ xs) ih)

  -- a claim that has left is before no other
  pub before_kept : (xs : List Entry) (k : ClaimId) → gone k ≡ false → entries_before (stay xs) k ≡ stay (entries_before xs k)
  before_kept [] k stays = refl
  before_kept (x ∷ xs) k stays = by_tests (gone x.id) refl (same_id x.id k) refl (before_kept xs k stays)
    where
      by_tests : (b : Bool) → gone x.id ≡ b → (c : Bool) → same_id x.id k ≡ c → entries_before (stay xs) k ≡ stay (entries_before xs k)
          → entries_before (cond (not b) (x ∷ stay xs) (stay xs)) k ≡ stay (entries_before (x ∷ xs) k)
      by_tests true g true h ih = let same : gone x.id ≡ gone k = ap gone (same_id_is x.id k h) in let clash : true ≡ false = sym g ∙ (same ∙ stays) in absurd (cc)
      by_tests true g false h ih = ih ∙ sym (ap stay (before_other x xs k h) ∙ rw g refl)
      by_tests false g true h ih = before_its x (stay xs) k h ∙ sym (ap stay (before_its x xs k h))
      by_tests false g false h ih = before_other x (stay xs) k h ∙ (ap (λ (ys : List Entry). x ∷ ys) ih ∙ sym (ap stay (before_other x xs k h) ∙ rw g refl))

  -- a claim that doesn't wait for one that has left waits for the same as before
  find_kept : (t : Entry → Bool) (ys : List Entry) → waits_for gone (option_map (λ (e : Entry). e.id) (find t ys)) ≡ false → option_map (λ (e : Entry). e.id) (find t ys) ≡ option_map (λ (e : Entry). e.id) (find t (stay ys))
  find_kept t [] h = refl
  find_kept t (y ∷ ys) h = by_tests (gone y.id) refl (t y) refl h (find_kept t ys)
    where
      by_tests : (b : Bool) → gone y.id ≡ b → (c : Bool) → t y ≡ c → waits_for gone (option_map (λ (e : Entry). e.id) (cond c (Some y) (find t ys))) ≡ false
          → (waits_for gone (option_map (λ (e : Entry). e.id) (find t ys)) ≡ false → option_map (λ (e : Entry). e.id) (find t ys) ≡ option_map (λ (e : Entry). e.id) (find t (stay ys)))
          → option_map (λ (e : Entry). e.id) (cond c (Some y) (find t ys)) ≡ option_map (λ (e : Entry). e.id) (find t (cond (not b) (y ∷ stay ys) (stay ys)))
      by_tests true g true k h ih = cc
      by_tests true g false k h ih = ih h
      by_tests false g true k h ih = rw k refl
      by_tests false g false k h ih = rw k (ih h)

  pub still_waits : (table : List Entry) (e : Entry) → gone e.id ≡ false → waits_for gone (blocker_at table e) ≡ false → blocker_at table e ≡ blocker_at (stay table) e
  still_waits table e stays kept = find_kept (λ (x : Entry). conflict e.locks x.locks) (entries_before table e.id) kept ∙ ap (λ (xs : List Entry). first_in_way xs e.locks) (sym (before_kept table e.id stays))

  pub all_stay : (P : Entry → Type 0) → ((e : Entry) → gone e.id ≡ false → P e) → (xs : List Entry) → All P (stay xs)
  all_stay P f [] = All-nil P
  all_stay P f (x ∷ xs) = by_test (gone x.id) refl (all_stay P f xs)
    where
      by_test : (b : Bool) → gone x.id ≡ b → All P (stay xs) → All P (cond (not b) (x ∷ stay xs) (stay xs))
      by_test true h ih = ih
      by_test false h ih = All-cons P x (stay xs) (f x h) ih
