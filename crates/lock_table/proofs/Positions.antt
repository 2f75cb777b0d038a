-- Where the first entry that passes stands, by entries and by queues.
use Rattle.std.specs.Prelude.{◌≡◌, ℕ, zero, suc, ◌+◌, ◌<◌, ◌≤◌, Bool, true, false, not, ◌||◌, nat_lt, List, [], ◌∷◌, ◌++◌, length, take, find, position, slice_get, Option, None, Some, is_none, refl}
use Rattle.std.proofs.Common.{sym, ap, subst, ◌∙◌, cond, arith, drop, get_or}
use Rattle.std.proofs.lemmas.List.{drop_more, drop_all}
use Rattle.std.specs.List.{list_any, IsDistinct, AllByRecursion, position_or_len}
use Rattle.std.specs.Option.{option_map, option_and_then, option_or}
use Rattle.std.proofs.lemmas.Bool.Decides.{nat_tests}
use Rattle.std.proofs.lemmas.Option.{same_Some}
use Rattle.vault_state.specs.declared.ids.ClaimId.{ClaimId}
use Rattle.vault_state.specs.Claims.{same_id}
use Rattle.vault_state.proofs.Stays.{same_id_itself}
use Rattle.lock_modes.specs.declared.mode.Mode.{Mode}
use Rattle.lock_table.specs.declared.locks.Lock.{Lock}
use Rattle.lock_table.specs.declared.entry.Entry.{Entry}
use Rattle.lock_queue.specs.declared.queue.Request.{Request}
use Rattle.lock_table.specs.Locks.{mode_at}
use Rattle.lock_queue.specs.Queue.{QueueSeen, first_of, is_in_way, is_held_in_way}
use Rattle.lock_table.specs.Queues.{request_of, requests_at, requests_by, earlier, position_of, earliest}
use Rattle.lock_table.proofs.Removals.{ids}

-- where the first entry that passes stands, counted from a number on
abbrev pub first_from : (Entry → Bool) → ℕ → List Entry → Option ℕ
first_from test n [] = None
first_from test n (e ∷ es) = cond (test e) (Some n) (first_from test (suc n) es)

-- the id of the entry at a position that was looked up
pub id_there : (es : List Entry) (i : ℕ) (e : Entry) → true ≡ nat_lt i (length es) → e ≡ get_or es i e → option_map (λ (x : Entry). x.id) (slice_get es i) ≡ Some e.id
id_there [] i e h is = absurd (grind (arith, nat_tests, h))
id_there (x ∷ es) zero e h is = ap (λ (y : Entry). Some y.id) (sym is)
id_there (x ∷ es) (suc i) e h is = id_there es i e (grind (arith, nat_tests, h)) is

pub id_past : (es : List Entry) (i : ℕ) → false ≡ nat_lt i (length es) → option_map (λ (x : Entry). x.id) (slice_get es i) ≡ None
id_past [] i h = refl
id_past (x ∷ es) zero h = absurd (grind (arith, nat_tests, h))
id_past (x ∷ es) (suc i) h = id_past es i (grind (arith, nat_tests, h))

-- a position as std has it
position_from : (t : Entry → Bool) (n : ℕ) (es : List Entry) → cond (nat_lt (position_or_len t es) (length es)) (Some (n + position_or_len t es)) None ≡ first_from t n es
position_from t n [] = refl
position_from t n (x ∷ es) = by_test (t x) (position_from t (suc n) es)
  where
    by_test : (b : Bool) → cond (nat_lt (position_or_len t es) (length es)) (Some (suc n + position_or_len t es)) None ≡ first_from t (suc n) es
        → cond (nat_lt (cond (not b) (1 + position_or_len t es) 0) (suc (length es))) (Some (n + cond (not b) (1 + position_or_len t es) 0)) None ≡ cond b (Some n) (first_from t (suc n) es)
    by_test true ih =
        let inside : nat_lt 0 (suc (length es)) ≡ true = grind (arith, nat_tests) in
        let same : n + 0 ≡ n = omega arith in
        rw (inside, same) refl
    by_test false ih =
        let test : nat_lt (1 + position_or_len t es) (suc (length es)) ≡ nat_lt (position_or_len t es) (length es) = grind (arith, nat_tests) in
        let same : n + (1 + position_or_len t es) ≡ suc n + position_or_len t es = omega arith in
        rw (test, same) ih

pub position_first : (t : Entry → Bool) (es : List Entry) → position t es ≡ first_from t 0 es
position_first t es = let same : position_or_len t es ≡ 0 + position_or_len t es = omega arith in ap (λ k. cond (nat_lt (position_or_len t es) (length es)) (Some k) None) same ∙ position_from t 0 es

found_in : (P : ClaimId → Type 0) (t : Entry → Bool) (es : List Entry) (y : Entry) → AllByRecursion P (ids es) → find t es ≡ Some y → P y.id
found_in P t [] y all e = cc
found_in P t (x ∷ es) y all e = by_test (t x) e (found_in P t es y all.1)
  where
    by_test : (b : Bool) → cond b (Some x) (find t es) ≡ Some y → (find t es ≡ Some y → P y.id) → P y.id
    by_test true h ih = subst (λ (z : Entry). P z.id) (same_Some x y h) all.0
    by_test false h ih = ih h

-- the first that passes is found by its id
located_from : (t : Entry → Bool) (n : ℕ) (es : List Entry) → IsDistinct same_id (ids es)
    → option_and_then (λ id. first_from (λ (e : Entry). same_id e.id id) n es) (option_map (λ (e : Entry). e.id) (find t es)) ≡ first_from t n es
unfolding IsDistinct
located_from t n [] distinct = refl
located_from t n (x ∷ xs) distinct = by_test (t x) (by_found (find t xs) refl (located_from t (suc n) xs distinct.1))
  where
    by_found : (o : Option Entry) → find t xs ≡ o → option_and_then (λ id. first_from (λ (e : Entry). same_id e.id id) (suc n) xs) (option_map (λ (e : Entry). e.id) (find t xs)) ≡ first_from t (suc n) xs
        → option_and_then (λ id. first_from (λ (e : Entry). same_id e.id id) n (x ∷ xs)) (option_map (λ (e : Entry). e.id) (find t xs)) ≡ first_from t (suc n) xs
    by_found None h ih = rw h (rw h at ih)
    by_found (Some y) h ih =
        let apart : same_id x.id y.id ≡ false = found_in (λ k. same_id x.id k ≡ false) t xs y distinct.0 h in
        rw (h, apart) (rw h at ih)

    by_test : (b : Bool) → option_and_then (λ id. first_from (λ (e : Entry). same_id e.id id) n (x ∷ xs)) (option_map (λ (e : Entry). e.id) (find t xs)) ≡ first_from t (suc n) xs
        → option_and_then (λ id. first_from (λ (e : Entry). same_id e.id id) n (x ∷ xs)) (option_map (λ (e : Entry). e.id) (cond b (Some x) (find t xs))) ≡ cond b (Some n) (first_from t (suc n) xs)
    by_test true ih = rw (same_id_itself x.id) refl
    by_test false ih = ih

pub place_found : (t : Entry → Bool) (es : List Entry) → IsDistinct same_id (ids es) → position_of es (option_map (λ (e : Entry). e.id) (find t es)) ≡ first_from t 0 es
place_found t es distinct = by_id (option_map (λ (e : Entry). e.id) (find t es)) ∙ located_from t 0 es distinct
  where
    by_id : (o : Option ClaimId) → position_of es o ≡ option_and_then (λ id. first_from (λ (e : Entry). same_id e.id id) 0 es) o
    by_id None = refl
    by_id (Some id) = position_first (λ (e : Entry). same_id e.id id) es

-- the queue of a place finds its claim
module _ (test : Request → Bool) (t : Entry → Bool) (held : Entry → Bool) (p : ℕ) (none : (e : Entry) → mode_at e.locks p ≡ None → t e ≡ false)
    (some : (e : Entry) (m : Mode) → mode_at e.locks p ≡ Some m → test (record { id = e.id; mode = m; is_held = held e }) ≡ t e) where
  pub queue_found : (es : List Entry) → first_of test (requests_by held es p) ≡ option_map (λ (e : Entry). e.id) (find t es)
  queue_found [] = refl
  queue_found (e ∷ es) = by_mode (mode_at e.locks p) refl (queue_found es)
    where
      by_mode : (o : Option Mode) → mode_at e.locks p ≡ o → first_of test (requests_by held es p) ≡ option_map (λ (e : Entry). e.id) (find t es)
          → first_of test (request_of (held e) e.id o ++ requests_by held es p) ≡ option_map (λ (e : Entry). e.id) (cond (t e) (Some e) (find t es))
      by_mode None h ih = rw (none e h) ih
      by_mode (Some m) h ih = rw (some e m h) (by_test (t e) ih)
        where
          by_test : (b : Bool) → first_of test (requests_by held es p) ≡ option_map (λ (e : Entry). e.id) (find t es)
              → option_map (λ (s : Request). s.id) (cond b (Some (record { id = e.id; mode = m; is_held = held e })) (find test (requests_by held es p))) ≡ option_map (λ (e : Entry). e.id) (cond b (Some e) (find t es))
          by_test true ih = refl
          by_test false ih = ih

  pub queue_first : (es : List Entry) → IsDistinct same_id (ids es) → position_of es (first_of test (requests_by held es p)) ≡ first_from t 0 es
  queue_first es distinct = ap (position_of es) (queue_found es) ∙ place_found t es distinct

pub first_none : (n : ℕ) (es : List Entry) → first_from (λ e. false) n es ≡ None
first_none n [] = refl
first_none n (e ∷ es) = first_none (suc n) es

-- the first stands at the number or behind it
first_bound : (t : Entry → Bool) (n : ℕ) (es : List Entry) (j : ℕ) → first_from t n es ≡ Some j → n ≤ j
first_bound t n [] j e = cc
first_bound t n (x ∷ es) j e = by_test (t x) e (first_bound t (suc n) es j)
  where
    by_test : (b : Bool) → cond b (Some n) (first_from t (suc n) es) ≡ Some j → (first_from t (suc n) es ≡ Some j → suc n ≤ j) → n ≤ j
    by_test true h ih = let same : n ≡ j = cc in omega (arith, same)
    by_test false h ih = let more = ih h in omega (arith, more)

-- the earlier of a number and the first that passes, by a search only before that number
pub first_within : (t : Entry → Bool) (n m : ℕ) (es : List Entry) → option_or (first_from t n (take m es)) (Some (n + m)) ≡ earlier (Some (n + m)) (first_from t n es)
first_within t n zero [] = refl
first_within t n (suc m) [] = refl
first_within t n zero (x ∷ es) = behind (first_from t n (x ∷ es)) (first_bound t n (x ∷ es))
  where
    behind : (o : Option ℕ) → ((j : ℕ) → o ≡ Some j → n ≤ j) → Some (n + zero) ≡ earlier (Some (n + zero)) o
    behind None bound = refl
    behind (Some j) bound = let more = bound j refl in let test : nat_lt j (n + zero) ≡ false = grind (arith, nat_tests) in rw test refl
first_within t n (suc m) (x ∷ es) = by_test (t x) (first_within t (suc n) m es)
  where
    by_test : (b : Bool) → option_or (first_from t (suc n) (take m es)) (Some (suc n + m)) ≡ earlier (Some (suc n + m)) (first_from t (suc n) es)
        → option_or (cond b (Some n) (first_from t (suc n) (take m es))) (Some (n + suc m)) ≡ earlier (Some (n + suc m)) (cond b (Some n) (first_from t (suc n) es))
    by_test true ih = let test : nat_lt n (n + suc m) ≡ true = grind (arith, nat_tests) in rw test refl
    by_test false ih = let same : n + suc m ≡ suc n + m = omega arith in rw same ih

pub earlier_within : (t : Entry → Bool) (m : ℕ) (es : List Entry) → option_or (position t (take m es)) (Some m) ≡ earlier (Some m) (position t es)
earlier_within t m es =
    let same : 0 + m ≡ m = omega arith in
    let within : option_or (first_from t 0 (take m es)) (Some m) ≡ earlier (Some m) (first_from t 0 es) = rw same at (first_within t 0 m es) in
    ap (λ o. option_or o (Some m)) (position_first t (take m es)) ∙ (within ∙ ap (earlier (Some m)) (sym (position_first t es)))

same_pick : (b : Bool) (n : ℕ) → cond b n n ≡ n
same_pick true n = refl
same_pick false n = refl

-- the first that passes one of two tests
pub first_or : (a b : Entry → Bool) (n : ℕ) (es : List Entry) → earlier (first_from a n es) (first_from b n es) ≡ first_from (λ e. a e || b e) n es
first_or a b n [] = refl
first_or a b n (x ∷ es) = by_tests (a x) (b x) (first_or a b (suc n) es)
  where
    here_first : (o : Option ℕ) → ((j : ℕ) → o ≡ Some j → suc n ≤ j) → earlier (Some n) o ≡ Some n
    here_first None bound = refl
    here_first (Some j) bound = let more = bound j refl in let test : nat_lt j n ≡ false = grind (arith, nat_tests) in rw test refl

    here_second : (o : Option ℕ) → ((j : ℕ) → o ≡ Some j → suc n ≤ j) → earlier o (Some n) ≡ Some n
    here_second None bound = refl
    here_second (Some j) bound = let more = bound j refl in let test : nat_lt n j ≡ true = grind (arith, nat_tests) in rw test refl

    by_tests : (s t : Bool) → earlier (first_from a (suc n) es) (first_from b (suc n) es) ≡ first_from (λ e. a e || b e) (suc n) es
        → earlier (cond s (Some n) (first_from a (suc n) es)) (cond t (Some n) (first_from b (suc n) es)) ≡ cond (s || t) (Some n) (first_from (λ e. a e || b e) (suc n) es)
    by_tests true true ih = ap Some (same_pick (nat_lt n n) n)
    by_tests true false ih = here_first (first_from b (suc n) es) (first_bound b (suc n) es)
    by_tests false true ih = here_second (first_from a (suc n) es) (first_bound a (suc n) es)
    by_tests false false ih = ih

-- the earliest over some locks is the first that passes for any of them
pub any_first : (t : Lock → Entry → Bool) (ls : List Lock) (n : ℕ) (es : List Entry) → earliest (λ l. first_from (t l) n es) ls ≡ first_from (λ e. list_any (λ l. t l e) ls) n es
any_first t [] n es = sym (first_none n es)
any_first t (l ∷ ls) n es = ap (earlier (first_from (t l) n es)) (any_first t ls n es) ∙ first_or (t l) (λ e. list_any (λ l. t l e) ls) n es

pub earliest_same : (f g : Lock → Option ℕ) → ((l : Lock) → f l ≡ g l) → (ls : List Lock) → earliest f ls ≡ earliest g ls
earliest_same f g same [] = refl
earliest_same f g same (l ∷ ls) = rw (same l) (ap (earlier (g l)) (earliest_same f g same ls))

pub first_same : (a b : Entry → Bool) → ((e : Entry) → a e ≡ b e) → (n : ℕ) (es : List Entry) → first_from a n es ≡ first_from b n es
first_same a b same n [] = refl
first_same a b same n (e ∷ es) = rw (same e) (ap (cond (b e) (Some n)) (first_same a b same (suc n) es))

-- what stands there is what is found
first_more : (t : Entry → Bool) (n : ℕ) (es : List Entry) → first_from t (suc n) es ≡ option_map suc (first_from t n es)
first_more t n [] = refl
first_more t n (e ∷ es) = by_test (t e) (first_more t (suc n) es)
  where
    by_test : (b : Bool) → first_from t (suc (suc n)) es ≡ option_map suc (first_from t (suc n) es) → cond b (Some (suc n)) (first_from t (suc (suc n)) es) ≡ option_map suc (cond b (Some n) (first_from t (suc n) es))
    by_test true ih = refl
    by_test false ih = ih

-- an entry at an optional position
abbrev pub entry_at : List Entry → Option ℕ → Option Entry
entry_at es o = option_and_then (slice_get es) o

entry_behind : (e : Entry) (es : List Entry) (o : Option ℕ) → entry_at (e ∷ es) (option_map suc o) ≡ entry_at es o
entry_behind e es None = refl
entry_behind e es (Some i) = refl

pub first_found : (t : Entry → Bool) (es : List Entry) → entry_at es (first_from t 0 es) ≡ find t es
first_found t [] = refl
first_found t (e ∷ es) = by_test (t e) (first_found t es)
  where
    by_test : (b : Bool) → entry_at es (first_from t 0 es) ≡ find t es → entry_at (e ∷ es) (cond b (Some 0) (first_from t 1 es)) ≡ cond b (Some e) (find t es)
    by_test true ih = refl
    by_test false ih = ap (entry_at (e ∷ es)) (first_more t 0 es) ∙ (entry_behind e es (first_from t 0 es) ∙ ih)

pub id_found : (t : Entry → Bool) (es : List Entry) → option_and_then (λ i. option_map (λ (e : Entry). e.id) (slice_get es i)) (first_from t 0 es) ≡ option_map (λ (e : Entry). e.id) (find t es)
id_found t es = by_place (first_from t 0 es) ∙ ap (option_map (λ (e : Entry). e.id)) (first_found t es)
  where
    by_place : (o : Option ℕ) → option_and_then (λ i. option_map (λ (e : Entry). e.id) (slice_get es i)) o ≡ option_map (λ (e : Entry). e.id) (entry_at es o)
    by_place None = refl
    by_place (Some i) = refl

pub none_first : (t : Entry → Bool) (es : List Entry) → is_none (first_from t 0 es) ≡ is_none (find t es)
none_first t [] = refl
none_first t (e ∷ es) = by_test (t e) (none_first t es)
  where
    still : (o : Option ℕ) → is_none (option_map suc o) ≡ is_none o
    still None = refl
    still (Some i) = refl

    by_test : (b : Bool) → is_none (first_from t 0 es) ≡ is_none (find t es) → is_none (cond b (Some 0) (first_from t 1 es)) ≡ is_none (cond b (Some e) (find t es))
    by_test true ih = refl
    by_test false ih = ap is_none (first_more t 0 es) ∙ (still (first_from t 0 es) ∙ ih)

-- one of the entries in front: its position is lower
abbrev pub if_lower : ℕ → Option ℕ → Option ℕ
if_lower i None = None
if_lower i (Some j) = cond (nat_lt j i) (Some j) None

lower_more : (i : ℕ) (o : Option ℕ) → if_lower (suc i) (option_map suc o) ≡ option_map suc (if_lower i o)
lower_more i None = refl
lower_more i (Some j) = by_test (nat_lt j i) same
  where
    same : nat_lt (suc j) (suc i) ≡ nat_lt j i
    same = grind (arith, nat_tests)

    by_test : (b : Bool) → nat_lt (suc j) (suc i) ≡ b → cond (nat_lt (suc j) (suc i)) (Some (suc j)) None ≡ option_map suc (cond b (Some j) None)
    by_test true e = rw e refl
    by_test false e = rw e refl

none_lower : (o : Option ℕ) → if_lower 0 o ≡ None
none_lower None = refl
none_lower (Some j) = let test : nat_lt j 0 ≡ false = grind (arith, nat_tests) in rw test refl

pub first_taken : (t : Entry → Bool) (i : ℕ) (es : List Entry) → first_from t 0 (take i es) ≡ if_lower i (first_from t 0 es)
first_taken t zero es = sym (none_lower (first_from t 0 es))
first_taken t (suc i) [] = refl
first_taken t (suc i) (e ∷ es) = by_test (t e) (first_taken t i es)
  where
    first_is : nat_lt 0 (suc i) ≡ true
    first_is = grind (arith, nat_tests)

    by_test : (b : Bool) → first_from t 0 (take i es) ≡ if_lower i (first_from t 0 es) → cond b (Some 0) (first_from t 1 (take i es)) ≡ if_lower (suc i) (cond b (Some 0) (first_from t 1 es))
    by_test true ih = rw first_is refl
    by_test false ih =
        first_more t 0 (take i es) ∙ (ap (option_map suc) ih ∙ (sym (lower_more i (first_from t 0 es)) ∙ ap (if_lower (suc i)) (sym (first_more t 0 es))))

pick_associative : (k m n : ℕ) → cond (nat_lt n (cond (nat_lt m k) m k)) n (cond (nat_lt m k) m k) ≡ cond (nat_lt (cond (nat_lt n m) n m) k) (cond (nat_lt n m) n m) k
pick_associative k m n = by_tests (nat_lt m k) refl (nat_lt n m) refl (nat_lt n k) refl
  where
    by_tests : (a : Bool) → nat_lt m k ≡ a → (b : Bool) → nat_lt n m ≡ b → (c : Bool) → nat_lt n k ≡ c
        → cond (nat_lt n (cond a m k)) n (cond a m k) ≡ cond (nat_lt (cond b n m) k) (cond b n m) k
    by_tests true x true y true z = rw (y, z) refl
    by_tests true x true y false z = absurd (grind (arith, nat_tests))
    by_tests true x false y c z = rw (y, x) refl
    by_tests false x true y true z = rw z refl
    by_tests false x true y false z = rw z refl
    by_tests false x false y true z = absurd (grind (arith, nat_tests))
    by_tests false x false y false z = rw (z, x) refl

pub earlier_associative : (a b c : Option ℕ) → earlier (earlier a b) c ≡ earlier a (earlier b c)
earlier_associative None b c = refl
earlier_associative (Some k) None c = refl
earlier_associative (Some k) (Some m) None = refl
earlier_associative (Some k) (Some m) (Some n) = ap Some (pick_associative k m n)

pub earlier_none : (a : Option ℕ) → earlier a None ≡ a
earlier_none None = refl
earlier_none (Some k) = refl

-- the rest of a list begins with what is read there
pub drop_is : {T : Type 0} (xs : List T) (i : ℕ) (x : T) → i < length xs → x ≡ get_or xs i x → drop i xs ≡ x ∷ drop (i + 1) xs
drop_is xs i x inside is = drop_more xs i x inside ∙ ap (λ y. y ∷ drop (i + 1) xs) (sym is)

-- a loop over locks, in which the earliest so far and that of the locks that are left give the earliest of all
module _ (f : Lock → Option ℕ) (locks : List Lock) (i : ℕ) (first all : Option ℕ) (so : earlier first (earliest f (drop i locks)) ≡ all) where
  pub earliest_next : (l : Lock) (next : Option ℕ) → i < length locks → l ≡ get_or locks i l → next ≡ earlier first (f l) → earlier next (earliest f (drop (i + 1) locks)) ≡ all
  earliest_next l next inside is given =
      ap (λ o. earlier o (earliest f (drop (i + 1) locks))) given ∙ (earlier_associative first (f l) (earliest f (drop (i + 1) locks))
      ∙ (ap (λ ls. earlier first (earliest f ls)) (sym (drop_is locks i l inside is)) ∙ so))

  pub earliest_last : length locks ≤ i → first ≡ all
  earliest_last past = sym (earlier_none first) ∙ (ap (λ ls. earlier first (earliest f ls)) (sym (drop_all i locks past)) ∙ so)

-- the first request in the way at a lock's place, and the first granted one of another claim there
abbrev pub place_in_way : List Entry → List QueueSeen → Lock → Option ℕ
place_in_way table queues l = position_of table (first_of (is_in_way l.mode) (requests_at queues l.place))

abbrev pub held_place_in_way : List Entry → List QueueSeen → ClaimId → Lock → Option ℕ
held_place_in_way table queues id l = position_of table (first_of (is_held_in_way id l.mode) (requests_at queues l.place))
