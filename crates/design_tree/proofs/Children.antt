-- The children of a place, in a tree and in one with one more place.
use Rattle.std.specs.Prelude.{◌≡◌, ℕ, zero, suc, ◌+◌, ◌<◌, ◌≤◌, Bool, true, false, ◌&&◌, ◌==◌, List, [], ◌∷◌, ◌++◌, length, Option, None, Some, slice_get, filter, All, refl}
use Rattle.std.proofs.Common.{sym, ap, ◌∙◌, arith, cond}
use Rattle.std.specs.List.{range_with_len, find, position_from}
use Rattle.std.specs.Option.{option_map, option_map_or}
use Rattle.std.specs.Str.{bytes_eq}
use Rattle.std.proofs.lemmas.Iterator.Adapters.{position_from-zero}
use Rattle.std.proofs.lemmas.Bool.Decides.{nat_tests}
use Rattle.std.proofs.lemmas.List.Elements.{All-filter}
use Rattle.std.proofs.lemmas.List.Sums.{sum_by-cons}
use Rattle.std.proofs.lemmas.List.FromFn.{length-range_with_len, get_or-range_with_len}
use Rattle.vault_state.specs.declared.place.Place.{Place}
use Rattle.vault_state.specs.Tree.{parent_of, is_child, child, children_of, children_count}
use Rattle.vault_state.proofs.Walks.{Rises}
use Rattle.design_tree.specs.Index.{has_name}

-- the numbers of a parent's children, where the list's first place has this number
abbrev pub children_from : ℕ → ℕ → List Place → List ℕ
children_from parent first [] = []
children_from parent first (x ∷ xs) = cond (x.parent == parent) (first ∷ children_from parent (first + 1) xs) (children_from parent (first + 1) xs)

-- the place that it is under
abbrev place_parent : Place → ℕ
place_parent place = place.parent

children_from-filter : (parent first : ℕ) (xs : List Place) (f : ℕ → Option ℕ) → ((i : ℕ) → f (first + i) ≡ option_map place_parent (slice_get xs i))
    → filter (λ p. option_map_or (λ q. q == parent) (f p) false) (range_with_len first (length xs)) ≡ children_from parent first xs
children_from-filter parent first [] f h = refl
children_from-filter parent first (x ∷ xs) f h =
    let here : f first ≡ Some x.parent = let plain : first ≡ first + 0 = omega arith in ap f plain ∙ h 0 in
    let later : (i : ℕ) → f ((first + 1) + i) ≡ option_map place_parent (slice_get xs i) = λ i. let plain : (first + 1) + i ≡ first + suc i = omega arith in ap f plain ∙ h (suc i) in
    let rest = children_from-filter parent (first + 1) xs f later in
    rw (here, rest) refl

-- the children of a place, read off the places one by one
pub children_of-from : (tree : List Place) (parent : ℕ) → children_of tree parent ≡ children_from parent 1 tree
children_of-from tree parent = children_from-filter parent 1 tree (parent_of tree) (λ i. let plain : 1 + i ≡ suc i = omega arith in ap (parent_of tree) plain)

children_from-push : (parent first : ℕ) (xs : List Place) (x : Place) → children_from parent first (xs ++ x ∷ []) ≡ children_from parent first xs ++ cond (x.parent == parent) ((first + length xs) ∷ []) []
children_from-push parent first [] x = let plain : first ≡ first + 0 = omega arith in ap (λ n. cond (x.parent == parent) (n ∷ []) []) plain
children_from-push parent first (y ∷ xs) x =
    let plain : (first + 1) + length xs ≡ first + suc (length xs) = omega arith in
    let rest = children_from-push parent (first + 1) xs x in
    by_test (y.parent == parent) _ _ (rest ∙ ap (λ n. children_from parent (first + 1) xs ++ cond (x.parent == parent) (n ∷ []) []) plain)
  where
    by_test : (b : Bool) (tail more : List ℕ) → children_from parent (first + 1) (xs ++ x ∷ []) ≡ tail ++ more → cond b (first ∷ children_from parent (first + 1) (xs ++ x ∷ [])) (children_from parent (first + 1) (xs ++ x ∷ [])) ≡ cond b (first ∷ tail) tail ++ more
    by_test true tail more e = ap (λ t. first ∷ t) e
    by_test false tail more e = e

-- a new place is the last child of its parent
pub children_of-push : (tree : List Place) (x : Place) (parent : ℕ) → children_of (tree ++ x ∷ []) parent ≡ children_of tree parent ++ cond (x.parent == parent) ((length tree + 1) ∷ []) []
children_of-push tree x parent =
    let plain : 1 + length tree ≡ length tree + 1 = omega arith in
    children_of-from (tree ++ x ∷ []) parent ∙ children_from-push parent 1 tree x ∙ ap (λ n. children_from parent 1 tree ++ cond (x.parent == parent) (n ∷ []) []) plain ∙ ap (λ cs. cs ++ cond (x.parent == parent) ((length tree + 1) ∷ []) []) (sym (children_of-from tree parent))

children_from-length : (parent first : ℕ) (xs : List Place) → length (children_from parent first xs) ≡ children_count xs parent
children_from-length parent first [] = refl
children_from-length parent first (x ∷ xs) = by_test (x.parent == parent) _ _ (children_from-length parent (first + 1) xs) ∙ sym (sum_by-cons (λ (place : Place). cond (place.parent == parent) 1 0) x xs)
  where
    by_test : (b : Bool) (rest : List ℕ) (n : ℕ) → length rest ≡ n → length (cond b (first ∷ rest) rest) ≡ cond b 1 0 + n
    by_test true rest n e = omega arith
    by_test false rest n e = omega arith

pub length-children_of : (tree : List Place) (parent : ℕ) → length (children_of tree parent) ≡ children_count tree parent
length-children_of tree parent = ap length (children_of-from tree parent) ∙ children_from-length parent 1 tree

-- the first child of a name is what the places show
children_from-find : (parent first : ℕ) (name : List ℕ) (xs : List Place) (test : ℕ → Bool) → ((i : ℕ) (x : Place) → slice_get xs i ≡ Some x → test (first + i) ≡ bytes_eq x.name name)
    → find test (children_from parent first xs) ≡ position_from (is_child parent name) first xs
children_from-find parent first name [] test h = refl
children_from-find parent first name (x ∷ xs) test h =
    let here : test first ≡ bytes_eq x.name name = let plain : first ≡ first + 0 = omega arith in ap test plain ∙ h 0 x refl in
    by_test (x.parent == parent) _ _ _ here
    (children_from-find parent (first + 1) name xs test (λ i y e. let plain : (first + 1) + i ≡ first + suc i = omega arith in ap test plain ∙ h (suc i) y e))
  where
    by_test : (b : Bool) (rest : List ℕ) (found : Option ℕ) (named : Bool) → test first ≡ named → find test rest ≡ found → find test (cond b (first ∷ rest) rest) ≡ cond (b && named) (Some first) found
    by_test true rest found named e k = ap (λ t. cond t (Some first) (find test rest)) e ∙ ap (cond named (Some first)) k
    by_test false rest found named e k = k

position_from-more : {X : Type 0} (p : X → Bool) (first : ℕ) (xs : List X) → option_map (λ i. i + 1) (position_from p first xs) ≡ position_from p (first + 1) xs
position_from-more p first [] = refl
position_from-more p first (x ∷ xs) = by_test (p x) _ _ (position_from-more p (first + 1) xs)
  where
    by_test : (b : Bool) (o u : Option ℕ) → option_map (λ i. i + 1) o ≡ u → option_map (λ i. i + 1) (cond b (Some first) o) ≡ cond b (Some (first + 1)) u
    by_test true o u e = refl
    by_test false o u e = e

-- what a look-up among a place's children finds is the child
pub find-children_of : (tree : List Place) (parent : ℕ) (name : List ℕ) → find (has_name tree name) (children_of tree parent) ≡ child tree parent name
find-children_of tree parent name =
    ap (find (has_name tree name)) (children_of-from tree parent)
    ∙ children_from-find parent 1 name tree (has_name tree name) named
    ∙ sym (ap (option_map (λ i. i + 1)) (position_from-zero (is_child parent name) tree) ∙ position_from-more (is_child parent name) 0 tree)
  where
    named : (i : ℕ) (x : Place) → slice_get tree i ≡ Some x → has_name tree name (1 + i) ≡ bytes_eq x.name name
    named i x e = let plain : 1 + i ≡ suc i = omega arith in ap (has_name tree name) plain ∙ ap (λ o. option_map_or (λ own. bytes_eq own name) (option_map (λ (place : Place). place.name) o) false) e

-- a number that no place has is no parent
pub children_of-past : (tree : List Place) (parent : ℕ) → Rises tree → length tree < parent → children_of tree parent ≡ []
children_of-past tree parent rises past = none 1 (length tree) (λ k h. by_parent k h (parent_of tree k) refl)
  where
    by_parent : (k : ℕ) → k < 1 + length tree → (o : Option ℕ) → parent_of tree k ≡ o → option_map_or (λ q. q == parent) o false ≡ false
    by_parent k h None e = refl
    by_parent k h (Some q) e = let lower : q < k = rises k q e in grind (arith, nat_tests)

    none : (a n : ℕ) → ((k : ℕ) → k < a + n → option_map_or (λ q. q == parent) (parent_of tree k) false ≡ false) → filter (λ p. option_map_or (λ q. q == parent) (parent_of tree p) false) (range_with_len a n) ≡ []
    none a zero h = refl
    none a (suc n) h = let rest = none (a + 1) n (λ k g. h k (omega arith)) in rw (h a (omega arith), rest) refl

-- children are places of the tree
pub children_of-there : (tree : List Place) (parent : ℕ) → All (λ p. p ≤ length tree) (children_of tree parent)
children_of-there tree parent =
    All-filter (λ p. option_map_or (λ q. q == parent) (parent_of tree p) false) (λ p. p ≤ length tree) (range_with_len 1 (length tree)) numbers
  where
    numbers : All (λ p. p ≤ length tree) (range_with_len 1 (length tree))
    numbers k d h = let within : k < length tree = rw length-range_with_len at h in rw (get_or-range_with_len 1 (length tree) k d within) (omega arith)
