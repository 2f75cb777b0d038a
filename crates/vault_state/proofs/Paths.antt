-- Which words are the names of a path.
use Rattle.std.specs.Prelude.{◌≡◌, ℕ, ◌<◌, ◌≤◌, Bool, true, false, ◌&&◌, nat_le, List, [], ◌∷◌, ◌++◌, length, None, Some, refl}
use Rattle.std.proofs.Common.{ap, arith, cond, sym, ◌∙◌, length-append, append_assoc, append-nil}
use Rattle.std.proofs.lemmas.List.Folds.{list_all-append}
use Rattle.std.specs.List.{list_all}
use Rattle.std.proofs.lemmas.Bool.Decides.{nat_tests}
use Rattle.vault_state.specs.Limits.{most_names}
use Rattle.vault_state.specs.Name.{is_name, name_in}
use Rattle.vault_state.specs.Path.{names_of}

named_before : (before : List (List ℕ)) (word : List ℕ) (more : List (List ℕ)) → is_name word ≡ false → list_all is_name (before ++ word ∷ more) ≡ false
named_before [] word more e = ap (λ b. b && list_all is_name more) e
named_before (w ∷ before) word more e = by_first (is_name w) (named_before before word more e)
  where
    by_first : (b : Bool) → list_all is_name (before ++ word ∷ more) ≡ false → (b && list_all is_name (before ++ word ∷ more)) ≡ false
    by_first true ih = ih
    by_first false ih = refl

and_false : (a b : Bool) → b ≡ false → (a && b) ≡ false
and_false true b e = e
and_false false b e = refl

-- one word that is no name
pub names_bad : (before : List (List ℕ)) (word : List ℕ) (more : List (List ℕ)) → is_name word ≡ false → names_of (before ++ word ∷ more) ≡ None
names_bad before word more e =
    let none : (nat_le (length (before ++ word ∷ more)) most_names && list_all is_name (before ++ word ∷ more)) ≡ false = and_false _ _ (named_before before word more e) in
    ap (λ b. cond b (Some (before ++ word ∷ more)) None) none

-- too many words
pub names_many : (words : List (List ℕ)) → most_names < length words → names_of words ≡ None
names_many words h =
    let many : nat_le (length words) most_names ≡ false = grind (arith, nat_tests) in
    ap (λ b. cond (b && list_all is_name words) (Some words) None) many

-- few words, each a name
pub names_good : (words : List (List ℕ)) → length words ≤ most_names → list_all is_name words ≡ true → names_of words ≡ Some words
names_good words h e =
    let few : nat_le (length words) most_names ≡ true = grind (arith, nat_tests) in
    ap (λ b. cond (b && list_all is_name words) (Some words) None) few ∙ ap (λ b. cond b (Some words) None) e

-- what reading a word says of it
pub no_name : (word : List ℕ) → name_in word ≡ None → is_name word ≡ false
no_name word e = by_test (is_name word) e
  where
    by_test : (b : Bool) → cond b (Some word) None ≡ None → b ≡ false
    by_test true h = cc
    by_test false h = refl

pub some_name : (word name : List ℕ) → name_in word ≡ Some name → (is_name word ≡ true) × (word ≡ name)
some_name word name e = by_test (is_name word) e
  where
    by_test : (b : Bool) → cond b (Some word) None ≡ Some name → (b ≡ true) × (word ≡ name)
    by_test true h = (refl, cc)
    by_test false h = cc

-- the words of a text, of which some are read, and the next is none
pub no_more : (words path rest : List (List ℕ)) (word : List ℕ) → words ≡ path ++ word ∷ rest → name_in word ≡ None → None ≡ names_of words
no_more words path rest word all none = sym (ap names_of all ∙ names_bad path word rest (no_name word none))

-- as many as a path has are read, and there is one more
pub too_many : (words path rest : List (List ℕ)) (word : List ℕ) → words ≡ path ++ word ∷ rest → length path ≡ most_names → None ≡ names_of words
too_many words path rest word all full =
    let longer = length-append path (word ∷ rest) in
    let many : most_names < length (path ++ word ∷ rest) = omega arith in
    sym (ap names_of all ∙ names_many (path ++ word ∷ rest) many)

-- one more is read
pub one_more : (words path next rest : List (List ℕ)) (word name : List ℕ) → words ≡ path ++ word ∷ rest → name_in word ≡ Some name → next ≡ path ++ name ∷ [] → words ≡ next ++ rest
one_more words path next rest word name all read more =
    all ∙ ap (λ w. path ++ w ∷ rest) (some_name word name read).1 ∙ sym (append_assoc path (name ∷ []) rest) ∙ ap (λ ps. ps ++ rest) (sym more)

pub still_named : (path next : List (List ℕ)) (word name : List ℕ) → name_in word ≡ Some name → next ≡ path ++ name ∷ [] → list_all is_name path ≡ true → list_all is_name next ≡ true
still_named path next word name read more named =
    let is : is_name name ≡ true = rw (some_name word name read).1 at (some_name word name read).0 in
    ap (list_all is_name) more ∙ list_all-append is_name path (name ∷ []) ∙ ap (λ b. b && (is_name name && true)) named ∙ ap (λ b. b && true) is

-- all are read
pub all_read : (words path : List (List ℕ)) → words ≡ path ++ [] → length path ≤ most_names → list_all is_name path ≡ true → Some path ≡ names_of words
all_read words path all few named = sym (ap names_of (all ∙ append-nil path) ∙ names_good path few named)
