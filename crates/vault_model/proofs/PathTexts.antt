-- A text is read as a path exactly where it is the path's spelling.
use Rattle.std.specs.Prelude.{◌≡◌, ℕ, ◌<◌, ◌≤◌, ◌&&◌, ◌==◌, nat_le, Bool, true, false, List, [], ◌∷◌, ◌++◌, length, None, Some, refl}
use Rattle.std.proofs.Common.{ap, sym, subst, ◌∙◌, arith, cond, append-nil}
use Rattle.std.specs.List.{list_all, slice_split, flat_map, join_with_byte, AllByRecursion}
use Rattle.std.proofs.lemmas.Bool.Decides.{nat_tests}
use Rattle.std.proofs.lemmas.List.Elements.{All-nil, All-cons}
use Rattle.std.proofs.lemmas.List.Splits.{join_with_byte-slice_split, length-slice_split}
use Rattle.vault_state.specs.Limits.{most_names}
use Rattle.vault_state.specs.Name.{is_name_byte, is_name, IsName}
use Rattle.vault_state.specs.Path.{IsPath, path_text, names_of, names_in, behind_slash, path_in}
use Rattle.vault_model.specs.Laws.{PathIsItsText}
use Rattle.vault_state.proofs.Overlaps.{and_both, and_intro, eq_from}
use Rattle.vault_state.proofs.Paths.{names_good}
use Rattle.vault_state.proofs.Joined.{IsFree, split_joined}

each_named : (names : List (List ℕ)) → list_all is_name names ≡ true → AllByRecursion IsName names
each_named [] e = tt
each_named (name ∷ names) e = let both = and_both (is_name name) (list_all is_name names) e in (both.0, each_named names both.1)

named_each : (names : List (List ℕ)) → AllByRecursion IsName names → list_all is_name names ≡ true
named_each [] h = refl
named_each (name ∷ names) h = and_intro (is_name name) (list_all is_name names) h.0 (named_each names h.1)

-- a name has a first byte, and no slash
no_slash : (word : List ℕ) → list_all is_name_byte word ≡ true → IsFree 47 word
no_slash [] e = All-nil (λ b. (b == 47) ≡ false)
no_slash (b ∷ word) e = let both = and_both _ _ e in All-cons (λ c. (c == 47) ≡ false) b word (by_test (b == 47) refl both.0) (no_slash word both.1)
  where
    by_test : (t : Bool) → (b == 47) ≡ t → is_name_byte b ≡ true → t ≡ false
    by_test false k h = refl
    by_test true k h = let is : b ≡ 47 = eq_from b 47 k in let none : is_name_byte 47 ≡ true = subst (λ x. is_name_byte x ≡ true) is h in sym none

name_bytes : (word : List ℕ) → is_name word ≡ true → list_all is_name_byte word ≡ true
name_bytes word e = (and_both _ _ (and_both (nat_le 1 (length word)) _ e).1).1

each_free : (names : List (List ℕ)) → list_all is_name names ≡ true → AllByRecursion (IsFree 47) names
each_free [] e = tt
each_free (name ∷ names) e = let both = and_both (is_name name) (list_all is_name names) e in (no_slash name (name_bytes name both.0), each_free names both.1)

-- names joined by slashes, and spelled with a slash before each
joined_text : (name : List ℕ) (names : List (List ℕ)) → join_with_byte 47 (name ∷ names) ≡ name ++ flat_map (λ n. 47 ∷ n) names
joined_text name [] = sym (append-nil name)
joined_text name (next ∷ names) = ap (λ xs. name ++ (47 ∷ xs)) (joined_text next names)

-- forth

spelled : (text : List ℕ) (words names : List (List ℕ)) → join_with_byte 47 words ≡ text → (0 < length words) → names_of words ≡ Some names → IsPath names × (path_text names ≡ 47 ∷ text)
spelled text words names joined some e = by_test (nat_le (length words) most_names && list_all is_name words) refl e
  where
    by_words : (words : List (List ℕ)) → join_with_byte 47 words ≡ text → 0 < length words → path_text words ≡ 47 ∷ text
    by_words [] j h = absurd (omega arith)
    by_words (word ∷ words) j h = ap (λ xs. 47 ∷ xs) (sym (joined_text word words) ∙ j)

    by_test : (b : Bool) → (nat_le (length words) most_names && list_all is_name words) ≡ b → cond b (Some words) None ≡ Some names → IsPath names × (path_text names ≡ 47 ∷ text)
    by_test false k h = cc
    by_test true k h =
        let same : words ≡ names = cc in
        let both = and_both (nat_le (length words) most_names) (list_all is_name words) k in
        let few : length words ≤ most_names = grind (arith, nat_tests, both.0) in
        subst (λ (ns : List (List ℕ)). IsPath ns × (path_text ns ≡ 47 ∷ text)) same (record { short = few; each = each_named words both.1 }, by_words words joined some)

some_parts : (text : List ℕ) → 0 < length (slice_split (λ b. b == 47) text)
some_parts text = omega (arith, length-slice_split (λ b. b == 47) text)

forth_behind : (text : List ℕ) (names : List (List ℕ)) → behind_slash text ≡ Some names → IsPath names × (path_text names ≡ 47 ∷ text)
forth_behind [] names e =
    let same : [] ≡ names = cc in
    subst (λ (ns : List (List ℕ)). IsPath ns × (path_text ns ≡ 47 ∷ [])) same (record { short = omega arith; each = tt }, refl)
forth_behind (b ∷ text) names e = spelled (b ∷ text) (slice_split (λ c. c == 47) (b ∷ text)) names (join_with_byte-slice_split 47 (b ∷ text)) (some_parts (b ∷ text)) e

forth : (text : List ℕ) (names : List (List ℕ)) → path_in text ≡ Some names → IsPath names × (path_text names ≡ text)
forth [] names e = cc
forth (b ∷ text) names e = by_test (b == 47) refl e
  where
    by_test : (t : Bool) → (b == 47) ≡ t → cond t (behind_slash text) None ≡ Some names → IsPath names × (path_text names ≡ b ∷ text)
    by_test false k h = cc
    by_test true k h = let is : b ≡ 47 = eq_from b 47 k in subst (λ x. IsPath names × (path_text names ≡ x ∷ text)) (sym is) (forth_behind text names h)

-- back

behind_some : (word more : List ℕ) → is_name word ≡ true → behind_slash (word ++ more) ≡ names_in (word ++ more)
behind_some [] more e = cc
behind_some (b ∷ word) more e = refl

back : (names : List (List ℕ)) → IsPath names → path_in (path_text names) ≡ Some names
back [] h = refl
back (name ∷ names) h =
    let named : list_all is_name (name ∷ names) ≡ true = named_each (name ∷ names) h.each in
    let first = (and_both (is_name name) (list_all is_name names) named).0 in
    let cut : slice_split (λ b. b == 47) (name ++ flat_map (λ n. 47 ∷ n) names) ≡ name ∷ names =
    ap (slice_split (λ b. b == 47)) (sym (joined_text name names)) ∙ split_joined 47 name names (each_free (name ∷ names) named) in
    behind_some name (flat_map (λ n. 47 ∷ n) names) first ∙ ap names_of cut ∙ names_good (name ∷ names) h.short named

pub path_is_its_text : PathIsItsText
path_is_its_text text names = (forth text names, λ spelling. ap path_in (sym spelling.1) ∙ back names spelling.0)
