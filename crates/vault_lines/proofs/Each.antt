-- Reading word after word.
use Rattle.std.proofs.Common.{◌≡◌, ℕ, ◌+◌, ◌<◌, ◌≤◌, ◌==◌, false, List, [], ◌∷◌, ◌++◌}
use Rattle.std.proofs.Common.{length, map, drop, get_or, Option, Some, None, refl, sym, ap, ◌∙◌, append-nil, append_assoc}
use Rattle.std.proofs.lemmas.List.{at_drop_more, at_drop_all}
use Rattle.std.specs.Option.{option_map}
use Rattle.vault_lines.specs.Items.{item_in, items_in}
use Rattle.vault_lines.specs.Reading.{each_in, ◌>>=◌}

-- the values read before, and those that are read here
abbrev pub with_front : {X : Type 0} → List X → Option (List X) → Option (List X)
with_front front there = option_map (λ xs. front ++ xs) there

moved : {X : Type 0} (xs : List X) (x : X) (there : Option (List X))
    → with_front xs (there >>= (λ ys. Some (x ∷ ys))) ≡ with_front (xs ++ x ∷ []) there
moved xs x None = refl
moved xs x (Some ys) = ap Some (sym (append_assoc xs (x ∷ []) ys))

-- one more word
pub each_in-some : {X : Type 0} (read : List ℕ → Option X) (xs : List X) (x : X) (word : List ℕ) (words : List (List ℕ))
    → read word ≡ Some x → with_front xs (each_in read (word ∷ words)) ≡ with_front (xs ++ x ∷ []) (each_in read words)
each_in-some read xs x word words e = rw e (moved xs x (each_in read words))

-- a word that says nothing
pub each_in-none : {X : Type 0} (read : List ℕ → Option X) (xs : List X) (word : List ℕ) (words : List (List ℕ))
    → read word ≡ None → with_front xs (each_in read (word ∷ words)) ≡ None
each_in-none read xs word words e = rw e refl

pub with_front-none : {X : Type 0} (xs : List X) (there : Option (List X)) → with_front xs there ≡ None → there ≡ None
with_front-none xs None e = refl
with_front-none xs (Some ys) e = cc e

pub with_front-nil : {X : Type 0} (there : Option (List X)) → with_front [] there ≡ there
with_front-nil None = refl
with_front-nil (Some ys) = refl

-- words read one by one
module _ {X W : Type 0} (read : List ℕ → Option X) (bytes : W → List ℕ) (words : List W) (i : ℕ) (front : List X)
    (so_far : with_front front (each_in read (map bytes (drop i words))) ≡ each_in read (map bytes words)) where
  pub all_read : length words ≤ i → each_in read (map bytes words) ≡ Some front
  all_read past =
      sym so_far ∙ ap (with_front front) (at_drop_all (λ ws. each_in read (map bytes ws)) words i past) ∙ ap Some (append-nil front)

  module _ (inside : i < length words) (word : W) where
    taken : each_in read (map bytes (drop i words)) ≡ each_in read (bytes (get_or words i word) ∷ map bytes (drop (i + 1) words))
    taken = at_drop_more (λ ws. each_in read (map bytes ws)) words i word inside

    pub one_read : (x : X) → read (bytes (get_or words i word)) ≡ Some x
        → with_front (front ++ x ∷ []) (each_in read (map bytes (drop (i + 1) words))) ≡ each_in read (map bytes words)
    one_read x e =
        sym (each_in-some read front x (bytes (get_or words i word)) (map bytes (drop (i + 1) words)) e)
        ∙ ap (with_front front) (sym taken) ∙ so_far

    pub none_read : read (bytes (get_or words i word)) ≡ None → each_in read (map bytes words) ≡ None
    none_read e =
        sym so_far ∙ ap (with_front front) taken
        ∙ each_in-none read front (bytes (get_or words i word)) (map bytes (drop (i + 1) words)) e

-- if there is a word, the words are read as items
pub items_are : {W : Type 0} (bytes : W → List ℕ) (words : List W) → false ≡ (length words == 0)
    → items_in (map bytes words) ≡ each_in item_in (map bytes words)
items_are bytes [] some = cc
items_are bytes (word ∷ words) some = refl
