-- The way to a place.
use Rattle.std.specs.Prelude.{◌≡◌, ℕ, zero, suc, ◌<◌, ◌≤◌, List, [], ◌∷◌, ◌++◌, Some, slice_get, refl}
use Rattle.std.proofs.Common.{ap, ◌∙◌, arith}
use Rattle.std.specs.Option.{option_map, option_map_or}
use Rattle.vault_state.specs.declared.place.Place.{Place}
use Rattle.vault_state.specs.Tree.{path_within, path_of}
use Rattle.vault_state.proofs.Walks.{Rises, same_at}

-- any two bounds that are enough give the same way
pub path_enough : (n m : ℕ) (tree : List Place) (p : ℕ) → Rises tree → p ≤ n → p ≤ m → path_within n tree p ≡ path_within m tree p
path_enough zero zero tree p rises hn hm = refl
path_enough zero (suc m) tree p rises hn hm = let e : p ≡ 0 = omega arith in rw e refl
path_enough (suc n) zero tree p rises hn hm = let e : p ≡ 0 = omega arith in rw e refl
path_enough (suc n) (suc m) tree zero rises hn hm = refl
path_enough (suc n) (suc m) tree (suc p) rises hn hm =
    same_at (slice_get tree p) _ _ [] (λ (x : Place) e. let lower : x.parent < suc p = rises (suc p) x.parent (ap (option_map (λ (place : Place). place.parent)) e) in
    ap (λ way. way ++ x.name ∷ []) (path_enough n m tree x.parent rises (omega arith) (omega arith)))

-- a place's way is its parent's, and then its name
pub path_of-step : (tree : List Place) (p : ℕ) (x : Place) → Rises tree → slice_get tree p ≡ Some x → path_of tree (suc p) ≡ path_of tree x.parent ++ x.name ∷ []
path_of-step tree p x rises e =
    let lower : x.parent < suc p = rises (suc p) x.parent (ap (option_map (λ (place : Place). place.parent)) e) in
    ap (λ o. option_map_or (λ (place : Place). path_within p tree place.parent ++ place.name ∷ []) o []) e
    ∙ ap (λ way. way ++ x.name ∷ []) (path_enough p x.parent tree x.parent rises (omega arith) (omega arith))
