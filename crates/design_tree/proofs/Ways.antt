-- The way to a place.
use Rattle.std.specs.Prelude.{◌≡◌, ℕ, zero, suc, ◌≤◌, List, [], ◌∷◌, ◌++◌, length, ◌-◌, Some, slice_get, slice_index_or}
use Rattle.std.proofs.Common.{sym, ap, ◌∙◌, arith}
use Rattle.std.specs.Option.{option_map}
use Rattle.std.proofs.lemmas.Option.{slice_get-get_or}
use Rattle.vault_state.specs.declared.place.Place.{Place}
use Rattle.vault_state.specs.Tree.{parent_of, path_of}
use Rattle.vault_state.proofs.Walks.{Rises}
use Rattle.vault_state.proofs.Ways.{path_of-step}

-- a place's way is its parent's, and then its name; the place is read from the list
pub path_of-next : (tree : List Place) (p r : ℕ) (x : Place) → Rises tree → p ≤ length tree → Some r ≡ parent_of tree p → x ≡ slice_index_or tree (p - 1) x → path_of tree p ≡ path_of tree r ++ x.name ∷ []
path_of-next tree zero r x rises there e is = cc
path_of-next tree (suc p) r x rises there e is =
    let before : suc p - 1 ≡ p = omega arith in
    let read : slice_get tree p ≡ Some x = slice_get-get_or tree p x (omega arith) ∙ ap Some (ap (λ i. slice_index_or tree i x) (sym before) ∙ sym is) in
    let above : Some x.parent ≡ parent_of tree (suc p) = sym (ap (option_map (λ (place : Place). place.parent)) read) in
    let same : x.parent ≡ r = cc in
    path_of-step tree p x rises read ∙ ap (λ q. path_of tree q ++ x.name ∷ []) same
