use Rattle.std.proofs.Common.{◌≡◌, [], ◌∷◌, ◌++◌, length, suc, arith, sym, ap, ◌∙◌, length-append}
use Rattle.vault_state.specs.declared.place.Place.{Place}
use Rattle.vault_state.specs.Tree.{depth}
use Rattle.vault_state.proofs.Walks.{depth-step}
use Rattle.design_tree.proofs.Ways.{path_of-next}
use Rattle.design_tree.proofs.walk.+path_in.Goals as goal

pub joined-requires : goal.joined-requires
joined-requires t c =
    let step : depth c.args.places.now c.args.place ≡ suc (depth c.args.places.now c.in-Some.parent) = depth-step _ _ _ c.requires.tree.parents (sym c.in-Some.ensures) in
    omega (arith, c.requires.tree.shallow c.args.place, c.path_in.ensures.len)

pub returns-clause-path : goal.returns-clause-path
returns-clause-path t c =
    let name = c.index-places-number.result.name in
    let read = rw c.number.ensures at c.index-places-number.is in
    let named : c.joined.result ≡ c.path_in.result ++ name ∷ [] = c.joined.ensures ∙ ap (λ (x : Place). c.path_in.result ++ x.name ∷ []) (sym c.index-places-number.is) in
    named ∙ ap (λ way. way ++ name ∷ []) c.path_in.ensures.path
    ∙ sym (path_of-next c.args.places.now c.args.place c.in-Some.parent c.index-places-number.result c.requires.tree.parents c.requires.there c.in-Some.ensures read)

pub returns-clause-len : goal.returns-clause-len
returns-clause-len t c =
    let name = c.index-places-number.result.name in
    let step : depth c.args.places.now c.args.place ≡ suc (depth c.args.places.now c.in-Some.parent) = depth-step _ _ _ c.requires.tree.parents (sym c.in-Some.ensures) in
    let named : c.joined.result ≡ c.path_in.result ++ name ∷ [] = c.joined.ensures ∙ ap (λ (x : Place). c.path_in.result ++ x.name ∷ []) (sym c.index-places-number.is) in
    ap length named ∙ omega (arith, length-append c.path_in.result (name ∷ []), c.path_in.ensures.len)
