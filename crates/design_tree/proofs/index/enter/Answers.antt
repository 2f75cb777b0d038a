use Rattle.std.proofs.Common.{◌≡◌, ◌<◌, [], ◌∷◌, ◌++◌, length, map, slice_set, rules, ap, ◌∙◌}
use Rattle.std.proofs.lemmas.Result.{err_from_is_err_and}
use Rattle.design_tree.specs.Index.{with_child}
use Rattle.design_tree.proofs.Indexed.{with_child-map, map-put_back}
use Rattle.design_tree.proofs.index.enter.Goals as goal

pub returns-in_err-push-clause-err : goal.returns-in_err-push-clause-err
returns-in_err-push-clause-err g c =
    let p = err_from_is_err_and c.from_residual-in_err-push.result c.from_residual-in_err-push.ensures.1 in
    rw p.1 (map-put_back (λ v. v.items) c.reserve.new.self.items c.number.result c.index_mut.result.now c.push.new.self c.index_mut.ensures.value c.in_err-push.ensures.items ∙ ap (map (λ v. v.items)) c.reserve.ensures.items)

pub returns-clause-ok : goal.returns-clause-ok
returns-clause-ok g c =
    let lists : c.push-2.new.self.items ≡ slice_set c.reserve.new.self.items c.number.result c.push.new.self ++ c.new.result ∷ [] = search rules in
    let grown : c.push.new.self.items ≡ c.index_mut.result.now.items ++ c.args.place ∷ [] = c.in_ok-push.ensures.items in
    let inside : c.number.result < length c.reserve.new.self.items = search rules in
    ap (map (λ v. v.items)) lists
    ∙ with_child-map (λ v. v.items) c.reserve.new.self.items c.number.result c.args.place c.index_mut.result.now c.push.new.self c.new.result inside c.index_mut.ensures.value grown c.new.ensures.items
    ∙ ap (λ i. with_child (map (λ v. v.items) c.reserve.new.self.items) i c.args.place) c.number.ensures
    ∙ ap (λ ls. with_child (map (λ v. v.items) ls) c.args.parent c.args.place) c.reserve.ensures.items
