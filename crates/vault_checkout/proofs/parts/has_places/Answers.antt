use Rattle.std.proofs.Common.{◌≡◌, ◌∙◌, sym, ap}
use Rattle.vault_model.specs.After.{are_there}
use Rattle.vault_model.proofs.Durable.{all_there, there_all}
use Rattle.vault_checkout.proofs.parts.has_places.Goals as goal

pub returns : goal.returns
returns g c =
    let test : c.are_there.result ≡ are_there c.args.tree.now c.args.claim.now.items = c.are_there.ensures ∙ ap (are_there c.args.tree.now) c.as_slice.ensures.items in
    (λ yes'. there_all c.args.tree.now c.args.claim.now.items (sym test ∙ yes'), λ all. test ∙ all_there c.args.tree.now c.args.claim.now.items all)
