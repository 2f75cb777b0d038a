use Rattle.std.proofs.Common.{◌≡◌, Some, rules}
use Rattle.vault_model.specs.After.{after}
use Rattle.vault_store.proofs.Made.{one_made, one_unmade}
use Rattle.vault_store.proofs.journal.make_each.Goals as goal

pub loop-effect-preserved : goal.loop-effect-preserved
loop-effect-preserved g c =
    let leads : after c.loop-effect.book c.effect-item.result ≡ Some c.apply.new.self = search rules in
    one_made c.args.book.now c.loop-effect.book c.apply.new.self c.args.effects.now c.loop-effect.effect-index c.effect-item.result c.loop-effect-test.true c.effect-item.is leads c.loop-effect.invariant

pub returns-in_err-apply-clause-not_applicable : goal.returns-in_err-apply-clause-not_applicable
returns-in_err-apply-clause-not_applicable g c =
    one_unmade c.args.book.now c.loop-effect.book c.apply.new.self c.args.effects.now c.loop-effect.effect-index c.effect-item.result c.loop-effect-test.true c.effect-item.is c.loop-effect.invariant
    c.from_residual.result c.in_err-apply.field-0.0 c.in_err-apply.ensures c.from_residual.ensures.1
