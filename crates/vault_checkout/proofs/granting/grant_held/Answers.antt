use Rattle.std.proofs.Common.{rules}
use Rattle.vault_checkout.proofs.Passes.{all_turned}
use Rattle.std.proofs.lemmas.List.Edits.{map_over_more}
use Rattle.check_outs.specs.Typed.{granted}
use Rattle.vault_checkout.proofs.granting.grant_held.Goals as goal

pub loop-check_out-preserved : goal.loop-check_out-preserved
loop-check_out-preserved g c = λ tree whole grown.
    rw (c.grant_held_one.ensures tree whole grown, ← c.check_out-item.is)
    (map_over_more (granted tree c.args.line.now.claims) c.args.check_outs.now.items c.loop-check_out.check_out-items c.loop-check_out.check_out-index c.check_out-item.result (rw c.deref_mut-check_out-items.ensures.value at c.loop-check_out-test.true) (c.loop-check_out.invariant tree whole grown) c.check_out-item.is)

pub returns : goal.returns
returns g c = λ tree whole grown.
    all_turned (granted tree c.args.line.now.claims) c.args.check_outs.now.items c.loop-check_out.check_out-items c.loop-check_out.check_out-index c.args.check_outs.now.len (c.loop-check_out.invariant tree whole grown) (search rules) c.args.check_outs.now.ok.0
