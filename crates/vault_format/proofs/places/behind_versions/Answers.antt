use Rattle.std.proofs.Common.{arith}
use Rattle.vault_format.proofs.Ahead.{contents_more, fewer_contents}
use Rattle.vault_format.proofs.places.behind_versions.Goals as goal

pub returns-in_default-clause-none : goal.returns-in_default-clause-none
returns-in_default-clause-none c = λ same.
    fewer_contents c.loop.counter c.args.bytes.now c.loop.rest.now c.loop.invariant c.args.count (omega (arith, c.loop-test.true, c.from-end.ensures)) c.in_default.ensures

pub loop-preserved : goal.loop-preserved
loop-preserved c =
    contents_more c.loop.counter c.args.bytes.now c.loop.rest.now c.loop.invariant (λ i. omega (arith, c.type_inv.bytes i)) c.in-Some.field-0-0.now c.in-Some.behind.now c.in-Some.ensures
