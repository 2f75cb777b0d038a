use Rattle.std.proofs.Common.{sym, ◌∙◌}
use Rattle.std.specs.List.{IsDistinct}
use Rattle.long_locks.proofs.Apart.{not_apart, apart_more}
use Rattle.long_locks.proofs.from_claims.are_apart.Goals as goal

pub loop-index-init : goal.loop-index-init
unfolding IsDistinct
loop-index-init c = tt

pub returns-then-has_id : goal.returns-then-has_id
returns-then-has_id c = (λ e. cc, not_apart c.args.claims.now c.loop-index.index c.index-claims-index.result c.loop-index-test.true c.index-claims-index.is (sym c.has_id.ensures ∙ c.if-has_id.true))

pub loop-index-preserved : goal.loop-index-preserved
loop-index-preserved c = apart_more c.args.claims.now c.loop-index.index c.index-claims-index.result c.loop-index-test.true c.index-claims-index.is c.loop-index.invariant (sym c.has_id.ensures ∙ c.if-has_id.false)
