use Rattle.std.proofs.Common.{arith}
use Rattle.vault_format.proofs.Adding.{long_counted}
use Rattle.vault_store.proofs.snapshot.spelling.long_count.Goals as goal

pub loop-position-preserved : goal.loop-position-preserved
loop-position-preserved g c = record {
  counted = omega (arith, long_counted c.args.book.now.line c.loop-position.position c.claim_at.result.now c.claim_at.ensures, c.loop-position.invariant.counted, c.as_count-count.ensures.count);
  few = omega (arith, c.loop-position.invariant.few, c.as_count-count.ensures.least);
}
