use Rattle.std.proofs.Common.{arith}
use Rattle.vault_state.specs.declared.claims.Claim.{Claim}
use Rattle.vault_inspector.specs.Counts.{own_drafts}
use Rattle.vault_inspector.proofs.Counting.{sum_next}
use Rattle.vault_inspector.proofs.counts.draft_count.Goals as goal

pub loop-position-preserved : goal.loop-position-preserved
loop-position-preserved g c =
    let next = sum_next (λ (d : Claim). own_drafts c.args.book.now.drafts d.id) c.args.book.now.line c.loop-position.position c.claim_at.result.now c.claim_at.ensures in
    record {
      counted = omega (arith, next, c.loop-position.invariant.counted, c.own_drafts.ensures);
      few = omega (arith, c.loop-position.invariant.few);
    }
