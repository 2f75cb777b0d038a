use Rattle.std.proofs.Common.{◌≡◌, ap, arith, length, take}
use Rattle.std.specs.Prelude.{sum_by}
use Rattle.vault_state.specs.declared.claims.Claim.{Claim}
use Rattle.vault_inspector.specs.Figures.{own_weight}
use Rattle.vault_inspector.proofs.Counting.{sum_next}
use Rattle.vault_inspector.proofs.Weighing.{light_so_far, light_at_end}
use Rattle.vault_inspector.proofs.figures.draft_weight.Goals as goal

pub own_weight-total-requires : goal.own_weight-total-requires
own_weight-total-requires g c =
    let light = light_so_far c.args.book.now c.check_out_of.ensures.well_formed c.loop-position.position c.claim_at.result.now c.claim_at.ensures in
    omega (arith, light)

pub overflow_add-total : goal.overflow_add-total
overflow_add-total g c =
    let light = light_so_far c.args.book.now c.check_out_of.ensures.well_formed c.loop-position.position c.claim_at.result.now c.claim_at.ensures in
    omega (arith, light, c.loop-position.invariant.counted, c.own_weight-total.ensures)

pub loop-position-preserved : goal.loop-position-preserved
loop-position-preserved g c =
    let next = sum_next (λ (d : Claim). own_weight c.args.book.now.drafts d.id) c.args.book.now.line c.loop-position.position c.claim_at.result.now c.claim_at.ensures in
    record { counted = omega (arith, next, c.loop-position.invariant.counted, c.own_weight-total.ensures) }

pub returns-clause-light : goal.returns-clause-light
returns-clause-light g c =
    light_at_end c.args.book.now c.check_out_of.ensures.well_formed c.loop-position.position c.loop-position.total
    (omega (arith, c.loop-position-test.false, c.len-position-end.ensures, ap length c.line.ensures.claims)) c.loop-position.invariant.counted
