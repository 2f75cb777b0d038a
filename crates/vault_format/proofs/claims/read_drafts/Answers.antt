use Rattle.std.proofs.Common.{◌≡◌, ◌≤◌, ℕ, subst, arith}
use Rattle.vault_state.specs.Limits.{most_drafts}
use Rattle.vault_format.proofs.Refusals.{none_refused, passed}
use Rattle.vault_format.proofs.DraftsRead.{AreDraftsSoFar, no_drafts_yet, one_draft_more, all_drafts, not_all_drafts}
use Rattle.vault_format.proofs.claims.read_drafts.Goals as goal

pub loop-init : goal.loop-init
loop-init g c = no_drafts_yet c.args.drafts.now.items c.in-Some.after.now c.requires

pub loop-preserved : goal.loop-preserved
loop-preserved g c = one_draft_more c.loop.counter c.loop.drafts.items c.read_draft.new.drafts.items c.in-Some.after.now c.loop.rest.now c.in_ok-rest.rest.now c.loop.invariant c.in_ok-rest.ensures.read

pub returns-in_err-rest-clause-refused : goal.returns-in_err-rest-clause-refused
returns-in_err-rest-clause-refused g c = λ same.
    not_all_drafts c.args.bytes.now c.in-Some.count c.in-Some.after.now c.in-Some.ensures c.loop.counter c.loop.drafts.items c.loop.rest.now c.loop-test.true c.loop.invariant
    (passed c.from_residual.result c.in_err-rest.field-0.0 c.from_residual.ensures.1 c.in_err-rest.ensures.refused same)

pub returns-clause-read : goal.returns-clause-read
returns-clause-read g c =
    let all : c.loop.counter ≡ c.in-Some.count = omega (arith, c.loop-test.false) in
    let few : c.in-Some.count ≤ most_drafts = omega arith in
    all_drafts c.args.bytes.now c.in-Some.count c.in-Some.after.now c.in-Some.ensures c.loop.drafts.items c.loop.rest.now few
    (subst (λ (n : ℕ). AreDraftsSoFar n c.loop.drafts.items c.in-Some.after.now c.loop.rest.now) all c.loop.invariant)

pub returns-clause-refused : goal.returns-clause-refused
returns-clause-refused g c = none_refused _ _
