use Rattle.std.proofs.Common.{◌≡◌, ◌≤◌, ℕ, subst, arith}
use Rattle.vault_state.specs.Limits.{most_claims}
use Rattle.vault_format.proofs.Refusals.{none_refused, passed}
use Rattle.vault_format.proofs.ClaimsRead.{AreClaimsSoFar, no_claims_yet, one_claim_more, all_claims, not_all_claims}
use Rattle.vault_format.proofs.claims.read_claims.Goals as goal

pub loop-init : goal.loop-init
loop-init g c = no_claims_yet c.args.version c.args.claims.now.items c.args.drafts.now.items c.in-Some.after.now c.requires.claims c.requires.drafts

pub loop-preserved : goal.loop-preserved
loop-preserved g c =
    one_claim_more c.args.version c.loop.counter c.loop.claims.items c.read_claim.new.claims.items c.loop.drafts.items c.read_claim.new.drafts.items c.in-Some.after.now c.loop.rest.now c.in_ok-rest.rest.now c.loop.invariant c.in_ok-rest.ensures.read

pub returns-in_err-rest-clause-refused : goal.returns-in_err-rest-clause-refused
returns-in_err-rest-clause-refused g c = λ same.
    not_all_claims c.args.version c.args.bytes.now c.in-Some.count c.in-Some.after.now c.in-Some.ensures c.loop.counter c.loop.claims.items c.loop.drafts.items c.loop.rest.now c.loop-test.true c.loop.invariant
    (passed c.from_residual.result c.in_err-rest.field-0.0 c.from_residual.ensures.1 c.in_err-rest.ensures.refused same)

pub returns-clause-read : goal.returns-clause-read
returns-clause-read g c =
    let all : c.loop.counter ≡ c.in-Some.count = omega (arith, c.loop-test.false) in
    let few : c.in-Some.count ≤ most_claims = omega arith in
    all_claims c.args.version c.args.bytes.now c.in-Some.count c.in-Some.after.now c.in-Some.ensures (λ i. omega (arith, c.type_inv.bytes i)) c.loop.claims.items c.loop.drafts.items c.loop.rest.now few
    (subst (λ (n : ℕ). AreClaimsSoFar c.args.version n c.loop.claims.items c.loop.drafts.items c.in-Some.after.now c.loop.rest.now) all c.loop.invariant)

pub returns-clause-refused : goal.returns-clause-refused
returns-clause-refused g c = none_refused _ _
