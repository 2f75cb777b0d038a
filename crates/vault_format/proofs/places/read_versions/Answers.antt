use Rattle.std.proofs.Common.{◌≡◌, ℕ, subst, arith}
use Rattle.vault_format.proofs.Refusals.{none_refused, passed}
use Rattle.vault_format.proofs.VersionsRead.{AreReadSo, one_more_read, all_read, not_all_read}
use Rattle.vault_format.proofs.places.read_versions.Goals as goal

pub returns-in_err-rest-clause-refused : goal.returns-in_err-rest-clause-refused
returns-in_err-rest-clause-refused g c = λ same.
    not_all_read c.args.part c.args.shelf.now c.args.bytes.now c.loop.shelf c.in-Some.after.now c.loop.rest.now c.in-Some.count c.loop.counter (λ i. omega (arith, c.type_inv.bytes i)) c.in-Some.ensures c.loop-test.true c.loop.invariant
    (passed c.from_residual.result c.in_err-rest.field-0.0 c.from_residual.ensures.1 c.in_err-rest.ensures.refused same)

pub loop-preserved : goal.loop-preserved
loop-preserved g c =
    one_more_read c.loop.counter c.args.part c.args.shelf.now c.loop.shelf c.read_version.new.shelf c.in-Some.after.now c.loop.rest.now c.in_ok-rest.rest.now c.loop.invariant c.in_ok-rest.ensures.read c.in_ok-rest.ensures.shelf

pub returns-clause-read : goal.returns-clause-read
returns-clause-read g c =
    let all : c.loop.counter ≡ c.in-Some.count = omega (arith, c.loop-test.false) in
    all_read c.args.part c.args.shelf.now c.args.bytes.now c.loop.shelf c.in-Some.after.now c.loop.rest.now c.in-Some.count (λ i. omega (arith, c.type_inv.bytes i)) c.in-Some.ensures
    (subst (λ (n : ℕ). AreReadSo n c.args.part c.args.shelf.now c.loop.shelf c.in-Some.after.now c.loop.rest.now) all c.loop.invariant)

pub returns-clause-refused : goal.returns-clause-refused
returns-clause-refused g c = none_refused _ _
