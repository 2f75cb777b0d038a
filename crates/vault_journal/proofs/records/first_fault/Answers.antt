use Rattle.std.proofs.Common.{◌≢◌, [], length, ap, arith}
use Rattle.std.proofs.lemmas.Bool.Decides.{nat_tests}
use Rattle.vault_journal.specs.Reading.{effect_at}
use Rattle.vault_journal.proofs.OneSpelling.{one_more, shorter, first_fault, record_before, no_record}
use Rattle.vault_journal.proofs.records.first_fault.Goals as goal

pub loop-rest-smaller : goal.loop-rest-smaller
loop-rest-smaller g c =
    let read = c.loop-rest.invariant in
    let found = record_before (effect_at c.loop-rest.rest.now) c.in-Some.after.now c.in-Some.ensures in
    shorter read.0 c.args.bytes.now c.loop-rest.rest.now (λ i. omega (arith, c.type_inv.bytes i)) read.1 found.0 c.in-Some.after.now found.1

pub loop-rest-preserved : goal.loop-rest-preserved
loop-rest-preserved g c =
    let read = c.loop-rest.invariant in
    let found = record_before (effect_at c.loop-rest.rest.now) c.in-Some.after.now c.in-Some.ensures in
    (_, one_more read.0 c.args.bytes.now c.loop-rest.rest.now (λ i. omega (arith, c.type_inv.bytes i)) read.1 found.0 c.in-Some.after.now found.1)

pub returns-in-None-clause-some : goal.returns-in-None-clause-some
returns-in-None-clause-some g c =
    let some : c.loop-rest.rest.now ≢ [] = λ empty. let none = ap length empty in let t = c.loop-rest-test.ensures in grind (arith, nat_tests) in
    let read = c.loop-rest.invariant in
    first_fault read.0 c.args.bytes.now c.loop-rest.rest.now (λ i. omega (arith, c.type_inv.bytes i)) read.1 some (no_record (effect_at c.loop-rest.rest.now) c.in-None.ensures)
