use Rattle.std.proofs.Common.{◌≢◌, [], length, ap, arith}
use Rattle.std.proofs.lemmas.Bool.Decides.{nat_tests}
use Rattle.vault_journal.proofs.OneSpelling.{one_more, shorter, first_fault}
use Rattle.vault_journal.proofs.records.read_effects.Goals as goal

pub loop-rest-smaller : goal.loop-rest-smaller
loop-rest-smaller g c = shorter c.loop-rest.effects.items c.args.bytes.now c.loop-rest.rest.now (λ i. omega (arith, c.type_inv.bytes i)) c.loop-rest.invariant c.in-Ok.effect c.in-Ok.after.now c.in-Ok.ensures

pub loop-rest-preserved : goal.loop-rest-preserved
loop-rest-preserved g c =
    rw c.in_ok-push-in-Ok.ensures.items (one_more c.loop-rest.effects.items c.args.bytes.now c.loop-rest.rest.now (λ i. omega (arith, c.type_inv.bytes i)) c.loop-rest.invariant c.in-Ok.effect c.in-Ok.after.now c.in-Ok.ensures)

pub returns-in-Err-NotOne-clause-damage : goal.returns-in-Err-NotOne-clause-damage
returns-in-Err-NotOne-clause-damage g c =
    let some : c.loop-rest.rest.now ≢ [] = λ empty. let none = ap length empty in let t = c.loop-rest-test.ensures in grind (arith, nat_tests) in
    first_fault c.loop-rest.effects.items c.args.bytes.now c.loop-rest.rest.now (λ i. omega (arith, c.type_inv.bytes i)) c.loop-rest.invariant some (rw c.in-Err-NotOne.field-0-is at c.in-Err-NotOne.ensures)
