use Rattle.std.proofs.Common.{[], length, ap, arith}
use Rattle.std.proofs.lemmas.List.{length_push}
use Rattle.vault_format.proofs.Refusals.{none_refused, passed}
use Rattle.vault_format.proofs.PlacesRead.{one_place_more, read_to, all_places, not_all_places}
use Rattle.vault_format.proofs.places.read_each_place.Goals as goal

pub returns-in_err-rest-clause-refused : goal.returns-in_err-rest-clause-refused
returns-in_err-rest-clause-refused g c = λ same.
    not_all_places c.args.version c.args.bytes.now (λ i. omega (arith, c.type_inv.bytes i)) c.in-Some.count c.in-Some.after.now c.in-Some.ensures c.loop-number.tree c.loop-number.shelf c.loop-number.rest.now
    (omega (arith, c.loop-number.invariant.size, c.loop-number-test.true)) (read_to c.args.version [] [] c.loop-number.tree c.loop-number.shelf c.in-Some.after.now c.loop-number.rest.now c.loop-number.invariant.so)
    (passed c.from_residual.result c.in_err-rest.field-0.0 c.from_residual.ensures.1 c.in_err-rest.ensures.refused same)

pub loop-number-preserved : goal.loop-number-preserved
loop-number-preserved g c =
    let read = c.in_ok-rest.ensures.read in
    record {
      so = one_place_more c.args.version [] [] c.loop-number.tree c.loop-number.shelf c.read_place.new.tree c.read_place.new.shelf c.in-Some.after.now c.loop-number.rest.now c.in_ok-rest.rest.now c.loop-number.invariant.so read;
      size = omega (arith, c.loop-number.invariant.size, ap length read.grown, length_push c.loop-number.tree read.place);
    }

pub returns-clause-read : goal.returns-clause-read
returns-clause-read g c =
    all_places c.args.version c.args.bytes.now (λ i. omega (arith, c.type_inv.bytes i)) c.in-Some.count c.in-Some.after.now c.in-Some.ensures c.loop-number.tree c.loop-number.shelf c.loop-number.rest.now
    (omega (arith, c.loop-number.invariant.size, c.loop-number-test.false, c.loop-number.auto.number-end, c.if-count-eq0.false)) (read_to c.args.version [] [] c.loop-number.tree c.loop-number.shelf c.in-Some.after.now c.loop-number.rest.now c.loop-number.invariant.so)

pub returns-clause-refused : goal.returns-clause-refused
returns-clause-refused g c = none_refused _ _
