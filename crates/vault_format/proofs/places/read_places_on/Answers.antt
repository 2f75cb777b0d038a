use Rattle.std.proofs.Common.{length, ap, arith}
use Rattle.std.proofs.lemmas.List.{length_push}
use Rattle.vault_format.specs.Snapshot.{current_version}
use Rattle.vault_format.specs.Places.{AreFieldsAt}
use Rattle.vault_format.proofs.PlacesRead.{one_place_more, fewer_places}
use Rattle.vault_format.proofs.Refusals.{passed}
use Rattle.vault_format.proofs.Ahead.{no_place_found, place_found, none_whatever_follows}
use Rattle.vault_format.proofs.places.read_places_on.Goals as goal

pub loop-number-preserved : goal.loop-number-preserved
loop-number-preserved g c =
    let read = c.in_ok-rest.ensures.read in
    let size = c.loop-number.invariant.size in
    record {
      so =
          one_place_more current_version c.args.tree.now c.args.shelf.now c.loop-number.tree c.loop-number.shelf c.read_place.new.tree c.read_place.new.shelf
          c.args.bytes.now c.loop-number.rest.now c.in_ok-rest.rest.now c.loop-number.invariant.so read;
      size = omega (arith, size, ap length read.grown, length_push c.loop-number.tree read.place);
      few = λ fewer. omega (arith, size, ap length read.grown, length_push c.loop-number.tree read.place, c.loop-number-test.true);
    }

pub returns-then-is_none-clause-all : goal.returns-then-is_none-clause-all
returns-then-is_none-clause-all g c = λ within. c.behind_place.ensures.none (no_place_found c.behind_place.result c.is_none.result c.is_none.ensures c.if-is_none.true)

pub returns-in_err-rest-clause-refused : goal.returns-in_err-rest-clause-refused
returns-in_err-rest-clause-refused g c = λ same more.
    let found = place_found c.behind_place.result c.is_none.result (λ behind. AreFieldsAt c.loop-number.rest.now behind.now) c.is_none.ensures c.if-is_none.false c.behind_place.ensures.there in
    let none = passed c.from_residual.result c.in_err-rest.field-0.0 c.from_residual.ensures.1 c.in_err-rest.ensures.refused same in
    fewer_places current_version c.args.tree.now c.args.shelf.now c.loop-number.tree c.loop-number.shelf c.args.bytes.now c.loop-number.rest.now more c.loop-number.invariant.so
    (none_whatever_follows c.loop-number.tree c.loop-number.shelf c.loop-number.rest.now found.0.now found.1 none more) c.args.count (omega (arith, c.loop-number.invariant.size, c.loop-number-test.true))
