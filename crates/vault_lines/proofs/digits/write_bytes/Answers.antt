use Rattle.std.proofs.Common.{◌+◌, ◌*◌, [], slice_index, arith, ap}
use Rattle.std.specs.Result.{result_ok}
use Rattle.hex.proofs.Pairs.{decode_start, decode_step, decode_done, decode_err}
use Rattle.vault_lines.proofs.DigitPairs.{pair_is, pair_refused}
use Rattle.vault_lines.proofs.digits.write_bytes.Goals as goal

pub bytes-init : goal.bytes-init
bytes-init c = decode_start _ []

pub bytes-preserved : goal.bytes-preserved
bytes-preserved c =
    decode_step _ _ c.bytes.i _ (omega (arith, c.requires, c.bytes-test.true)) (omega (arith, c.bytes-test.true, c.bytes.auto.bytes))
    (pair_is (slice_index c.args.digits.now (2 * c.bytes.i)) (slice_index c.args.digits.now (2 * c.bytes.i + 1)) (2 * c.bytes.i) _ _
    c.worth_of-high.ensures c.worth_of-low.ensures (omega arith) (omega arith)) c.bytes.invariant

pub returns-then-high-gt15-clause-refused : goal.returns-then-high-gt15-clause-refused
returns-then-high-gt15-clause-refused c =
    let bad = pair_refused (slice_index c.args.digits.now (2 * c.bytes.i)) (slice_index c.args.digits.now (2 * c.bytes.i + 1)) (2 * c.bytes.i) _ _
    c.worth_of-high.ensures c.worth_of-low.ensures c.then-high-gt15.either in
    λ no. ap result_ok (decode_err _ c.bytes.bytes c.bytes.i bad.0 (omega (arith, c.requires, c.bytes-test.true)) bad.1 c.bytes.invariant)

pub returns-clause-written : goal.returns-clause-written
returns-clause-written c =
    λ all. decode_done _ c.bytes.bytes c.bytes.i (omega (arith, c.bytes-test.false, c.bytes.auto.bytes)) (omega (arith, c.requires, c.bytes-test.false))
    c.bytes.invariant
