use Rattle.std.proofs.Common.{arith}
use Rattle.vault_store.proofs.Begun.{all_same}
use Rattle.vault_pairing.proofs.earlier.are_first_places.Goals as goal

pub returns : goal.returns
returns g c = all_same c.args.later.now c.args.earlier.now (λ i within. c.loop-number.invariant i (omega (arith, within, c.loop-number-test.false, c.len-number-end.ensures)))
