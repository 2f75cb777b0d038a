use Rattle.std.proofs.Common.{arith}
use Rattle.vault_state.specs.Shelf.{versions_of}
use Rattle.vault_store.proofs.Begun.{all_same}
use Rattle.vault_pairing.proofs.earlier.are_first_versions.Goals as goal

pub returns : goal.returns
returns g c = all_same (versions_of c.args.later.now c.args.place) (versions_of c.args.earlier.now c.args.place) (λ i within. c.loop-index.invariant i (omega (arith, within, c.loop-index-test.false, c.count-index-end.ensures.count)))
