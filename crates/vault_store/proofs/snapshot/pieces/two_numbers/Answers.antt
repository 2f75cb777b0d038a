use Rattle.std.proofs.Common.{arith}
use Rattle.vault_store.proofs.InPieces.{numbers_read, numbers_fit}
use Rattle.vault_store.proofs.snapshot.pieces.two_numbers.Goals as goal

pub returns-clause-numbers : goal.returns-clause-numbers
returns-clause-numbers c = numbers_read c.args.bytes.now c.in_ok-first.first c.in_ok-second.second c.in_ok-first.rest.now _ (λ i. omega (arith, c.type_inv.bytes i)) c.requires c.in_ok-first.ensures c.in_ok-second.ensures

pub returns-clause-fit : goal.returns-clause-fit
returns-clause-fit c = numbers_fit c.args.bytes.now c.in_ok-first.first c.in_ok-second.second c.in_ok-first.rest.now _ (λ i. omega (arith, c.type_inv.bytes i)) c.in_ok-first.ensures c.in_ok-second.ensures
