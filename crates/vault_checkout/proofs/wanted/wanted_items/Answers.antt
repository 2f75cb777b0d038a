use Rattle.std.proofs.Common.{◌≡◌, ◌<◌, length, arith, sym}
use Rattle.std.proofs.lemmas.Bool.Decides.{nat_tests}
use Rattle.vault_model.proofs.Kept.{length-placed}
use Rattle.vault_checkout.proofs.wanted.wanted_items.Goals as goal

pub returns-clause-some : goal.returns-clause-some
returns-clause-some g c =
    let empty = c.is_empty.ensures in
    let not_empty = c.if-is_empty.false in
    let some : 0 < length c.args.wanted.now = grind (arith, nat_tests, empty, not_empty) in
    let same : length c.in-Some.items ≡ length c.args.wanted.now = length-placed c.args.tree.now c.args.wanted.now c.in-Some.items (sym c.in-Some.ensures.placed) in
    omega arith
