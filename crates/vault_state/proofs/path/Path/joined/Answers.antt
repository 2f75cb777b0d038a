use Rattle.std.proofs.Common.{◌<◌, arith, ap, length-take-le, length}
use Rattle.vault_state.specs.Limits.{most_names}
use Rattle.vault_state.proofs.Filled.{joined_fills}
use Rattle.vault_state.proofs.path.Path.joined.Goals as goal

pub invariant_of-result : goal.invariant_of-result
invariant_of-result c =
    let names = c.self.inside.names in
    let len = c.self.inside.len in
    let seen = ap length c.self.view_is in
    let free : len < most_names = omega (arith, length-take-le len names c.self.invariant.within) in
    joined_fills names len c.args.name c.self.invariant free
