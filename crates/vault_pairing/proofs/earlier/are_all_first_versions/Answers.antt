use Rattle.std.proofs.Common.{ap, arith, length, refl}
use Rattle.vault_store.proofs.Begun.{all_begun}
use Rattle.vault_pairing.proofs.earlier.are_all_first_versions.Goals as goal

pub returns : goal.returns
returns g c = (
  λ holds. all_begun c.args.earlier.now.tree c.args.earlier.now.shelf c.args.later.now.shelf c.requires.versions
      (λ place within. c.loop-number.invariant place (omega (arith, within, c.loop-number-test.false, c.len-number-end.ensures, ap length c.tree.ensures))),
  λ begins. refl,
)
