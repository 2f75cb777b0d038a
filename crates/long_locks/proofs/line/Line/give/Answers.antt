use Rattle.std.proofs.Common.{refl}
use Rattle.vault_state.specs.Claims.{given_to}
use Rattle.vault_state.specs.declared.ids.ClaimId.TheVariants.{Long}
use Rattle.long_locks.proofs.LinesKept.{line_changed}
use Rattle.long_locks.proofs.line.Line.give.Goals as goal

pub invariant_of-self : goal.invariant_of-self
invariant_of-self g c = rw c.give.ensures (line_changed _ c.self.inside.table c.self.invariant (Long c.args.number) (given_to c.args.designer) (λ x. refl) (λ x. refl))

pub returns : goal.returns
returns g c = rw (c.give.ensures, ← c.self.view_is) refl
