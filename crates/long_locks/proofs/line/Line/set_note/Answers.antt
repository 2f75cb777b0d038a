use Rattle.std.proofs.Common.{refl}
use Rattle.vault_state.specs.Claims.{noted_as}
use Rattle.vault_state.specs.declared.ids.ClaimId.TheVariants.{Long}
use Rattle.long_locks.proofs.LinesKept.{line_changed}
use Rattle.long_locks.proofs.line.Line.set_note.Goals as goal

pub invariant_of-self : goal.invariant_of-self
invariant_of-self g c = rw c.set_note.ensures (line_changed _ c.self.inside.table c.self.invariant (Long c.args.number) (noted_as c.args.note) (λ x. refl) (λ x. refl))

pub returns : goal.returns
returns g c = rw (c.set_note.ensures, ← c.self.view_is) refl
