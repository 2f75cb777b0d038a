use Rattle.std.proofs.Common.{refl}
use Rattle.long_locks.proofs.LinesKept.{line_without}
use Rattle.long_locks.proofs.line.Line.drop_claim.Goals as goal

pub invariant_of-self : goal.invariant_of-self
invariant_of-self g c =
    rw (c.remove.ensures, c.release.ensures) (line_without _ c.self.inside.table c.self.invariant c.args.id)

pub returns : goal.returns
returns g c =
    rw (c.remove.ensures, ← c.self.view_is) refl
