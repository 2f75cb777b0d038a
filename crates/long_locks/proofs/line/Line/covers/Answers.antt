use Rattle.std.proofs.Common.{subst, sym, ◌∙◌}
use Rattle.long_locks.specs.Lines.{LineSeen, IsGrownFrom}
use Rattle.long_locks.proofs.LinesKept.{covers}
use Rattle.long_locks.proofs.line.Line.covers.Goals as goal

pub returns : goal.returns
returns g c =
    let grown = subst (λ (l : LineSeen). IsGrownFrom l.tree c.args.tree.now) (sym c.self.view_is) c.requires.grown in
    rw (← c.self.view_is) (c.held_over.ensures ∙ covers _ c.self.inside.table c.self.invariant c.args.tree.now grown c.args.place c.see_whole.ensures)
