use Rattle.std.proofs.Common.{subst, sym}
use Rattle.long_locks.specs.Lines.{LineSeen, IsGrownFrom, in_way_of}
use Rattle.long_locks.proofs.LinesKept.{weighed_grown}
use Rattle.long_locks.proofs.Extensions.{line_extended}
use Rattle.long_locks.proofs.line.Line.extend.Goals as goal

pub extend-requires-clause-table : goal.extend-requires-clause-table
extend-requires-clause-table g c =
    let grown = subst (λ (l : LineSeen). IsGrownFrom l.tree c.args.tree.now) (sym c.self.view_is) c.requires.grown in
    weighed_grown _ c.self.inside.table c.self.invariant c.args.tree.now grown

pub invariant_of-self-2 : goal.invariant_of-self-2
invariant_of-self-2 g c =
    let grown = subst (λ (l : LineSeen). IsGrownFrom l.tree c.args.tree.now) (sym c.self.view_is) c.requires.grown in
    let zip = rw c.in_ok-extension.ensures.extended at c.in_ok-extension.ensures.table in
    let before : LineSeen = record { claims = c.self.inside.claims.claims; last_long = c.self.inside.last_long; last_short = c.self.inside.last_short; tree = c.self.inside.tree.value } in
    rw (c.in_ok-extension.ensures.extended, c.of-self-inside.ensures)
    (line_extended before c.self.inside.table c.self.invariant c.args.tree.now c.see_whole.ensures grown c.args.id c.args.items c.requires.items (in_way_of c.args.tree.now c.self.inside.claims.claims c.args.id c.args.items) c.extend.new.table zip)
