use Rattle.std.proofs.Common.{ℕ, ◌+◌, List, [], ◌∷◌, ◌++◌, ap, subst, sym, ◌∙◌}
use Rattle.vault_state.specs.Claims.{new_check_out}
use Rattle.long_locks.specs.Lines.{LineSeen, IsGrownFrom}
use Rattle.long_locks.proofs.LinesKept.{there_grown, weighed_grown, new_long, line_long}
use Rattle.long_locks.proofs.line.Line.ask_long.Goals as goal

pub put_last-requires-clause-claims : goal.put_last-requires-clause-claims
put_last-requires-clause-claims g c =
    let grown = subst (λ (l : LineSeen). IsGrownFrom l.tree c.args.tree.now) (sym c.self.view_is) c.requires.grown in
    there_grown _ c.self.inside.table c.self.invariant c.args.tree.now grown

pub put_last-requires-clause-table : goal.put_last-requires-clause-table
put_last-requires-clause-table g c =
    let grown = subst (λ (l : LineSeen). IsGrownFrom l.tree c.args.tree.now) (sym c.self.view_is) c.requires.grown in
    weighed_grown _ c.self.inside.table c.self.invariant c.args.tree.now grown

pub put_last-requires-clause-new : goal.put_last-requires-clause-new
put_last-requires-clause-new g c = new_long _ c.self.inside.table c.self.invariant

pub invariant_of-self-2 : goal.invariant_of-self-2
invariant_of-self-2 g c =
    let grown = subst (λ (l : LineSeen). IsGrownFrom l.tree c.args.tree.now) (sym c.self.view_is) c.requires.grown in
    let noted = λ (note : List ℕ). c.self.inside.claims.claims ++ record (new_check_out (c.self.inside.last_long + 1) c.args.owner c.args.items) { note = note } ∷ [] in
    let asked = c.in_ok-standing.ensures.asked ∙ ap noted c.new.ensures in
    let zip = rw asked at c.in_ok-standing.ensures.table in
    rw (asked, c.of-self-inside.ensures)
    (line_long _ c.self.inside.table c.self.invariant c.args.tree.now c.see_whole.ensures grown c.args.items c.requires.items c.put_last.new.table c.args.owner zip)
