use Rattle.std.specs.Prelude.{◌≡◌, None, Some}
use Rattle.std.proofs.Common.{◌∙◌, sym, rules}
use Rattle.lock_table.proofs.Queuing.{standing_beside, standing_absent}
use Rattle.long_locks.proofs.LinesKept.{stands}
use Rattle.long_locks.proofs.Zips.{zip_position}
use Rattle.long_locks.proofs.line.Line.standing.Goals as goal

pub returns-in_err-position : goal.returns-in_err-position
returns-in_err-position g c =
    let none : c.position_of.result ≡ None = search rules in
    let nothing : c.from_residual.result ≡ None = search rules in
    let at = zip_position c.self.inside.tree.value c.self.inside.claims.claims c.self.inside.table c.self.invariant.weighed c.args.id ∙ (sym c.position_of.ensures ∙ none) in
    rw (← c.self.view_is) (λ tree whole grown. nothing ∙ standing_absent c.self.inside.table c.args.id at ∙ stands _ c.self.inside.table c.self.invariant tree grown c.args.id whole)

pub returns : goal.returns
returns g c =
    let some : c.position_of.result ≡ Some c.in_ok-position.position = search rules in
    let at = zip_position c.self.inside.tree.value c.self.inside.claims.claims c.self.inside.table c.self.invariant.weighed c.args.id ∙ (sym c.position_of.ensures ∙ some) in
    rw (← c.self.view_is) (λ tree whole grown.
    c.standing_at.ensures ∙ standing_beside c.self.inside.table c.args.id c.in_ok-position.position at ∙ stands _ c.self.inside.table c.self.invariant tree grown c.args.id whole)
