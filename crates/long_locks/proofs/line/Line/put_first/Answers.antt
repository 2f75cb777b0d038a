use Rattle.std.specs.Prelude.{◌≡◌, None, true, is_some}
use Rattle.std.proofs.Common.{subst, sym}
use Rattle.vault_state.specs.Claims.{claim_of}
use Rattle.lock_table.specs.Tables.{AreLocksOf}
use Rattle.long_locks.specs.Lines.{LineSeen, IsGrownFrom}
use Rattle.long_locks.proofs.LinesKept.{weighed_grown}
use Rattle.long_locks.proofs.Extensions.{entry_there, line_extended, zip_first}
use Rattle.long_locks.proofs.line.Line.put_first.Goals as goal

pub put_first-requires : goal.put_first-requires
put_first-requires g c =
    let stands : is_some (claim_of c.self.inside.claims.claims c.args.id) ≡ true = subst (λ (l : LineSeen). is_some (claim_of l.claims c.args.id) ≡ true) (sym c.self.view_is) c.requires.there in
    record { there = entry_there _ c.self.inside.claims.claims c.self.inside.table c.self.invariant.weighed c.args.id stands }

pub invariant_of-self-2 : goal.invariant_of-self-2
invariant_of-self-2 g c =
    let grown = subst (λ (l : LineSeen). IsGrownFrom l.tree c.args.tree.now) (sym c.self.view_is) c.requires.grown in
    let stands : is_some (claim_of c.self.inside.claims.claims c.args.id) ≡ true = subst (λ (l : LineSeen). is_some (claim_of l.claims c.args.id) ≡ true) (sym c.self.view_is) c.requires.there in
    let are : AreLocksOf c.args.tree.now c.args.items c.lock_set.result = record { apart = c.lock_set.ensures.apart; modes = rw c.as_slice.ensures.items at c.lock_set.ensures.modes } in
    let weighed = weighed_grown _ c.self.inside.table c.self.invariant c.args.tree.now grown in
    rw (c.put_first-2.ensures, c.of-self-inside.ensures, c.in_ok-put_first.ensures.put)
    (line_extended _ c.self.inside.table c.self.invariant c.args.tree.now c.see_whole.ensures grown c.args.id c.args.items c.requires.items None _
    (zip_first c.args.tree.now c.self.inside.claims.claims c.self.inside.table weighed c.args.id c.args.items c.lock_set.result are stands))
