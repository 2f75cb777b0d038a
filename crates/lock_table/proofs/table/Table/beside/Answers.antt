use Rattle.std.specs.Prelude.{◌≡◌, None, Some, length}
use Rattle.std.proofs.Common.{ap, sym, ◌∙◌, arith, rules}
use Rattle.std.proofs.lemmas.List.{length-map}
use Rattle.lock_table.specs.Queues.{blocker_at}
use Rattle.lock_table.proofs.Removals.{index_read}
use Rattle.lock_table.proofs.Queuing.{located, Waits, waits_absent, waits_beside}
use Rattle.lock_table.proofs.table.Table.beside.Goals as goal

pub returns-in_err-index : goal.returns-in_err-index
returns-in_err-index g c =
    let none : c.index_of.result ≡ None = search rules in
    let nothing : c.from_residual.result ≡ None = search rules in
    nothing ∙ (waits_absent c.self.inside.entries.items c.args.id (index_read c.args.id _ c.deref.result.now _ c.deref.ensures.value (sym c.index_of.ensures ∙ none)) ∙ ap (λ t. Waits t c.args.id) c.self.view_is)

pub index-requires : goal.index-requires
index-requires g c =
    let table = c.self.inside.entries.items in
    let some : c.index_of.result ≡ Some c.in_ok-index.index = search rules in
    let at = index_read c.args.id table c.deref.result.now _ c.deref.ensures.value (sym c.index_of.ensures ∙ some) in
    let inside = (located table c.args.id c.in_ok-index.index at).inside in
    let many = ap length c.self.invariant.2 ∙ length-map table (blocker_at table) in
    omega (arith, inside, many, c.self.inside.blockers.ok.0)

pub returns : goal.returns
returns g c =
    let table = c.self.inside.entries.items in
    let some : c.index_of.result ≡ Some c.in_ok-index.index = search rules in
    let at = index_read c.args.id table c.deref.result.now _ c.deref.ensures.value (sym c.index_of.ensures ∙ some) in
    waits_beside table c.self.inside.blockers.items c.args.id c.in_ok-index.index c.index.result.now c.self.invariant.2 at c.index.ensures ∙ ap (λ t. Waits t c.args.id) c.self.view_is
