use Rattle.std.specs.Prelude.{◌≡◌, List, None}
use Rattle.std.proofs.Common.{sym, subst, ◌∙◌, rules}
use Rattle.lock_table.specs.declared.entry.Entry.{Entry}
use Rattle.lock_table.specs.Tables.{entries_without}
use Rattle.lock_table.proofs.Removals.{index_read}
use Rattle.lock_table.proofs.Blockers.{none_out}
use Rattle.lock_table.proofs.table.Table.release.Goals as goal

pub returns-in_default : goal.returns-in_default
returns-in_default g c =
    let none : c.index_of.result ≡ None = search rules in
    let absent = none_out c.self.inside.entries.items c.args.id (index_read c.args.id _ c.deref.result.now _ c.deref.ensures.value (sym c.index_of.ensures ∙ none)) in
    subst (λ (t : List Entry). t ≡ entries_without t c.args.id) c.self.view_is (sym absent)
