use Rattle.std.specs.Prelude.{◌≡◌, List, None}
use Rattle.std.proofs.Common.{ap, sym, ◌∙◌, rules}
use Rattle.lock_table.specs.declared.entry.Entry.{Entry}
use Rattle.lock_table.specs.Tables.{held_in_way}
use Rattle.lock_table.proofs.Waiting.{nearby_alone}
use Rattle.lock_table.proofs.table.Table.extend.Goals as goal

pub put_first-requires-clause-enough : goal.put_first-requires-clause-enough
put_first-requires-clause-enough g c =
    let nobody : c.other_in_way.result ≡ None = search rules in
    nearby_alone c.self.inside.entries.items c.args.id c.args.locks (ap (λ (t : List Entry). held_in_way t c.args.id c.args.locks) c.self.view_is ∙ (sym c.other_in_way.ensures ∙ nobody)) c.self.invariant.1.apart
