use Rattle.std.specs.Prelude.{Some, position}
use Rattle.std.proofs.Common.{ap, ◌∙◌}
use Rattle.std.specs.Option.{option_or}
use Rattle.vault_state.specs.Claims.{same_id}
use Rattle.lock_table.specs.declared.entry.Entry.{Entry}
use Rattle.lock_table.proofs.Positions.{earlier_within}
use Rattle.lock_table.proofs.queues.earlier_of.Goals as goal

pub returns-in-Some-first : goal.returns-in-Some-first
returns-in-Some-first g c =
    let same = λ (e : Entry). same_id e.id c.in-Some.id in
    let most = c.in-Some-first.most in
    c.or.ensures ∙ (ap (λ o. option_or o (Some most)) (c.index_of-in-Some-first.ensures ∙ ap (position same) c.before-in-Some-first.ensures)
    ∙ rw (c.in-Some-first.is, c.in-Some.is) (earlier_within same most c.args.entries.now))
