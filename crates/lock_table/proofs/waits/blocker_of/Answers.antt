use Rattle.std.specs.Prelude.{◌≡◌, None, Some, take}
use Rattle.std.proofs.Common.{ap, sym, subst, ◌∙◌, rules}
use Rattle.std.proofs.lemmas.Option.{same_Some}
use Rattle.lock_table.specs.declared.entry.Entry.{Entry}
use Rattle.lock_table.specs.Tables.{first_in_way}
use Rattle.lock_table.specs.Queues.{request_in_way}
use Rattle.lock_table.proofs.Putting.{read_at}
use Rattle.lock_table.proofs.Weighing.{found_by}
use Rattle.lock_table.proofs.Queuing.{way_none, way_lower, way_higher}
use Rattle.lock_table.proofs.waits.blocker_of.Goals as goal

pub returns-in_err-first : goal.returns-in_err-first
returns-in_err-first g c = λ e there.
    let x = c.index-entries-index.result in
    let same = same_Some x e (sym (read_at c.args.entries.now c.args.index x c.requires.there c.index-entries-index.is) ∙ there) in
    let none : c.in_way.result ≡ None = search rules in
    let nothing : c.from_residual.result ≡ None = search rules in
    subst (λ (y : Entry). c.from_residual.result ≡ first_in_way (take c.args.index c.args.entries.now) y.locks) same
    (nothing ∙ sym (way_none c.args.queues.now c.args.entries.now x.locks c.args.index c.requires.distinct (found_by c.args.queues.now c.args.entries.now c.requires.requested.held c.requires.requested.requests) (sym (c.in_way.ensures ∙ ap (request_in_way c.args.entries.now c.args.queues.now) c.locks.ensures) ∙ none)))

pub returns-then-first-index : goal.returns-then-first-index
returns-then-first-index g c = λ e there.
    let x = c.index-entries-index.result in
    let same = same_Some x e (sym (read_at c.args.entries.now c.args.index x c.requires.there c.index-entries-index.is) ∙ there) in
    let some : c.in_way.result ≡ Some c.in_ok-first.first = search rules in
    subst (λ (y : Entry). c.id_at.result ≡ first_in_way (take c.args.index c.args.entries.now) y.locks) same
    (c.id_at.ensures ∙ sym (way_lower c.args.queues.now c.args.entries.now x.locks c.args.index c.in_ok-first.first c.requires.distinct (found_by c.args.queues.now c.args.entries.now c.requires.requested.held c.requires.requested.requests) (sym (c.in_way.ensures ∙ ap (request_in_way c.args.entries.now c.args.queues.now) c.locks.ensures) ∙ some) c.if-first-index.true))

pub returns : goal.returns
returns g c = λ e there.
    let x = c.index-entries-index.result in
    let same = same_Some x e (sym (read_at c.args.entries.now c.args.index x c.requires.there c.index-entries-index.is) ∙ there) in
    let some : c.in_way.result ≡ Some c.in_ok-first.first = search rules in
    subst (λ (y : Entry). None ≡ first_in_way (take c.args.index c.args.entries.now) y.locks) same
    (sym (way_higher c.args.queues.now c.args.entries.now x.locks c.args.index c.in_ok-first.first c.requires.distinct (found_by c.args.queues.now c.args.entries.now c.requires.requested.held c.requires.requested.requests) (sym (c.in_way.ensures ∙ ap (request_in_way c.args.entries.now c.args.queues.now) c.locks.ensures) ∙ some) c.if-first-index.false))
