use Rattle.std.specs.Prelude.{◌≡◌, List, Some, slice_get}
use Rattle.std.proofs.Common.{refl, subst, ap, sym, ◌∙◌}
use Rattle.std.specs.Option.{option_map, option_and_then}
use Rattle.lock_table.specs.declared.locks.Lock.{Lock}
use Rattle.lock_table.specs.declared.entry.Entry.{Entry}
use Rattle.lock_table.specs.Tables.{standing_in, held_in_way}
use Rattle.lock_queue.specs.Queue.{QueueSeen, IsOwn}
use Rattle.lock_table.specs.Queues.{requests_at}
use Rattle.lock_table.specs.Locks.{mode_at}
use Rattle.vault_state.specs.declared.claims.Standing.TheVariants.{Held}
use Rattle.lock_table.proofs.Removals.{own_index, index_read}
use Rattle.lock_table.proofs.TablesKept.{has_entry}
use Rattle.lock_table.proofs.Putting.{read_at}
use Rattle.lock_table.proofs.Others.{own_law}
use Rattle.lock_table.proofs.Queuing.{located, held_way_read}
use Rattle.lock_table.proofs.table.Table.other_in_way.Goals as goal

pub unwrap-index-requires : goal.unwrap-index-requires
unwrap-index-requires g c =
    let held : standing_in c.self.inside.entries.items c.args.id ≡ Some Held = rw c.self.view_is c.requires in
    rw (c.index_of.ensures, c.deref.ensures.value, own_index c.args.id c.self.inside.entries.items (has_entry c.self.inside.entries.items c.args.id Held held)) refl

pub held_in_way-first-requires : goal.held_in_way-first-requires
held_in_way-first-requires g c = λ p.
    let table = c.self.inside.entries.items in
    let i = c.unwrap-index.result in
    let e = c.index.result.now in
    let held : standing_in table c.args.id ≡ Some Held = rw c.self.view_is c.requires in
    let at = index_read c.args.id table c.deref.result.now _ c.deref.ensures.value (sym c.index_of.ensures ∙ c.unwrap-index.ensures) in
    let there : slice_get table i ≡ Some e = read_at table i e (located table c.args.id i at).inside c.index.ensures in
    subst (λ (locks : List Lock). IsOwn c.args.id (mode_at locks p) (requests_at c.deref-3.result.now p)) (sym c.locks-own.ensures)
    (subst (λ (queues : List QueueSeen). IsOwn c.args.id (mode_at e.locks p) (requests_at queues p)) (sym c.deref-3.ensures.value)
    (own_law table c.self.inside.queues.items c.args.id i e c.self.invariant.0 c.self.invariant.1 at there held p))

pub returns : goal.returns
returns g c =
    let table = c.self.inside.entries.items in
    let queues = c.self.inside.queues.items in
    c.id_at.ensures ∙ (ap (option_and_then (λ i. option_map (λ (e : Entry). e.id) (slice_get c.deref-4.result.now i))) c.held_in_way-first.ensures
    ∙ (held_way_read queues table c.args.id c.args.locks.now c.self.invariant.0 c.self.invariant.1 c.deref-4.result.now c.deref-2.result.now c.deref-3.result.now c.deref-4.ensures.value c.deref-2.ensures.value c.deref-3.ensures.value
    ∙ ap (λ (t : List Entry). held_in_way t c.args.id c.args.locks.now) c.self.view_is))
