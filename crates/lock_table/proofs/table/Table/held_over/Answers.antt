use Rattle.std.specs.Prelude.{◌≡◌, List, None, slice_get}
use Rattle.std.proofs.Common.{ap, sym, subst, ◌∙◌, arith, rules}
use Rattle.std.specs.Option.{option_map, option_and_then}
use Rattle.vault_state.specs.Tree.{parent_of}
use Rattle.lock_table.specs.declared.entry.Entry.{Entry}
use Rattle.lock_table.specs.Tables.{IsTable}
use Rattle.lock_queue.specs.Queue.{QueueSeen, first_of, is_cover}
use Rattle.lock_table.specs.Queues.{AreQueues, requests_at, position_of, earlier}
use Rattle.lock_table.proofs.Positions.{earlier_associative, earlier_none}
use Rattle.lock_table.proofs.Covering.{cover_of, cover_above, cover_step, over_id}
use Rattle.lock_table.proofs.table.Table.held_over.Goals as goal

pub loop-parent-init : goal.loop-parent-init
loop-parent-init g c =
    let table = c.args.self.now in
    let kept : IsTable table = subst (λ (t : List Entry). IsTable t) c.self.view_is c.self.invariant.0 in
    let are_queues : AreQueues table c.self.inside.queues.items = subst (λ (t : List Entry). AreQueues t c.self.inside.queues.items) c.self.view_is c.self.invariant.1 in
    record {
      there = omega (arith, c.requires);
      first = λ tree. ap (λ o. earlier o (cover_above c.args.tree.now table c.args.place)) (c.position_of-first.ensures ∙ (ap (λ (xs : List Entry). position_of xs c.cover_at.result) (c.as_slice-entries.ensures.value ∙ c.self.view_is) ∙ ap (position_of table) (c.cover_at.ensures ∙ ap (λ (xs : List QueueSeen). first_of is_cover (requests_at xs c.args.place)) c.as_slice-queues.ensures.value)))
          ∙ cover_step c.args.tree.now tree.parents table c.self.inside.queues.items kept are_queues c.args.place;
    }

pub loop-parent-preserved : goal.loop-parent-preserved
loop-parent-preserved g c =
    let table = c.args.self.now in
    let r = c.in-Some.parent in
    let whole = c.in-Some.ensures.tree in
    let kept : IsTable table = subst (λ (t : List Entry). IsTable t) c.self.view_is c.self.invariant.0 in
    let are_queues : AreQueues table c.self.inside.queues.items = subst (λ (t : List Entry). AreQueues t c.self.inside.queues.items) c.self.view_is c.self.invariant.1 in
    record {
      there = omega (arith, c.in-Some.ensures.there);
      first = λ tree. ap (λ o. earlier o (cover_above c.args.tree.now table r))
          (c.earlier_of-first.ensures ∙ ap (earlier c.loop-parent.first) (ap (λ (xs : List Entry). position_of xs c.cover_at-in-Some.result) (c.as_slice-entries.ensures.value ∙ c.self.view_is) ∙ ap (position_of table) (c.cover_at-in-Some.ensures ∙ ap (λ (xs : List QueueSeen). first_of is_cover (requests_at xs r)) c.as_slice-queues.ensures.value)))
          ∙ (earlier_associative c.loop-parent.first (position_of table (first_of is_cover (requests_at c.self.inside.queues.items r))) (cover_above c.args.tree.now table r)
          ∙ (ap (earlier c.loop-parent.first) (cover_step c.args.tree.now whole.parents table c.self.inside.queues.items kept are_queues r)
          ∙ (ap (λ o. earlier c.loop-parent.first (cover_of c.args.tree.now table o)) c.in-Some.ensures.parent ∙ c.loop-parent.invariant.first whole)));
    }

pub returns : goal.returns
returns g c =
    let table = c.args.self.now in
    let none : c.parent.result ≡ None = search rules in
    let top : parent_of c.args.tree.now c.loop-parent.at ≡ None = sym c.parent.ensures.parent ∙ none in
    c.id_at.ensures ∙ (ap (λ (xs : List Entry). option_and_then (λ i. option_map (λ (e : Entry). e.id) (slice_get xs i)) c.loop-parent.first) (c.as_slice-entries.ensures.value ∙ c.self.view_is)
    ∙ (ap (option_and_then (λ i. option_map (λ (e : Entry). e.id) (slice_get table i)))
    (sym (earlier_none c.loop-parent.first) ∙ (ap (λ o. earlier c.loop-parent.first (cover_of c.args.tree.now table o)) (sym top) ∙ c.loop-parent.invariant.first c.parent.ensures.tree))
    ∙ over_id c.args.tree.now table c.args.place))
