use Rattle.std.specs.Prelude.{◌≡◌, ◌<◌, List, ◌∷◌, ◌++◌, [], length, map, true, is_none}
use Rattle.std.specs.List.{IsDistinct}
use Rattle.std.proofs.Common.{ap, sym, subst, ◌∙◌, arith}
use Rattle.vault_state.specs.Limits.{most_claims}
use Rattle.vault_state.specs.Claims.{same_id, standing_by}
use Rattle.lock_table.specs.declared.entry.Entry.{Entry}
use Rattle.lock_table.specs.Tables.{IsTable, first_in_way, is_held_in}
use Rattle.lock_queue.specs.Queue.{QueueSeen}
use Rattle.lock_table.specs.Queues.{requests_at, requests_by, blockers_of}
use Rattle.lock_table.proofs.TablesKept.{table_asked}
use Rattle.lock_table.proofs.Weighing.{blockers_asked}
use Rattle.lock_table.proofs.Requests.{none_flag}
use Rattle.lock_table.proofs.Queuing.{queues_kept, queues_asked, few_requested, pushed, on_error}
use Rattle.lock_table.proofs.table.Table.ask.Goals as goal

pub invariant_of-self : goal.invariant_of-self
invariant_of-self g c = rw c.reserve.ensures.items c.self.invariant

pub invariant_of-self-in_err-reserve-2 : goal.invariant_of-self-in_err-reserve-2
invariant_of-self-in_err-reserve-2 g c = rw (c.reserve.ensures.items, c.reserve-2.ensures.items) c.self.invariant

pub put_last-requires-clause-room : goal.put_last-requires-clause-room
put_last-requires-clause-room g c = c.in_ok-reserve-3.ensures.there

pub put_last-requires-clause-few : goal.put_last-requires-clause-few
put_last-requires-clause-few g c = λ p.
    let room : length c.self.inside.entries.items < most_claims = rw c.self.view_is c.requires.room in
    let same = ap length (c.reserve-3.ensures.requests p) in
    let few = few_requested c.self.inside.entries.items c.self.inside.queues.items c.self.invariant.0 c.self.invariant.1 room p in
    omega (arith, same, few)

pub first_behind-blocker-requires-clause-distinct : goal.first_behind-blocker-requires-clause-distinct
first_behind-blocker-requires-clause-distinct g c = subst (λ (t : List Entry). IsDistinct same_id (map (λ (e : Entry). e.id) t)) (sym (c.deref.ensures.value ∙ c.reserve.ensures.items)) c.self.invariant.0.distinct

pub first_behind-blocker-requires-clause-requested : goal.first_behind-blocker-requires-clause-requested
first_behind-blocker-requires-clause-requested g c =
    let table = c.self.inside.entries.items in
    record {
      held = is_held_in table;
      requests = λ p. ap (λ (xs : List QueueSeen). requests_at xs p) c.deref-2.ensures.value
          ∙ (c.reserve-3.ensures.requests p ∙ (c.self.invariant.1.requests p ∙ ap (λ (t : List Entry). requests_by (is_held_in table) t p) (sym (c.deref.ensures.value ∙ c.reserve.ensures.items))));
    }

pub invariant_of-self-2 : goal.invariant_of-self-2
invariant_of-self-2 g c =
    let table = c.self.inside.entries.items in
    let e : Entry = record { id = c.args.id; locks = c.args.locks } in
    let kept = c.self.invariant.0 in
    let push : c.push.new.self.items ≡ table ++ e ∷ [] = pushed c.push.result c.unwrap.result c.push.new.self.items c.reserve.new.self.items c.in_ok-kept.kept c.unwrap.ensures c.push.ensures.items
    ∙ (ap (λ (t : List Entry). t ++ c.in_ok-kept.kept ∷ []) c.reserve.ensures.items ∙ ap (λ k. table ++ k ∷ []) c.in_ok-kept.ensures) in
    let longer : IsTable (table ++ e ∷ []) = table_asked table e true kept (rw c.self.view_is c.requires.new) (rw c.self.view_is c.requires.room) in
    let waits : c.first_behind-blocker.result ≡ first_in_way table c.args.locks = c.first_behind-blocker.ensures ∙ ap (λ (t : List Entry). first_in_way t c.args.locks) (c.deref.ensures.value ∙ c.reserve.ensures.items) in
    let held : c.is_none.result ≡ is_none (first_in_way table c.args.locks) = none_flag c.first_behind-blocker.result c.is_none.result c.is_none.ensures ∙ ap is_none waits in
    let all = queues_asked table c.self.inside.queues.items c.reserve-3.new.queues.items c.put_last.new.queues.items e c.is_none.result kept longer c.self.invariant.1 c.reserve-3.ensures.requests c.reserve-3.ensures.room
    c.in_ok-reserve-3.ensures.there c.reserve-3.ensures.apart held
    c.put_last.ensures.requests c.put_last.ensures.room in
    let beside : c.push-2.new.self.items ≡ c.self.inside.blockers.items ++ c.first_behind-blocker.result ∷ [] =
    pushed c.push-2.result c.unwrap-2.result c.push-2.new.self.items c.reserve-2.new.self.items c.first_behind-blocker.result c.unwrap-2.ensures c.push-2.ensures.items
    ∙ ap (λ xs. xs ++ c.first_behind-blocker.result ∷ []) c.reserve-2.ensures.items in
    rw push (longer, all, beside ∙ (ap (λ xs. xs ++ c.first_behind-blocker.result ∷ []) c.self.invariant.2 ∙ (ap (λ b. blockers_of table ++ b ∷ []) waits ∙ sym (blockers_asked table e kept.distinct longer.distinct))))

pub returns-clause-standing : goal.returns-clause-standing
returns-clause-standing g c = c.standing_by.ensures
    ∙ (ap standing_by (c.first_behind-blocker.ensures ∙ ap (λ (t : List Entry). first_in_way t c.args.locks) (c.deref.ensures.value ∙ c.reserve.ensures.items)) ∙ ap (λ (t : List Entry). standing_by (first_in_way t c.args.locks)) c.self.view_is)

pub invariant_of-self-in_err-reserve-3 : goal.invariant_of-self-in_err-reserve-3
invariant_of-self-in_err-reserve-3 g c =
    let table = c.self.inside.entries.items in
    let now = queues_kept table c.self.inside.queues.items c.reserve-3.new.queues.items c.self.invariant.1 c.reserve-3.ensures.requests c.reserve-3.ensures.room in
    let same : c.reserve.new.self.items ≡ table = c.reserve.ensures.items in
    let beside : c.reserve-2.new.self.items ≡ c.self.inside.blockers.items = c.reserve-2.ensures.items in
    rw same (c.self.invariant.0, now, beside ∙ c.self.invariant.2)

pub returns-clause-asked : goal.returns-clause-asked
returns-clause-asked g c = pushed c.push.result c.unwrap.result c.push.new.self.items c.reserve.new.self.items c.in_ok-kept.kept c.unwrap.ensures c.push.ensures.items
    ∙ (ap (λ (t : List Entry). t ++ c.in_ok-kept.kept ∷ []) (c.reserve.ensures.items ∙ c.self.view_is) ∙ ap (λ k. c.args.self.now ++ k ∷ []) c.in_ok-kept.ensures)

pub returns-in_err-reserve-clause-unchanged : goal.returns-in_err-reserve-clause-unchanged
returns-in_err-reserve-clause-unchanged g c = on_error c.from_residual-in_err-reserve.result (c.reserve.ensures.items ∙ c.self.view_is)

pub returns-in_err-reserve-2-clause-unchanged : goal.returns-in_err-reserve-2-clause-unchanged
returns-in_err-reserve-2-clause-unchanged g c = on_error c.from_residual-in_err-reserve-2.result (c.reserve.ensures.items ∙ c.self.view_is)

pub returns-in_err-reserve-3-clause-unchanged : goal.returns-in_err-reserve-3-clause-unchanged
returns-in_err-reserve-3-clause-unchanged g c = on_error c.from_residual-in_err-reserve-3.result (c.reserve.ensures.items ∙ c.self.view_is)
