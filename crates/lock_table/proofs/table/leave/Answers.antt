use Rattle.std.specs.Prelude.{◌≡◌, ◌<◌, List, Some, length, slice_get, is_none}
use Rattle.std.proofs.Common.{sym, ap, subst, ◌∙◌}
use Rattle.std.proofs.lemmas.List.{length-map}
use Rattle.std.proofs.lemmas.Option.{same_Some}
use Rattle.lock_table.specs.declared.entry.Entry.{Entry}
use Rattle.lock_queue.specs.declared.queue.Request.{Request}
use Rattle.lock_table.specs.declared.locks.Lock.{Lock}
use Rattle.lock_table.specs.Locks.{mode_at}
use Rattle.lock_table.specs.Tables.{entries_without, is_held_in}
use Rattle.lock_queue.specs.Queue.{HasRequest, by_lock, requests_without}
use Rattle.lock_table.specs.Queues.{requests_at, requests_by, queue_of, blocker_at}
use Rattle.lock_table.proofs.Putting.{read_at}
use Rattle.lock_table.proofs.Others.{has_request}
use Rattle.lock_table.proofs.Requests.{none_flag, found_own, left_by}
use Rattle.lock_table.proofs.Queuing.{mapped_at, get_there}
use Rattle.lock_table.proofs.table.leave.Goals as goal

pub take_out-requires : goal.take_out-requires
take_out-requires g c = λ p m h.
    let table = c.args.entries.now in
    let i = c.args.index in
    let e = c.index-entries-index.result in
    let there : slice_get table i ≡ Some e = read_at table i e c.requires.there c.index-entries-index.is in
    let beside : slice_get c.args.blockers.now i ≡ Some (blocker_at table e) = ap (λ xs. slice_get xs i) c.requires.blockers ∙ mapped_at (blocker_at table) table i e there in
    let flag : c.is_none.result ≡ is_held_in table e = none_flag _ c.is_none.result c.is_none.ensures ∙ ap is_none (get_there c.args.blockers.now i (blocker_at table e) _ beside) in
    let mine : HasRequest e.id m (is_held_in table e) (queue_of table p) = has_request e.id (is_held_in table) table p e m c.requires.table.distinct (found_own table i e c.requires.table.distinct there) (ap (λ (ls : List Lock). mode_at ls p) (sym c.locks.ensures) ∙ h) in
    subst (λ k. HasRequest k m c.is_none.result (requests_at c.args.queues.now.items p)) (sym c.id.ensures)
    (subst (λ (xs : List Request). HasRequest e.id m c.is_none.result xs) (sym (c.requires.queues p)) (subst (λ b. HasRequest e.id m b (queue_of table p)) (sym flag) mine))

pub returns-clause-requests : goal.returns-clause-requests
returns-clause-requests g c = λ e there p.
    let table = c.args.entries.now in
    let x = c.index-entries-index.result in
    let mine : slice_get table c.args.index ≡ Some x = read_at table c.args.index x c.requires.there c.index-entries-index.is in
    let same : x ≡ e = same_Some x e (sym mine ∙ there) in
    let left : requests_at c.take_out.new.queues.items p ≡ requests_by (is_held_in table) (entries_without table x.id) p = c.take_out.ensures.requests p
    ∙ (ap (λ k. by_lock (λ m. requests_without k) (mode_at c.locks.result.now p) (requests_at c.args.queues.now.items p)) c.id.ensures
    ∙ (ap (λ (ls : List Lock). by_lock (λ m. requests_without x.id) (mode_at ls p) (requests_at c.args.queues.now.items p)) c.locks.ensures
    ∙ (ap (λ (xs : List Request). by_lock (λ m. requests_without x.id) (mode_at x.locks p) xs) (c.requires.queues p)
    ∙ left_by x.id (is_held_in table) table p x c.requires.table.distinct (found_own table c.args.index x c.requires.table.distinct mine)))) in
    subst (λ (y : Entry). requests_at c.take_out.new.queues.items p ≡ requests_by (is_held_in table) (entries_without table y.id) p) same left

pub bounds-blockers-index : goal.bounds-blockers-index
bounds-blockers-index g c =
    let table = c.args.entries.now in
    subst (λ n. c.args.index < n) (sym (ap length c.requires.blockers ∙ length-map table (blocker_at table))) c.requires.there

pub returns-clause-room : goal.returns-clause-room
returns-clause-room g c = c.take_out.ensures.room
