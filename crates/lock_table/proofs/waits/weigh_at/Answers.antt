use Rattle.std.specs.Prelude.{◌≡◌, ◌<◌, List, Some, slice_get, is_none, take, length, set}
use Rattle.std.proofs.Common.{sym, ap, subst, ◌∙◌, arith, rules}
use Rattle.std.specs.Option.{option_map}
use Rattle.std.proofs.lemmas.Option.{same_Some}
use Rattle.lock_table.specs.declared.entry.Entry.{Entry}
use Rattle.lock_queue.specs.declared.queue.Request.{Request}
use Rattle.lock_table.specs.declared.locks.Lock.{Lock}
use Rattle.lock_table.specs.Locks.{mode_at}
use Rattle.lock_table.specs.Tables.{first_in_way}
use Rattle.lock_queue.specs.Queue.{by_lock, restood}
use Rattle.lock_table.specs.Queues.{HaveRequests, requests_at, requests_by, held_by}
use Rattle.lock_table.proofs.Putting.{read_at}
use Rattle.lock_table.proofs.Requests.{none_flag, found_own, held_kept, stood_by}
use Rattle.lock_table.proofs.Queuing.{requests_bound}
use Rattle.lock_table.proofs.waits.weigh_at.Goals as goal

pub blocker_of-blocker-requires : goal.blocker_of-blocker-requires
blocker_of-blocker-requires g c = record {
  there = c.requires.there;
  distinct = c.requires.table.distinct;
  requested = subst (HaveRequests c.args.entries.now) (sym c.deref.ensures.value) c.requires.requested;
}

pub returns-then-is_none-was_held-clause-blockers : goal.returns-then-is_none-was_held-clause-blockers
returns-then-is_none-was_held-clause-blockers g c = λ e there. ap (set c.args.blockers.now.items c.args.index) (c.blocker_of-blocker.ensures e there)

pub returns-then-is_none-was_held-clause-requests : goal.returns-then-is_none-was_held-clause-requests
returns-then-is_none-was_held-clause-requests g c = λ held e there standing requests p.
    let table = c.args.entries.now in
    let i = c.args.index in
    let blockers = c.args.blockers.now.items in
    let x = c.index.result.now in
    let same : c.is_none.result ≡ c.is_none-was_held.result = search rules in
    let inside : i < length blockers = omega (arith, c.requires.there, c.requires.many) in
    let was : is_none x ≡ held e = same_Some (is_none x) (held e) (sym (ap (option_map is_none) (read_at blockers i x inside c.index.ensures)) ∙ standing) in
    let now : c.is_none.result ≡ is_none (first_in_way (take i table) e.locks) = none_flag c.blocker_of-blocker.result c.is_none.result c.is_none.ensures ∙ ap is_none (c.blocker_of-blocker.ensures e there) in
    requests p ∙ held_kept held (is_none (first_in_way (take i table) e.locks)) table i e p c.requires.table.distinct there (sym was ∙ (sym (none_flag x c.is_none-was_held.result c.is_none-was_held.ensures) ∙ (sym same ∙ now)))

pub stand-requires : goal.stand-requires
stand-requires g c = λ p.
    let requests = ap length (c.requires.requested.requests p) in
    let bound = requests_bound c.requires.requested.held c.args.entries.now p in
    let few = c.requires.table.few in
    omega (arith, requests, bound, few)

pub returns-clause-blockers : goal.returns-clause-blockers
returns-clause-blockers g c = λ e there. ap (set c.args.blockers.now.items c.args.index) (c.blocker_of-blocker.ensures e there)

pub returns-clause-room : goal.returns-clause-room
returns-clause-room g c = c.stand.ensures.room

pub returns-clause-requests : goal.returns-clause-requests
returns-clause-requests g c = λ held e there standing requests p.
    let table = c.args.entries.now in
    let i = c.args.index in
    let x = c.index-entries-index.result in
    let b = c.is_none-2.result in
    let mine : slice_get table i ≡ Some x = read_at table i x c.requires.there c.index-entries-index.is in
    let same : x ≡ e = same_Some x e (sym mine ∙ there) in
    let now : b ≡ is_none (first_in_way (take i table) e.locks) = none_flag c.blocker_of-blocker.result c.is_none-2.result c.is_none-2.ensures ∙ ap is_none (c.blocker_of-blocker.ensures e there) in
    let stood : requests_at c.stand.new.queues.items p ≡ requests_by (held_by held x.id b) table p = c.stand.ensures.requests p
    ∙ (ap (λ k. by_lock (λ m. restood k b) (mode_at c.locks.result.now p) (requests_at c.args.queues.now.items p)) c.id.ensures
    ∙ (ap (λ (ls : List Lock). by_lock (λ m. restood x.id b) (mode_at ls p) (requests_at c.args.queues.now.items p)) c.locks.ensures
    ∙ (ap (λ (xs : List Request). by_lock (λ m. restood x.id b) (mode_at x.locks p) xs) (requests p) ∙ stood_by x.id held b table p x c.requires.table.distinct (found_own table i x c.requires.table.distinct mine)))) in
    stood ∙ (ap (λ (y : Entry). requests_by (held_by held y.id b) table p) same ∙ ap (λ k. requests_by (held_by held e.id k) table p) now)
