use Rattle.std.proofs.Common.{ap, sym}
use Rattle.lock_queue.specs.Queue.{first_of, is_in_way}
use Rattle.lock_table.proofs.Putting.{requests_seen, requests_unseen}
use Rattle.lock_table.proofs.queues.in_way_at.Goals as goal

pub returns-in-Some : goal.returns-in-Some
returns-in-Some g c =
    let found = c.in-Some.ensures.lookup in
    let requests = requests_seen c.args.queues.now c.number.result c.args.lock.place c.in-Some.queue.now c.number.ensures found.0 found.1 in
    cc

pub returns-in-None : goal.returns-in-None
returns-in-None g c =
    let requests = requests_unseen c.args.queues.now c.number.result c.args.lock.place c.number.ensures c.in-None.ensures.lookup.0 in
    ap (first_of (is_in_way c.args.lock.mode)) (sym requests)
