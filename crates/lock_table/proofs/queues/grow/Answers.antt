use Rattle.std.specs.Prelude.{◌≡◌, ◌∷◌, ◌++◌, []}
use Rattle.std.proofs.Common.{ap, ◌∙◌, arith, rules}
use Rattle.lock_table.specs.Queues.{requests_at, room_at}
use Rattle.lock_table.proofs.Putting.{requests_grown, room_grown}
use Rattle.lock_table.proofs.queues.grow.Goals as goal

pub loop-alloc-init : goal.loop-alloc-init
loop-alloc-init g c = record {
  requests = λ p. ap (λ xs. requests_at xs p) c.reserve.ensures.items;
  room = λ p. let same = ap (λ xs. room_at xs p) c.reserve.ensures.items in omega (arith, same);
  memory = search rules;
}

pub loop-alloc-preserved : goal.loop-alloc-preserved
loop-alloc-preserved g c =
    let pushed : c.push.new.self.items ≡ c.loop-alloc.queues.items ++ c.new.result ∷ [] = search rules in
    record {
      requests = λ p. ap (λ xs. requests_at xs p) pushed ∙ (requests_grown c.loop-alloc.queues.items c.new.result p c.new.ensures ∙ c.loop-alloc.invariant.requests p);
      room = λ p. let same = ap (λ xs. room_at xs p) pushed in let more = room_grown c.loop-alloc.queues.items c.new.result p in let before = c.loop-alloc.invariant.room p in omega (arith, same, more, before);
      memory = search rules;
    }

pub returns-clause-requests : goal.returns-clause-requests
returns-clause-requests g c = c.loop-alloc.invariant.requests

pub returns-clause-room : goal.returns-clause-room
returns-clause-room g c = c.loop-alloc.invariant.room
