use Rattle.std.proofs.Common.{ap, sym, ◌∙◌}
use Rattle.std.specs.Option.{option_map}
use Rattle.lock_queue.specs.declared.queue.Request.{Request}
use Rattle.lock_queue.specs.Queue.{QueueSeen, first_of, is_cover}
use Rattle.lock_queue.proofs.Counts.{uncovered}
use Rattle.lock_queue.proofs.queue.PlaceQueue.cover.Goals as goal

pub returns-then-admits : goal.returns-then-admits
returns-then-admits g c =
    sym (ap (λ (v : QueueSeen). first_of is_cover v.requests) (sym c.self.view_is)
    ∙ ap (option_map (λ (s : Request). s.id)) (uncovered c.self.inside.queue.items c.self.inside.all c.self.inside.held c.self.invariant (sym c.admits.ensures ∙ c.if-admits.true)))
