use Rattle.std.proofs.Common.{ap, sym, ◌∙◌}
use Rattle.std.specs.Option.{option_map}
use Rattle.lock_queue.specs.declared.queue.Request.{Request}
use Rattle.lock_queue.specs.Queue.{QueueSeen, first_of, is_in_way}
use Rattle.lock_queue.proofs.Counts.{admitted}
use Rattle.lock_queue.proofs.queue.PlaceQueue.in_way.Goals as goal

pub returns-then-admits : goal.returns-then-admits
returns-then-admits g c =
    sym (ap (λ (v : QueueSeen). first_of (is_in_way c.args.mode) v.requests) (sym c.self.view_is)
    ∙ ap (option_map (λ (s : Request). s.id)) (admitted c.args.mode c.self.inside.queue.items c.self.inside.all c.self.inside.held c.self.invariant (sym c.admits.ensures ∙ c.if-admits.true)))
