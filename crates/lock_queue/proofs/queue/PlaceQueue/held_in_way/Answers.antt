use Rattle.std.proofs.Common.{ap, sym, subst, ◌∙◌}
use Rattle.std.specs.Option.{option_map}
use Rattle.lock_queue.specs.declared.queue.Request.{Request}
use Rattle.lock_queue.specs.Queue.{QueueSeen, first_of, is_held_in_way, IsOwn}
use Rattle.lock_queue.proofs.Groups.{free_of_others}
use Rattle.lock_queue.proofs.queue.PlaceQueue.held_in_way.Goals as goal

pub returns-then-admits : goal.returns-then-admits
returns-then-admits g c =
    sym (ap (λ (v : QueueSeen). first_of (is_held_in_way c.args.id c.args.mode) v.requests) (sym c.self.view_is)
    ∙ ap (option_map (λ (s : Request). s.id)) (free_of_others c.args.id c.args.own c.args.mode c.self.inside.queue.items c.self.inside.all c.self.inside.held c.without.result c.self.invariant
    (subst (λ (v : QueueSeen). IsOwn c.args.id c.args.own v.requests) (sym c.self.view_is) c.requires) c.without.ensures (sym c.admits.ensures ∙ c.if-admits.true)))
