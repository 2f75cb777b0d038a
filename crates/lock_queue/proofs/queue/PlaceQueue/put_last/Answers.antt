use Rattle.std.specs.Prelude.{◌≡◌, ◌++◌, ◌∷◌, []}
use Rattle.std.proofs.Common.{cond, rules}
use Rattle.lock_modes.specs.Groups.{with_one}
use Rattle.lock_queue.proofs.Counts.{counted_push}
use Rattle.lock_queue.proofs.Requests.{room_in_all, room_in_held}
use Rattle.lock_queue.proofs.queue.PlaceQueue.put_last.Goals as goal
use Rattle.lock_queue.proofs.queue.PlaceQueue.put_last.Goals.{then-request, else-request}

pub add-requires : goal.add-requires
add-requires g c = room_in_all c.self.inside.queue.items _ _ c.self.view_is c.self.inside.all c.self.inside.held c.self.invariant c.requires.few

pub add-requires-then-request : goal.add-requires-then-request
add-requires-then-request g c = room_in_held c.self.inside.queue.items _ _ c.self.view_is c.self.inside.all c.self.inside.held c.self.invariant c.requires.few

pub invariant_of-self : goal.invariant_of-self
invariant_of-self g c =
    let all : c.if-request.self-inside.all ≡ with_one c.self.inside.all c.args.request.mode = elim c.if-request.branch [ then-request w ↦ search rules | else-request w ↦ search rules ] in
    let held : c.if-request.self-inside.held ≡ cond c.args.request.is_held (with_one c.self.inside.held c.args.request.mode) c.self.inside.held = elim c.if-request.branch [ then-request w ↦ search rules | else-request w ↦ search rules ] in
    let pushed : c.push.new.self.items ≡ c.self.inside.queue.items ++ c.args.request ∷ [] = search rules in
    counted_push c.self.inside.queue.items c.push.new.self.items c.self.inside.all c.self.inside.held c.args.request c.if-request.self-inside.all c.if-request.self-inside.held c.self.invariant pushed all held
