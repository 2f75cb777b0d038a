use Rattle.lock_queue.proofs.Requests.{room_in_all, room_in_held}
use Rattle.lock_queue.proofs.queue.PlaceQueue.put_first.Goals as goal

pub add-requires : goal.add-requires
add-requires g c = room_in_all c.self.inside.queue.items _ _ c.self.view_is c.self.inside.all c.self.inside.held c.self.invariant c.requires.few

pub add-requires-then-request : goal.add-requires-then-request
add-requires-then-request g c = room_in_held c.self.inside.queue.items _ _ c.self.view_is c.self.inside.all c.self.inside.held c.self.invariant c.requires.few
