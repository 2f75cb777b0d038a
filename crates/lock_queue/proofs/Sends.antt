-- The types of this crate may be sent between threads, as what they are made of may.
use denote.RattleType.{RattleType}
use denote.Param.Send.{IsSend, Frees, struct_send, recorded_send, view_send}
use denote.Struct.Declared.{shape}
use Rattle.std.specs.declared.alloc.Allocator.{Ghosts}
use Rattle.vault_state.proofs.Sends.{fields, claim_id_send}
use Rattle.lock_modes.specs.contracts.group.Group as Group
use Rattle.lock_queue.specs.contracts.queue.Request as Request
use Rattle.lock_queue.specs.contracts.queue.PlaceQueue as PlaceQueue
use Rattle.lock_queue.specs.contracts.queue.PlaceQueue.TheInside as QueueInside

group_send : IsSend Group.the_row
group_send = search fields depth 20 fits 20000

request_send : IsSend Request.the_row
request_send = let i = claim_id_send in search fields depth 20 fits 20000

module _ (A : RattleType) (g : Ghosts A.Denot) (s : IsSend A) (f : Frees g g.dealloc_token) where
  pub queue_send : IsSend (PlaceQueue.the_field A g).row
  queue_send =
      let T = QueueInside.the_type A g in
      let x = request_send in
      let h = group_send in
      view_send _ _ _ _ _ (recorded_send _ _ _ T.to_one (struct_send (shape T) (search fields depth 20)))
