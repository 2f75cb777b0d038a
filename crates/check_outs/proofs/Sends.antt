-- The types of this crate may be sent between threads, as what they are made of may.
use denote.RattleType.{RattleType}
use denote.Param.Send.{IsSend, Frees, struct_send, recorded_send, view_send, enum_send}
use denote.Builtin.{u8}
use denote.Struct.Declared.{shape}
use denote.Enum.Declared.{shape as enum_shape}
use Rattle.std.specs.declared.alloc.Allocator.{Ghosts}
use Rattle.vault_state.proofs.Sends.{fields, listing_send, draft_send}
use Rattle.check_outs.specs.contracts.check_out.CheckOut as CheckOut
use Rattle.check_outs.specs.contracts.check_out.Held as Held
use Rattle.check_outs.specs.contracts.check_out.Held.TheInside as HeldInside
use Rattle.check_outs.specs.contracts.check_out.Waiting as Waiting
use Rattle.check_outs.specs.contracts.any.AnyCheckOut as AnyCheckOut

check_out_of_send : (R : RattleType) → IsSend R → IsSend (CheckOut.the_field R).row
check_out_of_send R s = search fields depth 20

module _ (A : RattleType) (g : Ghosts A.Denot) (s : IsSend A) (f : Frees g g.dealloc_token) where
  waiting_send : IsSend (Waiting.the_field A g).row
  waiting_send = search fields depth 20 fits 20000

  held_send : IsSend (Held.the_field A g).row
  held_send =
      let T = HeldInside.the_type A g in
      let d = draft_send _ (listing_send A g u8 (search fields) s f) in
      view_send _ _ _ _ _ (recorded_send _ _ _ T.to_one (struct_send (shape T) (search fields depth 20)))

  pub check_out_send : IsSend (AnyCheckOut.the_row A g)
  check_out_send =
      let T = AnyCheckOut.the_type A g in
      let w = check_out_of_send _ waiting_send in
      let h = check_out_of_send _ held_send in
      recorded_send _ _ _ T.to_one (enum_send (enum_shape T) (search fields depth 20))
