-- The types of this crate may be sent between threads, as what they are made of may.
use denote.RattleType.{RattleType}
use denote.Param.Send.{IsSend, Frees, struct_send, recorded_send, view_send}
use denote.Struct.Declared.{shape}
use Rattle.std.specs.declared.alloc.Allocator.{Ghosts}
use Rattle.vault_state.proofs.Sends.{fields}
use Rattle.vault_journal.specs.contracts.frame.Frame as Frame
use Rattle.vault_journal.specs.contracts.frame.Frame.TheInside as FrameInside

pub frame_send : (A : RattleType) (g : Ghosts A.Denot) → IsSend A → Frees g g.dealloc_token → IsSend (Frame.the_field A g).row
frame_send A g s f =
    let T = FrameInside.the_type A g in
    view_send _ _ _ _ _ (recorded_send _ _ _ T.to_one (struct_send (shape T) (search fields depth 20)))
