-- The types of this crate may be sent between threads, as what they are made of may.
use denote.RattleType.{RattleType}
use denote.Param.Send.{IsSend, Frees, struct_send, recorded_send, view_send}
use denote.Struct.Declared.{shape}
use Rattle.std.specs.declared.alloc.Allocator.{Ghosts}
use Rattle.vault_state.proofs.Sends.{fields}
use Rattle.vault_device.specs.declared.device.Device.{Ghosts as DeviceGhosts}
use Rattle.vault_journal.proofs.Sends.{frame_send}
use Rattle.vault_store.specs.contracts.store.Store as Store
use Rattle.vault_store.specs.contracts.store.Store.TheInside as StoreInside

pub store_send : (D A : RattleType) (d : DeviceGhosts D.Denot) (g : Ghosts A.Denot) → IsSend D → IsSend A → Frees g g.dealloc_token → IsSend (Store.the_field D A d g).row
store_send D A d g ds s f =
    let T = StoreInside.the_type D A d g in
    let r = frame_send A g s f in
    view_send _ _ _ _ _ (recorded_send _ _ _ T.to_one (struct_send (shape T) (search fields depth 40 fits 20000)))
