-- A worker may be sent between threads, as what it is made of may.
use denote.RattleType.{RattleType}
use denote.Param.Send.{IsSend, IsSync, Frees, sendable}
use denote.Ref.{NamedLft}
use Rattle.std.specs.declared.alloc.Allocator.{Ghosts}
use Rattle.std.proofs.Crossing.{crosses as locks}
use Rattle.std.specs.declared.sync.ledger.Ledger.{Ghosts as LedgerGhosts}
use Rattle.vault_device.specs.declared.device.Device.{Ghosts as DeviceGhosts}
pub use Rattle.vault_desk.specs.declared.tally.Tally.{Ghosts as TallyGhosts}
pub use Rattle.vault_desk.proofs.Sends.{share_send, shared_sync, sight_send}
use Rattle.vault_sessions.specs.contracts.worker.Worker as Worker

module _ (D S T A : RattleType) (d : DeviceGhosts D.Denot) (sc : TallyGhosts S.Denot) (sl : LedgerGhosts S.Denot) (tc : TallyGhosts T.Denot) (tl : LedgerGhosts T.Denot) (g : Ghosts A.Denot) where
  pub worker_send : (ℓ : NamedLft) (G H : RattleType) → IsSend D → IsSend S → IsSync S → IsSend T → IsSync T → IsSend A → Frees g g.dealloc_token → IsSync G → IsSync H → IsSend (Worker.the_field ℓ D S T A G H d sc sl tc tl g).row
  worker_send ℓ G H ds s sy t ty a f gy hy =
      let k = shared_sync D S T A d sc sl tc tl g ds s sy t ty a f in
      search (sendable, locks) depth 40
