-- The types of a server may be sent between threads, or shared by them, as what they are made of may.
use denote.RattleType.{RattleType}
use denote.Param.Send.{IsSend, IsSync, Frees, sendable, view_send, recorded_send, struct_send}
use denote.Struct.Declared.{shape}
use denote.Ref.{NamedLft}
use Rattle.std.specs.declared.alloc.Allocator.{Ghosts}
use Rattle.std.proofs.Crossing.{crosses as locks}
use Rattle.std.proofs.CrossingOver.{crosses as over}
use Rattle.std.specs.declared.sync.ledger.Ledger.{Ghosts as LedgerGhosts}
use Rattle.mio.specs.contracts.poll.Poll as Poll
use Rattle.vault_state.proofs.Sends.{fields}
use Rattle.vault_device.specs.declared.device.Device.{Ghosts as DeviceGhosts}
use Rattle.tcp_door.proofs.Sends.{bell_sync, crowd_sync, receiver_send, sender_send}
use Rattle.vault_sessions.proofs.Sends.{TallyGhosts, share_send, sight_send, worker_send}
use Rattle.vault_server.specs.contracts.account.Account as Account
use Rattle.vault_server.specs.contracts.account.Account.TheInside as AccountInside
use Rattle.vault_server.specs.contracts.commits.CommitToken as CommitToken
use Rattle.vault_server.specs.contracts.event_loop.EventLoop as EventLoop
use Rattle.vault_server.specs.contracts.place.Place as Place
use Rattle.vault_server.specs.contracts.reports.Reports as Reports
use Rattle.vault_server.specs.contracts.reports.Reports.TheInside as ReportsInside
use Rattle.vault_server.specs.contracts.slot.Patience as Patience

pub poll_send : IsSend Poll.the_row
poll_send = search fields depth 40 fits 20000

patience_send : IsSend Patience.the_row
patience_send = search fields depth 40 fits 20000

token_send : IsSend CommitToken.the_row
token_send = search fields depth 40 fits 20000

module _ (D S T A : RattleType) (d : DeviceGhosts D.Denot) (sc : TallyGhosts S.Denot) (sl : LedgerGhosts S.Denot) (tc : TallyGhosts T.Denot) (tl : LedgerGhosts T.Denot) (g : Ghosts A.Denot) where
  pub event_loop_send : (ℓ : NamedLft) (G H : RattleType) → IsSend D → IsSend S → IsSync S → IsSend T → IsSync T → IsSend A → IsSync A → Frees g g.dealloc_token → IsSync G → IsSync H → IsSend (EventLoop.the_field ℓ D S T A G H d sc sl tc tl g).row
  event_loop_send ℓ G H ds s sy t ty a ay f gy hy =
      let w = λ (ℓ : NamedLft). worker_send D S T A d sc sl tc tl g ℓ G H ds s sy t ty a f gy hy in
      let b = bell_sync in
      let p = crowd_sync in
      let q = patience_send in
      let l = token_send in
      let r = receiver_send A g a ay f in
      let c = sender_send A g a ay f in
      search (sendable, locks, over, w) depth 60 fits 20000

module _ (A : RattleType) (g : Ghosts A.Denot) where
  reports_send : IsSend (Reports.the_field A g).row
  reports_send =
      let U = ReportsInside.the_type A g in
      view_send _ _ _ _ _ (recorded_send _ _ _ U.to_one (struct_send (shape U) (search (fields, locks) depth 20)))

module _ (D S T A : RattleType) (d : DeviceGhosts D.Denot) (sc : TallyGhosts S.Denot) (sl : LedgerGhosts S.Denot) (tc : TallyGhosts T.Denot) (tl : LedgerGhosts T.Denot) (g : Ghosts A.Denot) where
  account_send : IsSend S → IsSync S → IsSend (Account.the_field S A sc sl g).row
  account_send s sy =
      let U = AccountInside.the_type S A sc sl g in
      let r = reports_send A g in
      let k = sight_send D S T A d sc sl tc tl g s sy in
      view_send _ _ _ _ _ (recorded_send _ _ _ U.to_one (struct_send (shape U) (search (fields, locks) depth 20)))

  pub place_send : IsSend S → IsSync S → IsSend T → IsSync T → IsSend (Place.the_field S T A sc tc sl tl g).row
  place_send s sy t ty =
      let h = share_send D S T A d sc sl tc tl g s sy t ty in
      let k = account_send s sy in
      search fields depth 40 fits 20000
