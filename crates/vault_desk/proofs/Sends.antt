-- The types of this crate may be sent between threads, or shared by them, as what they are made of may.
use denote.RattleType.{RattleType}
use denote.Param.Send.{IsSend, IsSync, Frees, sendable, struct_send, recorded_send, view_send, view_sync, struct_sync, recorded_sync}
use denote.Struct.Declared.{shape}
use Rattle.std.specs.declared.alloc.Allocator.{Ghosts}
use Rattle.std.proofs.Crossing.{crosses as locks}
use Rattle.std.specs.declared.sync.ledger.Ledger.{Ghosts as LedgerGhosts}
use Rattle.std.proofs.sync.ledger.Book.TheSendSync as Tallied
use Rattle.std.proofs.sync.ledger.Share.TheSendSync as LedgerPart
use Rattle.logbook.proofs.tokens.Seen.TheSendSync as Token
use Rattle.logbook.proofs.word.Word.TheSendSync as Counted
use Rattle.vault_state.proofs.Sends.{fields}
use Rattle.vault_device.specs.declared.device.Device.{Ghosts as DeviceGhosts}
use Rattle.group_commit.proofs.Sends.{vault_send}
use Rattle.vault_desk.specs.declared.tally.Tally.{Ghosts as TallyGhosts}
use Rattle.vault_desk.specs.contracts.tally.Share as Share
use Rattle.vault_desk.specs.contracts.tally.Share.TheInside as ShareInside
use Rattle.vault_desk.specs.contracts.sight.Past as Past
use Rattle.vault_desk.specs.contracts.sight.Sight as Sight
use Rattle.vault_desk.specs.contracts.sight.Sight.TheInside as SightInside
use Rattle.vault_desk.specs.contracts.desk.Desk as Desk
use Rattle.vault_desk.specs.contracts.desk.Desk.TheInside as DeskInside
use Rattle.vault_desk.specs.contracts.shared.Shared as Shared
use Rattle.vault_desk.specs.contracts.shared.Shared.TheInside as SharedInside

module _ (D S T A : RattleType) (d : DeviceGhosts D.Denot) (sc : TallyGhosts S.Denot) (sl : LedgerGhosts S.Denot) (tc : TallyGhosts T.Denot) (tl : LedgerGhosts T.Denot) (g : Ghosts A.Denot) where
  pub share_send : IsSend S → IsSync S → IsSend T → IsSync T → IsSend (Share.the_field S T sc sl tc tl).row
  share_send s sy t ty =
      let U = ShareInside.the_type S T sc sl tc tl in
      let k = LedgerPart.the_send S sl in
      let l = LedgerPart.the_send T tl in
      view_send _ _ _ _ _ (recorded_send _ _ _ U.to_one (struct_send (shape U) (search fields depth 20)))

  past_send : IsSend S → IsSync S → IsSend (Past.the_field S sc sl).row
  past_send s sy = search (fields, Counted.the_send) depth 40 fits 20000

  pub sight_send : IsSend S → IsSync S → IsSend (Sight.the_field S sc sl).row
  sight_send s sy =
      let U = SightInside.the_type S sc sl in
      view_send _ _ _ _ _ (recorded_send _ _ _ U.to_one (struct_send (shape U) (search (fields, Token.the_send) depth 20)))

  desk_send : IsSend D → IsSend S → IsSync S → IsSend T → IsSync T → IsSend A → Frees g g.dealloc_token → IsSend (Desk.the_field D S T A sc sl d tc tl g).row
  desk_send ds s sy t ty a f =
      let U = DeskInside.the_type D S T A sc sl d tc tl g in
      let v = vault_send A g a f D d ds in
      let k = Tallied.the_send S sl in
      let l = Tallied.the_send T tl in
      let h = share_send s sy t ty in
      let p = past_send s sy in
      let q = sight_send s sy in
      view_send _ _ _ _ _ (recorded_send _ _ _ U.to_one (struct_send (shape U) (search fields depth 20)))

  pub shared_sync : IsSend D → IsSend S → IsSync S → IsSend T → IsSync T → IsSend A → Frees g g.dealloc_token → IsSync (Shared.the_field D S T A d sc sl tc tl g).row
  shared_sync ds s sy t ty a f =
      let U = SharedInside.the_type D S T A d sc sl tc tl g in
      let k = desk_send ds s sy t ty a f in
      view_sync _ _ _ _ _ (recorded_sync _ _ _ U.to_one (struct_sync (shape U) (search (sendable, locks) depth 40)))
