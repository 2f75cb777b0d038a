use denote.Param.{param, copied}
use denote.Param.Send.{sendable}
use Rattle.std.proofs.Crossing.{crosses}
use Rattle.vault_state.proofs.Sends.{fields}
use Rattle.vault_sessions.proofs.Sends.{share_send, shared_sync}
use Rattle.test_sessions.proofs.pair.side_by_side.Goals as goal

pub join-requires-send-F : goal.join-requires-send-F
join-requires-send-F g c κs _ =
    let b = c.type_bounds in
    let sync_h = b.sync-H in
    let send_a = b.send-A in
    let shared =
    shared_sync (param 2 g.row.D) (param 0 g.row.S) (param 1 g.row.T) (copied 3 g.row.A) g.D.Device g.S.Tally g.S.Ledger g.T.Tally g.T.Ledger g.A.Allocator b.send-D b.send-S b.sync-S b.send-T b.sync-T b.send-A c.requires.frees in
    let share =
    share_send (param 2 g.row.D) (param 0 g.row.S) (param 1 g.row.T) (copied 3 g.row.A) g.D.Device g.S.Tally g.S.Ledger g.T.Tally g.T.Ledger g.A.Allocator b.send-S b.sync-S b.send-T b.sync-T in
    search (sendable, crosses, fields) depth 60 fits 20000
