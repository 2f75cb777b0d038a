use denote.Param.{param, copied}
use denote.Param.Send.{sendable}
use Rattle.std.proofs.Crossing.{crosses}
use Rattle.vault_sessions.proofs.Sends.{shared_sync}
use Rattle.test_sessions.proofs.talk.flushed.Goals as goal

pub join-flushed-requires-send-F : goal.join-flushed-requires-send-F
join-flushed-requires-send-F g c κs _ =
    let b = c.type_bounds in
    let sync_h = b.sync-H in
    let shared =
    shared_sync (param 2 g.row.D) (param 0 g.row.S) (param 1 g.row.T) (copied 3 g.row.A) g.D.Device g.S.Tally g.S.Ledger g.T.Tally g.T.Ledger g.A.Allocator b.send-D b.send-S b.sync-S b.send-T b.sync-T b.send-A c.requires.frees in
    search (sendable, crosses) depth 60 fits 20000
