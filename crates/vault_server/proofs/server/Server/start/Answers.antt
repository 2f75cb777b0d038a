use denote.Param.{param, copied}
use denote.Param.Send.{sendable}
use denote.Ref.{NamedLft}
use Rattle.std.proofs.Crossing.{crosses}
use Rattle.std.proofs.CrossingOver.{crosses as over}
use Rattle.vault_server.proofs.Sends.{poll_send, event_loop_send, place_send}
use Rattle.vault_server.proofs.server.Server.start.Goals as goal

pub spawn-requires-send-F : goal.spawn-requires-send-F
spawn-requires-send-F g c κs h =
    let event_loop = λ (ℓ : NamedLft). event_loop_send (param 0 g.row.D) (param 4 g.row.S) (param 5 g.row.T) (copied 1 g.row.A) g.D.Device g.S.Tally g.S.Ledger g.T.Tally g.T.Ledger g.A.Allocator ℓ (param 2 g.row.G) (param 3 g.row.H) c.type_bounds.send-D c.type_bounds.send-S c.type_bounds.sync-S c.type_bounds.send-T c.type_bounds.sync-T c.type_bounds.send-A c.type_bounds.sync-A c.requires c.type_bounds.sync-G c.type_bounds.sync-H in
    let place = place_send (param 0 g.row.D) (param 4 g.row.S) (param 5 g.row.T) (copied 1 g.row.A) g.D.Device g.S.Tally g.S.Ledger g.T.Tally g.T.Ledger g.A.Allocator c.type_bounds.send-S c.type_bounds.sync-S c.type_bounds.send-T c.type_bounds.sync-T in
    let poll = poll_send in
    let a = c.type_bounds.send-A in
    let ay = c.type_bounds.sync-A in
    let frees = c.requires in
    search (sendable, crosses, over, event_loop) depth 60 fits 20000

pub spawn-requires-send-T : goal.spawn-requires-send-T
spawn-requires-send-T g c κs within =
    let place = place_send (param 0 g.row.D) (param 4 g.row.S) (param 5 g.row.T) (copied 1 g.row.A) g.D.Device g.S.Tally g.S.Ledger g.T.Tally g.T.Ledger g.A.Allocator c.type_bounds.send-S c.type_bounds.sync-S c.type_bounds.send-T c.type_bounds.sync-T in
    let a = c.type_bounds.send-A in
    let ay = c.type_bounds.sync-A in
    let frees = c.requires in
    search (sendable, crosses, over) depth 60 fits 20000
