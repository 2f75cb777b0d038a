-- The types of a door may be sent between threads, or shared by them, as what they are made of may.
use denote.RattleType.{RattleType}
use denote.Param.Send.{IsSend, IsSync, Frees, view_send, recorded_send, struct_send}
use denote.Struct.Declared.{shape}
use Rattle.std.specs.declared.alloc.Allocator.{Ghosts}
use Rattle.std.proofs.Crossing.{crosses as locks}
use Rattle.crossbeam_channel.specs.contracts.channel.Receiver as Receiver
use Rattle.crossbeam_channel.specs.contracts.channel.Sender as Sender
use Rattle.vault_state.proofs.Sends.{fields}
use Rattle.tcp_door.specs.contracts.bells.Bell as Bell
use Rattle.tcp_door.specs.contracts.accepted.Accepted as Accepted
use Rattle.tcp_door.specs.contracts.door.Crowd as Crowd
use Rattle.tcp_door.specs.contracts.door.News as News
use Rattle.tcp_door.specs.contracts.socket.Socket as Socket
use Rattle.tcp_door.specs.contracts.socket.Socket.TheInside as SocketInside
use Rattle.tcp_door.proofs.passed.Passed.TheSendSync as Passed

pub bell_sync : IsSync Bell.the_row
bell_sync = search (fields, locks) depth 40 fits 20000

pub socket_send : IsSend Socket.the_row
socket_send =
    let U = SocketInside.the_type in
    let p = Passed.the_send in
    view_send _ _ _ _ _ (recorded_send _ _ _ U.to_one (struct_send (shape U) (search fields depth 40 fits 20000)))

accepted_send : IsSend Accepted.the_row
accepted_send = let s = socket_send in search fields depth 40 fits 20000

pub receiver_send : (A : RattleType) (g : Ghosts A.Denot) → IsSend A → IsSync A → Frees g g.dealloc_token → IsSend (Receiver.the_field Accepted.the_row A g).row
receiver_send A g s y f = let c = accepted_send in search (fields, locks) depth 60 fits 20000

news_send : IsSend News.the_row
news_send = search fields depth 40 fits 20000

pub sender_send : (A : RattleType) (g : Ghosts A.Denot) → IsSend A → IsSync A → Frees g g.dealloc_token → IsSend (Sender.the_field News.the_row A g).row
sender_send A g s y f = let n = news_send in search (fields, locks) depth 60 fits 20000

pub crowd_sync : IsSync Crowd.the_row
crowd_sync = let b = bell_sync in search (fields, locks) depth 40 fits 20000
