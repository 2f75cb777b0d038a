use Rattle.std.proofs.Common.{vec_len}
use Rattle.vault_server.proofs.event_loop.EventLoop.take_back.Given as goal

abbrev pub decreases-loop-slot : goal.decreases-loop-slot
decreases-loop-slot g l = vec_len l.slots
