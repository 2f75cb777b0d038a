use Rattle.std.proofs.Common.{◌+◌, ◌≤◌, vec_len, vec_capacity}
use Rattle.vault_server.proofs.event_loop.slots_of.Given as goal

abbrev pub invariant-loop-place : goal.invariant-loop-place
invariant-loop-place g l = vec_len l.slots + vec_len l.places ≤ vec_capacity l.slots

abbrev pub decreases-loop-place : goal.decreases-loop-place
decreases-loop-place g l = vec_len l.places
