use Rattle.std.proofs.Common.{◌≡◌}
use Rattle.blocking_sessions.proofs.serve.converse.Given as goal

-- it began with the same
abbrev pub invariant-loop : goal.invariant-loop
invariant-loop g l = l.dialogue.began ≡ l.initial.dialogue.began
