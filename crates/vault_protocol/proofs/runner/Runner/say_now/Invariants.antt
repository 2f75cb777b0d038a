use Rattle.std.proofs.Common.{◌≡◌, ◌++◌, length}
use Rattle.vault_protocol.specs.Talk.{said_now}
use Rattle.vault_protocol.proofs.runner.Runner.say_now.Given as goal

abbrev pub invariant-loop-alloc : goal.invariant-loop-alloc
invariant-loop-alloc g l = record {
  texts : l.out.items ++ (said_now l.self).text ≡ l.fn.out.items ++ (said_now l.fn.self).text;
  talks : (said_now l.self).talk ≡ (said_now l.fn.self).talk;
}

abbrev pub decreases-loop-alloc : goal.decreases-loop-alloc
decreases-loop-alloc g l = length l.self.lines
