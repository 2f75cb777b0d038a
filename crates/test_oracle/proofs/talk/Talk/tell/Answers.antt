use Rattle.std.proofs.Common.{◌+◌}
use Rattle.test_oracle.proofs.talk.Talk.tell.Goals as goal

pub invariant_of-self-2 : goal.invariant_of-self-2
invariant_of-self-2 c = record { counts = c.act.ensures.counts (c.args.self.now.said + 1) c.args.self.now.counts }
