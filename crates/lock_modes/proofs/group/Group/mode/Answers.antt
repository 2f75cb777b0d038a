use Rattle.std.proofs.Common.{rules}
use Rattle.lock_modes.proofs.GroupModes.{join_all-members}
use Rattle.lock_modes.proofs.group.Group.mode.Goals as goal

pub returns-then-self-gt0 : goal.returns-then-self-gt0
returns-then-self-gt0 c = rw (join_all-members c.args.self.now) (search rules)

pub returns-then-self-gt0-2 : goal.returns-then-self-gt0-2
returns-then-self-gt0-2 c = rw (join_all-members c.args.self.now) (search rules)

pub returns-then-self-gt0-5 : goal.returns-then-self-gt0-5
returns-then-self-gt0-5 c = rw (join_all-members c.args.self.now) (search rules)

pub returns-then-self-gt0-6 : goal.returns-then-self-gt0-6
returns-then-self-gt0-6 c = rw (join_all-members c.args.self.now) (search rules)

pub returns : goal.returns
returns c = rw (join_all-members c.args.self.now) (search rules)
