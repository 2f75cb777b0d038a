use Rattle.std.proofs.Common.{rules}
use Rattle.lock_modes.specs.Groups.{members}
use Rattle.lock_modes.proofs.Joins.{list_all-compatible}
use Rattle.lock_modes.proofs.group.Group.admits.Goals as goal

pub returns-in-Some : goal.returns-in-Some
returns-in-Some c = rw (list_all-compatible (members c.args.self.now) c.args.mode, ← c.in-Some.ensures) (search rules)
