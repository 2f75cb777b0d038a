use Rattle.std.proofs.Common.{refl}
use Rattle.vault_inspector.proofs.inspecting.read_active.Goals as goal

pub returns-in-Whole-clause-read : goal.returns-in-Whole-clause-read
returns-in-Whole-clause-read g c = λ honest head. (refl, refl, rw c.in-Whole.is at (c.in_ok-book.ensures.body honest c.args.right.version c.args.right.generation head))

pub returns-in-Damaged-clause-read : goal.returns-in-Damaged-clause-read
returns-in-Damaged-clause-read g c = λ honest head. rw c.in-Damaged.is at (c.in_ok-book.ensures.body honest c.args.right.version c.args.right.generation head)
