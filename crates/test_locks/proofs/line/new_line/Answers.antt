use Rattle.std.proofs.Common.{subst, sym}
use Rattle.long_locks.specs.Lines.{LineSeen, IsGrownFrom}
use Rattle.long_locks.proofs.Grown.{grown_new}
use Rattle.test_locks.proofs.line.new_line.Goals as goal

pub returns : goal.returns
returns g c = λ tree. subst (λ (l : LineSeen). IsGrownFrom l.tree tree) (sym (rw c.expect.ensures at c.new.ensures)) (grown_new tree)
