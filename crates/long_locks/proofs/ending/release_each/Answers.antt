use Rattle.long_locks.specs.Lines.{ends}
use Rattle.long_locks.proofs.Endings.{none_behind}
use Rattle.long_locks.proofs.ending.release_each.Goals as goal

pub loop-position-init : goal.loop-position-init
loop-position-init g c = λ tree zip. rw (none_behind (ends c.args.ending) c.args.claims.now.claims c.len-position.result c.len-position.ensures) zip
