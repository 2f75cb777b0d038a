use Rattle.long_locks.proofs.Endings.{distinct_claims, line_restarted}
use Rattle.long_locks.proofs.line.Line.restart.Goals as goal

pub drop_all-requires : goal.drop_all-requires
drop_all-requires g c = distinct_claims c.self.inside.tree.value c.self.inside.claims.claims c.self.inside.table c.self.invariant.weighed c.see_whole.ensures.distinct

pub invariant_of-self : goal.invariant_of-self
invariant_of-self g c =
    let zip = rw c.drop_all.ensures.claims at (c.drop_all.ensures.table c.self.inside.tree.value c.self.invariant.weighed) in
    rw c.drop_all.ensures.claims (line_restarted _ c.self.inside.table c.self.invariant c.drop_all.new.table zip)
