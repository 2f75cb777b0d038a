use Rattle.long_locks.specs.declared.ending.Ending.TheVariants.{Session}
use Rattle.long_locks.proofs.Endings.{distinct_claims, line_left}
use Rattle.long_locks.proofs.line.Line.drop_session.Goals as goal

pub drop_all-requires : goal.drop_all-requires
drop_all-requires g c = distinct_claims c.self.inside.tree.value c.self.inside.claims.claims c.self.inside.table c.self.invariant.weighed c.see_whole.ensures.distinct

pub invariant_of-self : goal.invariant_of-self
invariant_of-self g c =
    let zip = rw c.drop_all.ensures.claims at (c.drop_all.ensures.table c.self.inside.tree.value c.self.invariant.weighed) in
    rw c.drop_all.ensures.claims (line_left _ c.self.inside.table c.self.invariant (Session c.args.session) c.drop_all.new.table zip)
