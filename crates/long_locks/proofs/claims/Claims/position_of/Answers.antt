use Rattle.std.proofs.Common.{◌∙◌}
use Rattle.long_locks.proofs.Keyed.{id_eq, id_eq_is, key_position}
use Rattle.long_locks.proofs.claims.Claims.position_of.Goals as goal

pub returns : goal.returns
returns g c = rw (← c.self.view_is) (c.get_index_of.ensures.index ∙ key_position id_eq id_eq_is c.self.inside.by_id.entries c.args.id c.self.invariant)
