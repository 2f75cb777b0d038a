use Rattle.std.proofs.Common.{◌∙◌}
use Rattle.long_locks.proofs.Keyed.{id_eq, id_eq_is, found}
use Rattle.long_locks.proofs.claims.Claims.get.Goals as goal

pub returns-in_err-kept : goal.returns-in_err-kept
returns-in_err-kept g c = rw (← c.self.view_is, c.from_residual.ensures) (c.in_err-kept.ensures.value ∙ found id_eq id_eq_is c.self.inside.by_id.entries c.args.id c.self.invariant)

pub returns : goal.returns
returns g c = rw (← c.self.view_is, c.claim.ensures) (c.in_ok-kept.ensures.value ∙ found id_eq id_eq_is c.self.inside.by_id.entries c.args.id c.self.invariant)
