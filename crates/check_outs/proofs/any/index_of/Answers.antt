use Rattle.check_outs.proofs.Saved.{if_found}
use Rattle.check_outs.proofs.any.index_of.Goals as goal

pub returns-clause-there : goal.returns-clause-there
returns-clause-there g c = if_found c.args.number c.args.check_outs.now c.position_of.result c.position_of.ensures
