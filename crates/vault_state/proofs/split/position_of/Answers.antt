use Rattle.vault_state.proofs.FirstPart.{first_place, first_within}
use Rattle.vault_state.proofs.split.position_of.Goals as goal

pub returns-clause-place : goal.returns-clause-place
returns-clause-place c = first_place c.args.separator c.args.text.now c.memchr.result c.memchr.ensures

pub returns-clause-within : goal.returns-clause-within
returns-clause-within c = first_within c.args.separator c.args.text.now c.memchr.result c.memchr.ensures
