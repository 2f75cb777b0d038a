use Rattle.std.proofs.Common.{sym}
use Rattle.vault_state.proofs.FirstPart.{split_at_some, split_at_none}
use Rattle.vault_state.proofs.split.cut.Goals as goal

pub returns-in-Some-clause-parts : goal.returns-in-Some-clause-parts
returns-in-Some-clause-parts c =
    rw (c.split_at.ensures.front, c.split_at-in-Some.ensures.back)
    (split_at_some c.args.separator c.args.text.now c.in-Some.at (sym c.in-Some.ensures.place))

pub returns-in-None-clause-parts : goal.returns-in-None-clause-parts
returns-in-None-clause-parts c = split_at_none c.args.separator c.args.text.now (sym c.in-None.ensures.place)
