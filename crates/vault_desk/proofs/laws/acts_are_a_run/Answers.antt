use Rattle.vault_desk.proofs.Acts.{acts_are_a_run}
use Rattle.vault_desk.proofs.laws.acts_are_a_run.Goals as goal

pub returns : goal.returns
returns c = acts_are_a_run
