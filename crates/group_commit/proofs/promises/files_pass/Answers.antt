use Rattle.group_commit.specs.Seen.{state_of}
use Rattle.group_commit.proofs.promises.files_pass.Goals as goal

pub returns : goal.returns
returns g c = λ x y one_vault honest. c.files_of_one_vault_pass.ensures.reached c.args.vault.now.store (state_of c.args.vault.now.view) x y c.a_vault_keeps_its_history.ensures.store one_vault honest
