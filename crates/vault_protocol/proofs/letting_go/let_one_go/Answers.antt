use Rattle.vault_protocol.proofs.LettingGo.{one_gone, none_gone}
use Rattle.vault_protocol.proofs.letting_go.let_one_go.Goals as goal

pub returns-in-One-clause-goes_on : goal.returns-in-One-clause-goes_on
returns-in-One-clause-goes_on g c =
    λ one. one_gone c.args.vault.now c.retire.new.self c.a_vault_keeps_its_history.ensures.sound c.in-One.ensures.retired

pub returns-in-Nothing-clause-ends : goal.returns-in-Nothing-clause-ends
returns-in-Nothing-clause-ends g c =
    λ none. none_gone c.args.vault.now c.retire.new.self c.a_vault_keeps_its_history.ensures.sound c.in-Nothing.ensures.retired
