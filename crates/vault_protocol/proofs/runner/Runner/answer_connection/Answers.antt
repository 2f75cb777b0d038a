use Rattle.vault_protocol.proofs.Hearing.{heard_talk}
use Rattle.vault_protocol.proofs.runner.Runner.answer_connection.Goals as goal

pub returns-clause-state : goal.returns-clause-state
returns-clause-state g c =
    heard_talk c.say.result c.args.self.now c.prepare.new.self c.hear.new.self c.say.new.self c.args.connection c.args.line.now
    c.in_ok-prepare.ensures.state c.in_ok-hear.ensures.state c.say.ensures.state
