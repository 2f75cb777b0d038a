use Rattle.vault_protocol.specs.Waiting.{lines_of}
use Rattle.vault_protocol.proofs.Pumping.{pumped_talk}
use Rattle.vault_protocol.proofs.runner.Runner.pump.Goals as goal

pub returns-clause-state : goal.returns-clause-state
returns-clause-state g c =
    pumped_talk c.self.inside.vault c.pump.new.self c.in-Ok.answer c.self.inside.sessions c.self.inside.asked (lines_of c.self.inside.lines.items) c.args.self.now
    c.self.view_is c.in_default-answer.not-Broken (λ broken. (c.in-Ok.ensures.broken broken).0) c.in-Ok.ensures.answer c.in-Ok.ensures.pumped c.in-Ok.ensures.numbers
