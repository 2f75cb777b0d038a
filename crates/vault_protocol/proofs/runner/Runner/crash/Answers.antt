use Rattle.std.proofs.Common.{◌∙◌, ◌++◌, ap}
use Rattle.vault_protocol.specs.Waiting.{lines_of}
use Rattle.vault_protocol.proofs.Crashed.{crashed_talk, crashed_text}
use Rattle.vault_protocol.proofs.runner.Runner.crash.Goals as goal

pub returns-clause-state : goal.returns-clause-state
returns-clause-state g c =
    crashed_talk c.self.inside.vault c.lose.new.vault c.in_ok-vault.vault c.self.inside.sessions c.self.inside.asked (lines_of c.self.inside.lines.items) (lines_of c.new.result.items) c.args.self c.args.pick
    c.self.view_is c.in-Ok.ensures.vault c.in_ok-vault.ensures.view c.in_ok-vault.ensures.buffer c.in_ok-vault.ensures.generation c.in_ok-vault.ensures.tail (ap lines_of c.new.ensures.items)

pub returns-clause-text : goal.returns-clause-text
returns-clause-text g c =
    c.in-Ok.ensures.text
    ∙ ap (λ bytes. c.args.out.now.items ++ bytes) (crashed_text c.self.inside.vault c.self.inside.sessions c.self.inside.asked (lines_of c.self.inside.lines.items) c.args.self c.args.pick c.self.view_is)
